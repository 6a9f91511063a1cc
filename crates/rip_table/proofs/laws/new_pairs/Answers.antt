use Rattle.rip_table.proofs.PairLemmas.{brings_of, pair_of}
use Rattle.rip_table.proofs.laws.new_pairs.Goals as goal

pub returns : goal.returns
returns c i s entries = (pair_of i s entries, λ h. brings_of i s entries h.0 h.1 h.2 h.3)
