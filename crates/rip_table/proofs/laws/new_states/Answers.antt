use Rattle.std.proofs.Common.{[], append-nil, refl, sym}
use Rattle.rip_table.specs.State.{new_state}
use Rattle.rip_table.proofs.NewLemmas.{empty-is}
use Rattle.rip_table.proofs.laws.new_states.Goals as goal

pub returns : goal.returns
returns c n lawful = (
  empty-is n lawful (new_state n) refl (λ i p. refl),
  record { interfaces = refl; others = []; prefixes = sym (append-nil n.prefixes); unplanned = λ k p is. refl },
)
