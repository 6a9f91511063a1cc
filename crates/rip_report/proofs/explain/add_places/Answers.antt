use Rattle.std.proofs.Common.{refl}
use Rattle.rip_report.proofs.OutLemmas.{added_also}
use Rattle.rip_report.proofs.explain.add_places.Goals as goal

pub returns : goal.returns
returns g c = record { text = added_also (λ text lines. (lines, refl)) c.add_pairs.ensures; nothing = tt }
