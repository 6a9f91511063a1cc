use Rattle.std.proofs.Common.{◌≡◌, Some, None, Option, ℕ}
use Rattle.rip_report.specs.ExplainText.{direct, not_direct}
use Rattle.rip_report.proofs.OutLemmas.{adds_nothing, adds_one}
use Rattle.rip_report.proofs.explain.places.add_direct.Goals as goal

pub returns-in-Some : goal.returns-in-Some
returns-in-Some g c =
    adds_one (direct c.in-Some.cost c.keeps-is_kept.result ((c.direct_cost.ensures c.in-Some.cost).0 c.in-Some.is) c.keeps-is_kept.ensures) c.push_direct_line.ensures

never : (o : Option ℕ) (c : ℕ) → o ≡ None → o ≡ Some c → ⊥
never o c none some = absurd (cc)

pub returns-in_default : goal.returns-in_default
returns-in_default g c = adds_nothing (not_direct (λ cost is. never c.direct_cost.result cost c.in_default.is ((c.direct_cost.ensures cost).1 is)))
