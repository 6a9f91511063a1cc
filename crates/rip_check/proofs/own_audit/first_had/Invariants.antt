use Rattle.std.proofs.Common.{ℕ, ◌<◌, get_or}
use Rattle.rip_plan.specs.Relations.{IsInterface}
use Rattle.rip_check.specs.ToldCells.{HasHopAcross}
use Rattle.rip_check.proofs.own_audit.first_had.Given as goal

abbrev pub invariant-loop-i : goal.invariant-loop-i
invariant-loop-i l =
    (k m c : ℕ) → k < l.i-index → IsInterface l.plan (get_or l.numbers k 0) l.router m c → (j : ℕ) → HasHopAcross l.plan l.router m l.prefix l.address j → ⊥
