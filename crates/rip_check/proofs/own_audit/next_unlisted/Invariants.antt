use Rattle.std.proofs.Common.{◌≡◌, ℕ, ◌≤◌, ◌<◌, true}
use Rattle.rip_check.proofs.own_audit.next_unlisted.Given as goal

abbrev pub invariant-loop-router : goal.invariant-loop-router
invariant-loop-router g l = (q : ℕ) → l.fn.from ≤ q → q < l.router → (g.G.RouteTables.tables l.tables).listed q ≡ true
