use Rattle.std.proofs.Common.{ℕ, ◌<◌}
use Rattle.rip_routes.specs.OwnTables.{route_at}
use Rattle.rip_check.specs.Cases.{network_of, told_in}
use Rattle.rip_check.specs.OwnSettled.{OwnHolds}
use Rattle.rip_check.proofs.own_audit.first_wrong_router.Given as goal

abbrev pub invariant-loop-router : goal.invariant-loop-router
invariant-loop-router g l =
    (s : ℕ) → s < l.router → OwnHolds (network_of l.case) (told_in l.case) s l.case.prefix (route_at (g.G.RouteTables.tables l.tables) s l.case.prefix)
