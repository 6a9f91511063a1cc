use Rattle.std.proofs.Common.{◌≡◌, length}
use Rattle.rip_check.specs.Firsts.{IsFirstAt}
use Rattle.rip_check.specs.OwnVerdicts.{IsOwnSound}
use Rattle.rip_check.specs.Told.{told}
use Rattle.rip_check.proofs.own_audit.first_wrong_place.Given as goal

abbrev pub invariant-loop-prefix : goal.invariant-loop-prefix
invariant-loop-prefix g l = record {
  found : IsFirstAt l.plan l.prefix (IsOwnSound l.plan (told l.plan (g.T.Table.state l.table)) (g.G.RouteTables.tables l.tables)) l.found;
  size : length l.links ≡ length l.plan.links;
}
