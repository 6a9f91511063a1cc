use Rattle.std.proofs.Common.{◌≡◌, length}
use Rattle.rip_check.specs.Verdicts.{IsFirstPlace}
use Rattle.rip_check.proofs.audit.first_place.Given as goal
use Rattle.rip_check.specs.Told.{told}

abbrev pub invariant-loop-prefix : goal.invariant-loop-prefix
invariant-loop-prefix g l = record {
  found : IsFirstPlace l.plan (told l.plan (g.T.Table.state l.table)) l.prefix l.found;
  size : length l.links ≡ length l.plan.links;
}
