use Rattle.std.proofs.Common.{◌≡◌, ◌++◌, take, drop}
use Rattle.rip_routes.specs.RouteLines.{before_comma}
use Rattle.rip_routes.proofs.words.before_comma.Given as goal

abbrev pub invariant-loop-at : goal.invariant-loop-at
invariant-loop-at l = before_comma l.line ≡ take l.at l.line ++ before_comma (drop l.at l.line)
