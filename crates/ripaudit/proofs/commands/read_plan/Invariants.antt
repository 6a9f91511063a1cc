use Rattle.std.proofs.Common.{◌≡◌, ◌≤◌, ◌++◌, ◌-◌, length, true}
use Rattle.ripaudit.proofs.commands.read_plan.Given as goal

abbrev pub invariant-pieces : goal.invariant-pieces
invariant-pieces g l = record {
  given : g.R.Source.given l.file ≡ g.R.Source.given l.fn.file ++ l.bytes.items;
  few : length l.bytes.items ≤ 1052672;
  failed : g.R.Source.broken l.file ≡ true → g.R.Source.broken l.fn.file ≡ true;
  fails_on : g.R.Source.broken l.fn.file ≡ true → g.R.Source.broken l.file ≡ true;
}

abbrev pub decreases-pieces : goal.decreases-pieces
decreases-pieces g l = 1048577 - length l.bytes.items
