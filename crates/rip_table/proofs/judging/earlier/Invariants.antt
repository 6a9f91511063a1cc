use Rattle.std.proofs.Common.{◌≡◌, None, take}
use Rattle.rip_table.specs.Numbers.{metric_among}
use Rattle.rip_table.proofs.judging.earlier.Given as goal

abbrev pub invariant-loop-j : goal.invariant-loop-j
invariant-loop-j l = metric_among l.prefix (take l.j l.entries) ≡ None
