use Rattle.std.proofs.Common.{◌≡◌, is_none, take}
use Rattle.std.specs.List.{list_any}
use Rattle.rip_table.proofs.CheckLemmas.{Checked}
use Rattle.rip_table.proofs.NotedLemmas.{IsNoted}
use Rattle.rip_table.proofs.judging.check.Given as goal

abbrev pub invariant-loop-j : goal.invariant-loop-j
invariant-loop-j g l = record {
  checked : Checked l.plan l.interface (g.T.Table.state l.table) l.entries l.j l.count;
  brings : l.brings ≡ list_any (λ e. is_none ((g.T.Table.state l.table).shows l.interface e.prefix)) (take l.j l.entries);
  noted : IsNoted (g.T.Table.state l.table).prefixes (take l.j l.entries) l.noted.flags;
}
