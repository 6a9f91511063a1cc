use Rattle.std.proofs.Common.{◌≡◌, ◌≤◌, length}
use Rattle.std.specs.Vec.{vec_len, vec_capacity}
use Rattle.rip_check.specs.ToldCells.{AreToldRows, rows_of}
use Rattle.rip_check.proofs.told_table.ToldTable.find.Given as goal

abbrev pub invariant-loop-prefix : goal.invariant-loop-prefix
invariant-loop-prefix g l = record {
  told : AreToldRows l.plan (g.G.RouteTables.tables l.tables) (rows_of l.rows.items);
  items : length l.rows.items ≡ l.prefix;
  len : vec_len l.rows ≡ l.prefix;
  room : length (g.G.RouteTables.tables l.tables).prefixes ≤ vec_capacity l.rows;
}
