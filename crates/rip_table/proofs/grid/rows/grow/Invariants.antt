use Rattle.std.proofs.Common.{◌≡◌, ◌≤◌, ◌<◌, ℕ, Some, take, drop, length}
use Rattle.std.specs.List.{slice_get, slice_index_or}
use Rattle.rip_wire.specs.Prefix.{Block}
use Rattle.rip_wire.specs.declared.entry.Entry.{Entry}
use Rattle.rip_plan.specs.Network.{number_of_prefix}
use Rattle.rip_table.specs.Rows.{heads, rows_of, with_rows}
use Rattle.rip_table.proofs.grid.rows.grow.Given as goal

abbrev pub invariant-loop-j : goal.invariant-loop-j
invariant-loop-j g l = record {
  told : with_rows g.C.GridCell.blank_cell l.width (rows_of l.rows.entries) (drop l.j l.entries) ≡ with_rows g.C.GridCell.blank_cell l.width (rows_of l.fn.rows.entries) l.entries;
  kept : (p : Block) (k : ℕ) → number_of_prefix p (heads (rows_of l.fn.rows.entries)) ≡ Some k → number_of_prefix p (heads (rows_of l.rows.entries)) ≡ Some k;
  room : length l.row_numbers ≡ 25;
  row_numbers : (k : ℕ) (e : Entry) → k < l.j → slice_get l.entries k ≡ Some e → number_of_prefix e.prefix (heads (rows_of l.rows.entries)) ≡ Some (slice_index_or l.row_numbers k 0);
  longer : length l.fn.rows.entries ≤ length l.rows.entries;
  front : take (length l.fn.rows.entries) (rows_of l.rows.entries) ≡ rows_of l.fn.rows.entries;
}
