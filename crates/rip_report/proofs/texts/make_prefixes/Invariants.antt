use Rattle.std.proofs.Common.{◌≡◌, ◌<◌, ◌++◌, ℕ, Some, codes, length}
use Rattle.std.specs.List.{slice_get}
use Rattle.rip_wire.specs.Prefix.{Block, prefix_text}
use Rattle.rip_report.specs.Texts.{IsText}
use Rattle.rip_report.proofs.texts.make_prefixes.Given as goal

abbrev pub invariant-loop-k : goal.invariant-loop-k
invariant-loop-k g l = record {
  size : length l.texts ≡ 2048;
  made : (j : ℕ) (p : Block) → j < l.k → slice_get (g.T.Table.state l.table).prefixes j ≡ Some p → IsText l.texts j (prefix_text p ++ codes " ");
}
