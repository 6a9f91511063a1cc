use Rattle.std.proofs.Common.{ℕ, ◌<◌, IsTrue, get_or}
use Rattle.rip_report.proofs.explain.troubles.any_heard.Given as goal

-- no interface at a place before was heard
abbrev pub invariant-loop-i : goal.invariant-loop-i
invariant-loop-i g l = record {
  none : (k : ℕ) → k < l.i-index → IsTrue ((g.T.Table.state l.table).heard (get_or l.numbers k 0)) → ⊥;
}
