use Rattle.std.proofs.Common.{◌≡◌, ℕ, ◌+◌, ◌*◌, ◌<◌, None, get_or, length}
use Rattle.rip_check.proofs.marks.marks_of.Given as goal

abbrev pub invariant-loop-prefix : goal.invariant-loop-prefix
invariant-loop-prefix g l = record {
  size : length l.marks.items ≡ length l.plan.routers * length (g.T.Table.state l.table).prefixes;
  marks : (r p : ℕ) → r < length l.plan.routers → p < l.prefix →
      g.M.Marking.is_mark l.marking l.plan (g.T.Table.state l.table) r p (get_or l.marks.items (r * length (g.T.Table.state l.table).prefixes + p) None);
  links : length l.links ≡ length l.plan.links;
}
