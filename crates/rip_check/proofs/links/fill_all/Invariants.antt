use Rattle.std.proofs.Common.{◌≡◌, length}
use Rattle.rip_check.specs.TwoLeasts.{AreFree, AreTwoLeastBefore, shown_of}
use Rattle.rip_check.proofs.links.fill_all.Given as goal
use Rattle.rip_check.specs.Cases.{told_in}

abbrev pub invariant-loop-i : goal.invariant-loop-i
invariant-loop-i g l = record {
  size : length l.links ≡ length l.fn.links;
  free : AreFree l.links;
  two : AreTwoLeastBefore l.case.plan.now (shown_of (told_in l.case) l.case.prefix) l.i l.links;
}
