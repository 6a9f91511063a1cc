use Rattle.std.proofs.Common.{◌≤◌, length, arith}
use Rattle.rip_check.specs.TwoLeasts.{shown_of}
use Rattle.rip_check.proofs.StepLemmas.{reached}
use Rattle.rip_check.proofs.links.fill_all.Goals as goal
use Rattle.rip_check.specs.Cases.{told_in}

pub loop-i-init : goal.loop-i-init
loop-i-init g c = record { size = c.reset.auto.links; free = c.reset.ensures.free; two = c.reset.ensures.nothing c.args.case.now.plan.now (shown_of (told_in c.args.case.now) c.args.case.now.prefix) }

pub loop-i-preserved : goal.loop-i-preserved
loop-i-preserved g c =
    record {
      size = omega (arith, c.add_interface.auto.links, c.loop-i.invariant.size);
      free = c.add_interface.ensures.free c.loop-i.invariant.free;
      two = c.add_interface.ensures.least (shown_of (told_in c.args.case.now) c.args.case.now.prefix) (λ s l d its. c.seen_at-metric.ensures.value) c.loop-i.invariant.two;
    }

pub returns-clause-least : goal.returns-clause-least
returns-clause-least g c = λ l two e.
    let is = c.loop-i.invariant.two l two e in
    let big : length c.args.case.now.plan.now.interfaces ≤ c.loop-i.i = omega (arith, c.loop-i-test.false) in
    reached c.args.case.now.plan.now (shown_of (told_in c.args.case.now) c.args.case.now.prefix) l c.loop-i.i two big is
