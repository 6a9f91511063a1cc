use Rattle.std.proofs.Common.{◌≡◌, true, false, sym, ap, ◌∙◌}
use Rattle.std.specs.Prelude.{option_map}
use Rattle.std.specs.HashSet.{contains}
use Rattle.rip_plan.specs.Network.{pair_eq}
use Rattle.rip_plan.specs.Passes.{are_twice}
use Rattle.rip_plan.specs.declared.draft.DraftInterface.{DraftInterface}
use Rattle.rip_plan.proofs.ClashLemmas.{clash_here, clash_later, not_added, added, seen_more}
use Rattle.rip_plan.proofs.passes.first_twice.Goals as goal

pub returns-then-not-branch : goal.returns-then-not-branch
returns-then-not-branch c =
    let x = c.index-interfaces-k.result in
    let seen : contains pair_eq c.loop-k.seen (x.interface.router, x.interface.link) ≡ true = not_added _ c.in_ok-insert.field-0 c.in_ok-insert.ensures.added c.if-not-branch.true in
    ap (option_map (λ (i : DraftInterface). i.at)) (clash_here are_twice c.args.interfaces.now c.loop-k.k x c.loop-k-test.true c.index-interfaces-k.is _
    (sym (c.loop-k.invariant.1 x.interface.router x.interface.link) ∙ seen) c.loop-k.invariant.0)

pub loop-k-preserved : goal.loop-k-preserved
loop-k-preserved c =
    let x = c.index-interfaces-k.result in
    let new : contains pair_eq c.loop-k.seen (x.interface.router, x.interface.link) ≡ false = added _ c.in_ok-insert.field-0 c.in_ok-insert.ensures.added c.if-not-branch.false in (
      clash_later are_twice c.args.interfaces.now c.loop-k.k x c.loop-k-test.true c.index-interfaces-k.is _ (sym (c.loop-k.invariant.1 x.interface.router x.interface.link) ∙ new) c.loop-k.invariant.0,
      λ a b. c.in_ok-insert.ensures.updates.0 (a, b)
          ∙ rw (c.loop-k.invariant.1 a b) (seen_more (λ i. pair_eq (i.interface.router, i.interface.link) (a, b)) c.args.interfaces.now c.loop-k.k x c.loop-k-test.true c.index-interfaces-k.is),
    )
