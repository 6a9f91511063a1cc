use Rattle.std.proofs.Common.{◌≡◌, true, false, sym, ◌∙◌}
use Rattle.std.specs.HashSet.{contains}
use Rattle.rip_plan.specs.Addresses.{have_one_address}
use Rattle.rip_plan.specs.Network.{pair_eq}
use Rattle.rip_plan.proofs.ClashLemmas.{clash_here, clash_later, not_added, added, seen_more}
use Rattle.rip_plan.proofs.passes.first_taken.Goals as goal

pub returns-then-not-branch : goal.returns-then-not-branch
returns-then-not-branch c =
    let x = c.index-held-k.result in
    let seen : contains pair_eq c.loop-k.seen (x.link, x.address) ≡ true =
    rw c.get.ensures at (not_added (contains pair_eq c.loop-k.seen (x.link, c.get.result)) c.in_ok-insert.field-0 c.in_ok-insert.ensures.added c.if-not-branch.true) in
    clash_here have_one_address c.args.held.now c.loop-k.k x c.loop-k-test.true c.index-held-k.is _ (sym (c.loop-k.invariant.1 x.link x.address) ∙ seen) c.loop-k.invariant.0

pub loop-k-preserved : goal.loop-k-preserved
loop-k-preserved c =
    let x = c.index-held-k.result in
    let new : contains pair_eq c.loop-k.seen (x.link, x.address) ≡ false =
    rw c.get.ensures at (added (contains pair_eq c.loop-k.seen (x.link, c.get.result)) c.in_ok-insert.field-0 c.in_ok-insert.ensures.added c.if-not-branch.false) in (
      clash_later have_one_address c.args.held.now c.loop-k.k x c.loop-k-test.true c.index-held-k.is _ (sym (c.loop-k.invariant.1 x.link x.address) ∙ new) c.loop-k.invariant.0,
      λ a b. c.in_ok-insert.ensures.updates.0 (a, b)
          ∙ rw (c.get.ensures, c.loop-k.invariant.1 a b) (seen_more (λ h. pair_eq (h.link, h.address) (a, b)) c.args.held.now c.loop-k.k x c.loop-k-test.true c.index-held-k.is),
    )
