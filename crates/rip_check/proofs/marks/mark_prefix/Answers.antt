use Rattle.std.proofs.Common.{◌+◌, ◌*◌, ◌<◌, ◌∙◌, refl, None, length, arith}
use Rattle.std.proofs.lemmas.Nat.{mul-add-lt}
use Rattle.std.proofs.lemmas.Grind.{common_steps}
use Rattle.rip_check.proofs.MarkLemmas.{one_more_mark, other_mark}
use Rattle.rip_check.proofs.marks.mark_prefix.Goals as goal
use Rattle.rip_check.specs.Cases.{state_of}

pub loop-router-init : goal.loop-router-init
loop-router-init g c = record { marked = λ r lt. absurd (omega (arith, lt)); others = λ r q lt other. refl; size = refl }

pub loop-router-preserved : goal.loop-router-preserved
loop-router-preserved g c =
    let n = c.args.case.now.plan.now in
    let s = state_of c.args.case.now in
    let count = length s.prefixes in
    let i = c.loop-router.router in
    let p = c.args.case.now.prefix in
    let is = c.loop-router.invariant in
    let inside = mul-add-lt i count p (length n.routers) (omega (arith, c.loop-router-test.true, c.routers-router-end.ensures)) c.args.case.now.within in
    let at : i * count + p < length c.loop-router.marks = omega (arith, inside, is.size, c.requires.size) in
    rw c.prefix_count-count.ensures (record {
      marked = one_more_mark None c.loop-router.marks count p c.args.case.now.within (λ r v. g.M.Marking.is_mark c.args.marking.now n s r p v) i c.mark.result at is.marked c.mark.ensures;
      others = λ r q lt other. other_mark None c.loop-router.marks count p i c.mark.result r q c.args.case.now.within lt other ∙ is.others r q lt other;
      size = grind (arith, common_steps, is.size);
    })

pub returns-clause-marked : goal.returns-clause-marked
returns-clause-marked g c = λ r lt. c.loop-router.invariant.marked r (omega (arith, lt, c.loop-router-test.false, c.routers-router-end.ensures))

pub returns-clause-others : goal.returns-clause-others
returns-clause-others g c = c.loop-router.invariant.others
