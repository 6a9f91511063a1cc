use Rattle.std.proofs.Common.{◌≡◌, ◌<◌, Option, Some, None, IfSome, is_some, true, below_more, length, arith}
use Rattle.rip_check.specs.Cases.{told_in}
use Rattle.rip_check.specs.Verdicts.{route_of}
use Rattle.rip_check.specs.declared.routes.ReadRoute.{ReadRoute}
use Rattle.rip_check.proofs.CaseLemmas.{in_range_plan}
use Rattle.rip_check.proofs.ReadableLemmas.{route_readable}
use Rattle.rip_check.proofs.audit.first_unreadable.Goals as goal

of_some : {P : ReadRoute → Type 0} {Q R : Type 0} (o : Option ReadRoute) → IfSome o P → IfSome o (λ _. Q) → is_some o ≡ true → ((t : ReadRoute) → P t → Q → R) → R
of_some None h k e then = absurd cc
of_some (Some t) h k e then = then t h k

pub loop-router-preserved : goal.loop-router-preserved
loop-router-preserved g c =
    let case = c.args.case.now in
    let n = case.plan.now in
    let r = c.loop-router.router in
    let known : r < length n.routers = omega (arith, c.loop-router-test.true, c.requires) in
    below_more _ _ c.loop-router.invariant (of_some c.read.result c.read.ensures.some c.read.ensures.quiet c.if-is_none.ensures
    (λ t is quiet. route_readable n c.lawful.ensures (told_in case) (in_range_plan case) r case.prefix (route_of t) known (record { quiet = quiet; fits = is.fits })))
