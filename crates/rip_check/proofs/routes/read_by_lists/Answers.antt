use Rattle.std.proofs.Common.{Option, Some, None, IfSome, sym, ◌∙◌}
use Rattle.rip_check.specs.Cases.{network_of, told_in}
use Rattle.rip_check.specs.Tables.{IsQuiet}
use Rattle.rip_check.proofs.OwnedLemmas.{within}
use Rattle.rip_check.proofs.ReachLemmas.{loud_unread, not_loud}
use Rattle.rip_check.proofs.SilenceLemmas.{none_there, some_there}
use Rattle.rip_check.proofs.routes.read_by_lists.Goals as goal

for_any : {A : Type 0} (o : Option A) (P : Type 0) → P → IfSome o (λ x. P)
for_any None P is = tt
for_any (Some x) P is = is

pub returns-then-is_some-clause-none : goal.returns-then-is_some-clause-none
returns-then-is_some-clause-none g c =
    let case = c.args.case.now in
    loud_unread case.plan.now (told_in case) c.args.router case.prefix c.reach_of-reach.result.loud c.reach_of-reach.ensures.loud (some_there c.reach_of-reach.result.loud (sym c.is_some.ensures ∙ c.if-is_some.true))

pub lone_route-requires-clause-off : goal.lone_route-requires-clause-off
lone_route-requires-clause-off g c = λ i l d at.
    let net = network_of c.args.case.now in
    c.reach_of-reach.ensures.reach.none c.in-None.is i l d (within net i c.args.router l d at) at

pub leaf_route-requires-clause-leaf : goal.leaf_route-requires-clause-leaf
leaf_route-requires-clause-leaf g c =
    let net = network_of c.args.case.now in
    let only = c.in-Some.only in
    let (l, d, at) = c.reach_of-reach.ensures.reach.some only c.in-Some.is in
    (l, d, record { has = at; only = λ j m f other. c.reach_of-reach.ensures.reach.one c.if-reach.false only j m f c.in-Some.is (within net j c.args.router m f other) other })

pub returns-in-None-clause-quiet : goal.returns-in-None-clause-quiet
returns-in-None-clause-quiet g c =
    let case = c.args.case.now in
    not_loud case.plan.now (told_in case) c.args.router case.prefix c.reach_of-reach.result.loud c.reach_of-reach.ensures.loud (none_there c.reach_of-reach.result.loud (sym c.is_some.ensures ∙ c.if-is_some.false))

pub returns-then-reach-clause-quiet : goal.returns-then-reach-clause-quiet
returns-then-reach-clause-quiet g c =
    let case = c.args.case.now in
    for_any c.read_route.result (IsQuiet case.plan.now (told_in case) c.args.router case.prefix)
    (not_loud case.plan.now (told_in case) c.args.router case.prefix c.reach_of-reach.result.loud c.reach_of-reach.ensures.loud (none_there c.reach_of-reach.result.loud (sym c.is_some.ensures ∙ c.if-is_some.false)))

pub returns-else-reach-clause-quiet : goal.returns-else-reach-clause-quiet
returns-else-reach-clause-quiet g c =
    let case = c.args.case.now in
    for_any c.leaf_route.result (IsQuiet case.plan.now (told_in case) c.args.router case.prefix)
    (not_loud case.plan.now (told_in case) c.args.router case.prefix c.reach_of-reach.result.loud c.reach_of-reach.ensures.loud (none_there c.reach_of-reach.result.loud (sym c.is_some.ensures ∙ c.if-is_some.false)))
