use Rattle.std.proofs.Common.{◌≡◌, inr, sym, ◌∙◌, arith}
use Rattle.std.proofs.lemmas.Bool.Decides.{not_from_Decides}
use Rattle.rip_check.specs.Metrics.{metric_at}
use Rattle.rip_check.proofs.NetLemmas.{its, leaf_own}
use Rattle.rip_check.proofs.OwnedLemmas.{within}
use Rattle.rip_check.proofs.LeafRouterLemmas.{low_fits, not_told, low_one, low_shows}
use Rattle.rip_check.proofs.PlanLemmas.{attached_test}
use Rattle.rip_check.proofs.routes.leaf_route.Goals as goal
use Rattle.rip_check.proofs.routes.leaf_route.Goals.{in_default-via-in-Some+else-metric-lt16, in_default-via-in_default}
use Rattle.rip_check.specs.Cases.{block_of, network_of, told_in}

pub interface-own-requires : goal.interface-own-requires
interface-own-requires g c =
    let case = c.args.case.now in
    let leaf = c.requires.leaf in
    let at = (its case.plan.now c.lawful.ensures.plan (block_of case) c.args.only c.args.router leaf.0 leaf.1 c.requires.router leaf.2.has).0 in
    within case.plan.now c.args.only c.args.router leaf.0 leaf.1 at

pub told_at-told-requires : goal.told_at-told-requires
told_at-told-requires g c =
    within c.args.case.now.plan.now c.args.only c.interface-own.result.router c.interface-own.result.link c.interface-own.result.cost c.interface-own.ensures.is

pub silent_leaf-requires-clause-router : goal.silent_leaf-requires-clause-router
silent_leaf-requires-clause-router g c = c.lawful.ensures.plan.router_known _ _ _ _ c.interface-own.ensures.is

pub returns-then-eq : goal.returns-then-eq
returns-then-eq g c =
    let n = network_of c.args.case.now in
    let shown = (told_in c.args.case.now) in
    let i = c.args.only in
    let own = c.interface-own.result in
    let alone = c.requires.leaf in
    let only = leaf_own c.args.case.now.plan.now c.lawful.ensures.plan (block_of c.args.case.now) c.args.only c.args.router alone.0 alone.1 own c.requires.router alone.2 c.interface-own.ensures.is in
    let m = c.in-Some.metric in
    let e = sym {b = metric_at shown i c.args.case.now.prefix} c.told_at-told.ensures.metric ∙ c.in-Some.is in
    let d = attached_test n c.args.router c.args.case.now.prefix own.link c.attached_link.result c.eq.result c.attached_link.ensures c.eq.ensures in
    record {
      some = tt;
      none = λ h. not_told n shown c.args.router i c.args.case.now.prefix own only.0 only.1 m c.if-metric-lt16.true e (d.0 c.if-eq.true) h.0 h.1;
    }

pub returns-else-eq : goal.returns-else-eq
returns-else-eq g c =
    let n = network_of c.args.case.now in
    let shown = (told_in c.args.case.now) in
    let i = c.args.only in
    let own = c.interface-own.result in
    let alone = c.requires.leaf in
    let only = leaf_own c.args.case.now.plan.now c.lawful.ensures.plan (block_of c.args.case.now) c.args.only c.args.router alone.0 alone.1 own c.requires.router alone.2 c.interface-own.ensures.is in
    let m = c.in-Some.metric in
    let e = sym {b = metric_at shown i c.args.case.now.prefix} c.told_at-told.ensures.metric ∙ c.in-Some.is in
    let d = attached_test n c.args.router c.args.case.now.prefix own.link c.attached_link.result c.eq.result c.attached_link.ensures c.eq.ensures in
    record {
      some = record {
        most = omega (arith, c.if-metric-lt16.true);
        fits = low_fits n shown c.args.router i c.args.case.now.prefix own only.0 only.1 m c.in-Some.ensures.range.0 c.if-metric-lt16.true e (not_from_Decides c.eq.result d c.if-eq.false);
        hidden = (λ t. cc t, λ h. absurd (low_shows n shown c.args.router i c.args.case.now.prefix own only.0 only.1 m c.if-metric-lt16.true e h));
        one = inr (low_one n shown c.args.router i c.args.case.now.prefix own only.0 only.1 m c.if-metric-lt16.true e);
      };
      none = tt;
    }

pub silent_leaf-requires-clause-leaf : goal.silent_leaf-requires-clause-leaf
silent_leaf-requires-clause-leaf g c =
    let alone = c.requires.leaf in
    let own = c.interface-own.result in
    let only = leaf_own c.args.case.now.plan.now c.lawful.ensures.plan (block_of c.args.case.now) c.args.only c.args.router alone.0 alone.1 own c.requires.router alone.2 c.interface-own.ensures.is in
    let same : c.in_default.told ≡ c.told_at-told.result = elim c.in_default.branch [
      | in_default-via-in-Some+else-metric-lt16 w ↦ w.told-is ∙ sym w.in-Some.is
      | in_default-via-in_default w ↦ w.told-is
    ] in
    (c.args.only, rw only.0 only.1, same ∙ c.told_at-told.ensures.metric)

pub returns-in_default : goal.returns-in_default
returns-in_default g c =
    let alone = c.requires.leaf in
    let own = c.interface-own.result in
    let only = leaf_own c.args.case.now.plan.now c.lawful.ensures.plan (block_of c.args.case.now) c.args.only c.args.router alone.0 alone.1 own c.requires.router alone.2 c.interface-own.ensures.is in
    record { some = rw only.0 at c.silent_leaf.ensures; none = tt }
