use Rattle.std.proofs.Common.{◌≡◌, ◌↔◌, ℕ, inl, inr, Some, None, refl, sym, ◌∙◌, arith}
use Rattle.std.proofs.lemmas.Bool.Decides.{not_from_Decides}
use Rattle.rip_plan.specs.Relations.{IsDirect}
use Rattle.rip_check.specs.Cases.{block_of, network_of, state_of, told_in}
use Rattle.rip_check.specs.Metrics.{metric_at}
use Rattle.rip_check.specs.Tables.{IsLeastOffer}
use Rattle.rip_check.proofs.LeafRouterLemmas.{here_fits, least_offer, nowhere_fits, nowhere_one, nowhere_shows, over_fits}
use Rattle.rip_check.proofs.NetLemmas.{direct_at, its}
use Rattle.rip_check.proofs.OnePlaceLemmas.{poison_is}
use Rattle.rip_check.proofs.PlanLemmas.{direct_most, held_back_direct}
use Rattle.rip_check.proofs.routes.silent_leaf.Goals as goal

pub returns-then-may_hold_back : goal.returns-then-may_hold_back
returns-then-may_hold_back g c =
    let n = network_of c.args.case.now in
    let p = c.args.case.now.prefix in
    let own = c.args.own in
    let leaf = c.requires.leaf in
    let silent = rw leaf.2 at c.requires.silent in
    let on = (c.may_hold_back.ensures own.router c.attached_link-attached.ensures).0 c.if-may_hold_back.true in
    let some = held_back_direct n c.lawful.ensures.network own.router p own.link (own.cost, (leaf.0, leaf.1.has)) on in
    let case = c.args.case.now in
    let by_plan : (v : ℕ) → IsDirect n own.router p v ↔ IsDirect case.plan.now own.router p v = λ v. direct_at case.plan.now c.lawful.ensures.plan (state_of case) case.fits own.router p v c.requires.router in
    let direct : IsDirect n own.router p c.direct_or_16.result = elim c.direct_or_16.ensures.chosen [
      | inl big ↦ absurd (omega (arith, big, c.direct_or_16.ensures.least some.0 ((by_plan some.0).0 some.1), direct_most n c.lawful.ensures.network own.router p some.0 some.1))
      | inr is ↦ (by_plan c.direct_or_16.result).1 is
    ] in
    record {
      most = c.direct_or_16.ensures.most;
      fits = here_fits n (told_in c.args.case.now) own.router leaf.0 p own refl leaf.1 c.lawful.ensures.network silent on c.direct_or_16.result direct;
      hidden = (λ t. inl (leaf.0, own.link, own.cost, leaf.1, inl (on, silent)), λ h. refl);
      one = inl refl;
    }

pub returns-in-None : goal.returns-in-None
returns-in-None g c =
    let n = network_of c.args.case.now in
    let p = c.args.case.now.prefix in
    let own = c.args.own in
    let leaf = c.requires.leaf in
    let off = not_from_Decides c.may_hold_back.result (c.may_hold_back.ensures own.router c.attached_link-attached.ensures) c.if-may_hold_back.false in
    let e : metric_at (told_in c.args.case.now) leaf.0 p ≡ None = sym leaf.2 ∙ c.in-None.is in
    record {
      most = omega arith;
      fits = nowhere_fits n (told_in c.args.case.now) own.router leaf.0 p own refl leaf.1 (inl e) off (λ is. cc (e, is));
      hidden = (λ t. cc t, λ h. absurd (nowhere_shows n (told_in c.args.case.now) own.router leaf.0 p own refl leaf.1 e off h));
      one = inr (nowhere_one n (told_in c.args.case.now) own.router leaf.0 p own refl leaf.1 e off);
    }

pub returns-then-least-lt16 : goal.returns-then-least-lt16
returns-then-least-lt16 g c =
    let n = network_of c.args.case.now in
    let shown = told_in c.args.case.now in
    let p = c.args.case.now.prefix in
    let own = c.args.own in
    let leaf = c.requires.leaf in
    let e : metric_at shown leaf.0 p ≡ Some 16 = poison_is (metric_at shown leaf.0 p) c.in-Some.field-0 (rw leaf.2 at c.requires.silent) (sym leaf.2 ∙ c.in-Some.is) in
    let off = not_from_Decides c.may_hold_back.result (c.may_hold_back.ensures own.router c.attached_link-attached.ensures) c.if-may_hold_back.false in
    let least = c.best_over-least.ensures in
    let so = least_offer n shown own.router leaf.0 p own refl leaf.1 c.best_over-least.result least.at_most least.least least.chosen in
    record {
      most = least.at_most;
      fits = over_fits n shown own.router leaf.0 p own refl leaf.1 c.lawful.ensures.network e off c.best_over-least.result so c.if-least-lt16.true;
      hidden = (λ t. inl (leaf.0, own.link, own.cost, leaf.1, inr (off, e)), λ h. refl);
      one = inl refl;
    }

pub returns-else-least-lt16 : goal.returns-else-least-lt16
returns-else-least-lt16 g c =
    let n = network_of c.args.case.now in
    let shown = told_in c.args.case.now in
    let p = c.args.case.now.prefix in
    let own = c.args.own in
    let leaf = c.requires.leaf in
    let e : metric_at shown leaf.0 p ≡ Some 16 = poison_is (metric_at shown leaf.0 p) c.in-Some.field-0 (rw leaf.2 at c.requires.silent) (sym leaf.2 ∙ c.in-Some.is) in
    let off = not_from_Decides c.may_hold_back.result (c.may_hold_back.ensures own.router c.attached_link-attached.ensures) c.if-may_hold_back.false in
    let least = c.best_over-least.ensures in
    let is : c.best_over-least.result ≡ 16 = omega (arith, least.at_most, c.if-least-lt16.false) in
    let so = least_offer n shown own.router leaf.0 p own refl leaf.1 c.best_over-least.result least.at_most least.least least.chosen in
    let so' : IsLeastOffer n shown own.router p 16 = rw is at so in
    record {
      most = least.at_most;
      fits = rw is (nowhere_fits n shown own.router leaf.0 p own refl leaf.1 (inr e) off (λ same. so'));
      hidden = (λ t. inl (leaf.0, own.link, own.cost, leaf.1, inr (off, e)), λ h. refl);
      one = inl refl;
    }

pub best_over-least-requires-clause-own : goal.best_over-least-requires-clause-own
best_over-least-requires-clause-own g c =
    let own = c.args.own in
    let case = c.args.case.now in
    let leaf = c.requires.leaf in
    (leaf.0, (its case.plan.now c.lawful.ensures.plan (block_of case) leaf.0 own.router own.link own.cost c.requires.router leaf.1.has).0)
