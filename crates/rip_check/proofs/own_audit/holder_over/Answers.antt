use Rattle.std.proofs.Common.{◌≡◌, Decides, refl, sym}
use Rattle.std.proofs.lemmas.Bool.Decides.{not_from_Decides}
use Rattle.std.proofs.lemmas.Option.{none-some, same_Some}
use Rattle.rip_check.specs.Cases.{block_of, network_of, told_in}
use Rattle.rip_check.specs.ToldCells.{IsOneHolder}
use Rattle.rip_check.specs.Tables.{Offers}
use Rattle.rip_check.proofs.AcrossLemmas.{heard_from}
use Rattle.rip_check.proofs.HolderLemmas.{holder_offers, holder_was, offers_heard, one_holder}
use Rattle.rip_check.proofs.NetLemmas.{cost_here, here}
use Rattle.rip_check.proofs.OwnedLemmas.{its_link, within}
use Rattle.rip_check.proofs.own_audit.holder_over.Goals as goal

pub exchanges-requires : goal.exchanges-requires
exchanges-requires g c = c.lawful.ensures.plan.link_known _ _ _ _ c.requires.own.1

pub returns-then-not-exchanges-clause-none : goal.returns-then-not-exchanges-clause-none
returns-then-not-exchanges-clause-none g c = λ s holder.
    let case = c.args.case.now in
    let own = c.args.own in
    let exchanged = (holder_was case.plan.now c.lawful.ensures.plan (block_of case) own.router own.link c.args.address s c.requires.router holder).0 in
    not_from_Decides _ c.exchanges.ensures c.if-not-exchanges.true exchanged

pub interface-neighbour-requires : goal.interface-neighbour-requires
interface-neighbour-requires g c =
    let h = (c.in-Some.ensures c.in-Some.across).0 refl in
    within c.args.case.now.plan.now c.in-Some.across h.router c.args.own.link h.cost h.its

pub is_offered_from-requires : goal.is_offered_from-requires
is_offered_from-requires g c =
    let h = (c.in-Some.ensures c.in-Some.across).0 refl in
    within c.args.case.now.plan.now c.in-Some.across h.router c.args.own.link h.cost h.its

pub returns-in-Some-clause-some : goal.returns-in-Some-clause-some
returns-in-Some-clause-some g c =
    let case = c.args.case.now in
    let n = case.plan.now in
    let laws = c.lawful.ensures.plan in
    let b = block_of case in
    let own = c.args.own in
    let net = network_of case in
    let told = told_in case in
    let j = c.in-Some.across in
    let x = c.interface-neighbour.result in
    let h = (c.in-Some.ensures j).0 refl in
    let exchanged = c.exchanges.ensures.0 c.if-not-exchanges.false in
    let its = cost_here n laws b own.router own.link own.cost c.requires.own exchanged in
    let one = one_holder n laws b own.router own.link c.args.address own.cost j h c.requires.own exchanged c.requires.router in
    let there = here n laws b j h.router own.link h.cost h.its exchanged in
    let who : h.router ≡ x.router = (its_link n j h.router own.link h.cost x.router x.link x.cost h.its c.interface-neighbour.ensures.is).0 in
    let offers : Decides c.is_offered_from.result (Offers net told own.router own.link h.router case.prefix c.args.metric) = (
      λ t.
          let (i, e, value) = c.is_offered_from.ensures.0 t in
          let same : i ≡ j = sym (same_Some j i e) in
          let at : c.args.metric ≡ heard_from told own.cost j case.prefix = rw same at value in
          holder_offers net c.lawful.ensures.network told own.router own.link case.prefix c.args.metric own.cost its h.router j h.cost one.0.neighbour there at,
      λ o. c.is_offered_from.ensures.1 (j, refl, offers_heard net c.lawful.ensures.network told own.router own.link case.prefix c.args.metric own.cost its h.router j h.cost there o),
    ) in
    let both : IsOneHolder net own.router own.link c.args.address h.router × Decides c.is_offered_from.result (Offers net told own.router own.link h.router case.prefix c.args.metric) = (one, offers) in
    rw who at both

pub returns-in-None-clause-none : goal.returns-in-None-clause-none
returns-in-None-clause-none g c = λ s holder.
    let case = c.args.case.now in
    let own = c.args.own in
    let (exchanged, (j, h, same)) = holder_was case.plan.now c.lawful.ensures.plan (block_of case) own.router own.link c.args.address s c.requires.router holder in
    none-some j ((c.in-None.ensures j).1 h)
