use Rattle.std.proofs.Common.{◌≡◌, ℕ, ◌+◌, ◌<◌, Decides, inl, inr, false, true, length, sym, ◌∙◌, arith}
use Rattle.std.proofs.lemmas.Bool.Decides.{not_from_Decides}
use Rattle.rip_check.specs.Cases.{block_of, network_of, told_in}
use Rattle.rip_check.specs.OwnSettled.{OffersAsHolder}
use Rattle.rip_check.specs.OwnTells.{IsHolder}
use Rattle.rip_check.specs.Tables.{Offers}
use Rattle.rip_check.specs.ToldCells.{IsOneHolder}
use Rattle.rip_check.proofs.HolderLemmas.{OffersBefore, holder_known, holder_on, offers_all, offers_by, offers_here, offers_later}
use Rattle.rip_check.proofs.OwnedLemmas.{each_more, every, its_number, its_router}
use Rattle.rip_check.proofs.ToldCellLemmas.{marked, same_marks}
use Rattle.rip_check.proofs.own_audit.mark_holders.Goals as goal
use Rattle.rip_check.proofs.own_audit.mark_holders.Goals.{in-Some+then-offers, in-Some+else-offers, in-None}

pub loop-i-init : goal.loop-i-init
loop-i-init g c =
    let case = c.args.case.now in
    let n = case.plan.now in
    let laws = c.lawful.ensures.plan in
    let b = block_of case in
    let net = network_of case in
    let told = told_in case in
    let r = c.args.router in
    let p = case.prefix in
    let m = c.args.metric in
    let a = c.args.address in
    let numbers = c.of_router-numbers.result.now in
    let exact = c.of_router-numbers.ensures.exact in
    record {
      marks = same_marks (λ s. ⊥) (OffersBefore n net told r p m a numbers 0) c.args.marks.now c.requires.blank (λ s never. absurd never) (λ s before. omega (arith, before.3));
      each = λ t j l d less. absurd (omega (arith, less));
    }

pub interface-own-requires : goal.interface-own-requires
interface-own-requires g c = its_number c.args.case.now.plan.now c.args.router c.of_router-numbers.result.now c.of_router-numbers.ensures.exact c.loop-i.i-index c.loop-i-test.true

pub holder_over-requires-clause-router : goal.holder_over-requires-clause-router
holder_over-requires-clause-router g c = c.lawful.ensures.plan.router_known _ _ _ _ c.interface-own.ensures.is

pub bounds-marks-neighbour : goal.bounds-marks-neighbour
bounds-marks-neighbour g c =
    let case = c.args.case.now in
    let own = c.interface-own.result in
    let known = holder_known case.plan.now c.lawful.ensures.plan (block_of case) own.router own.link c.args.address c.in-Some.neighbour (c.lawful.ensures.plan.router_known _ _ _ _ c.interface-own.ensures.is) c.in-Some.ensures.some.0.0 in
    omega (arith, c.requires.size, c.loop-i.auto.marks, known)

pub loop-i-preserved : goal.loop-i-preserved
loop-i-preserved g c =
    let case = c.args.case.now in
    let n = case.plan.now in
    let laws = c.lawful.ensures.plan in
    let b = block_of case in
    let net = network_of case in
    let told = told_in case in
    let r = c.args.router in
    let p = case.prefix in
    let m = c.args.metric in
    let a = c.args.address in
    let numbers = c.of_router-numbers.result.now in
    let exact = c.of_router-numbers.ensures.exact in
    let k = c.loop-i.i-index in
    let own = c.interface-own.result in
    let is = c.interface-own.ensures.is in
    let lt = c.loop-i-test.true in
    let same = its_router n r numbers exact k own lt is in
    let Was = OffersBefore n net told r p m a numbers k in
    let Then = OffersBefore n net told r p m a numbers (k + 1) in
    let There : ℕ → ℕ → Type 0 = λ i l. (s : ℕ) → IsHolder net r l s a → Offers net told r l s p m in
    elim c.match-holder_over.branch [
      | in-Some+then-offers w ↦
          let nb = w.in-Some.neighbour in
          let one : IsOneHolder net r own.link a nb = rw same at w.in-Some.ensures.some.0 in
          let offers : Decides w.in-Some.offers (Offers net told r own.link nb p m) = rw same at w.in-Some.ensures.some.1 in
          let offer = offers.0 w.if-offers.true in
          let at : nb < length c.loop-i.marks =
          omega (arith, c.requires.size, c.loop-i.auto.marks, holder_known n laws b own.router own.link a nb (laws.router_known _ _ _ _ is) w.in-Some.ensures.some.0.0) in
          record {
            marks = rw w.marks-is (marked Was Then c.loop-i.marks nb at c.loop-i.invariant.marks (offers_here n net told r p m a numbers exact k nb own lt is one.0 offer)
                (λ s was. offers_later n net told r p m a numbers exact k s was)
                (λ s then. elim (offers_by n net told r p m a numbers exact k s own lt is then) [ inl both ↦ inl (one.1 s both.0) | inr was ↦ inr was ]));
            each = λ t.
                each_more n r numbers exact There k own is (c.loop-i.invariant.each (sym w.each-is ∙ t)) (λ s holder. let e : s ≡ nb = one.1 s holder in rw e offer);
          }
      | in-Some+else-offers w ↦
          let nb = w.in-Some.neighbour in
          let one : IsOneHolder net r own.link a nb = rw same at w.in-Some.ensures.some.0 in
          let offers : Decides w.in-Some.offers (Offers net told r own.link nb p m) = rw same at w.in-Some.ensures.some.1 in
          record {
            marks = rw w.marks-is (same_marks Was Then c.loop-i.marks c.loop-i.invariant.marks (λ s was. offers_later n net told r p m a numbers exact k s was)
                (λ s then. elim (offers_by n net told r p m a numbers exact k s own lt is then) [
                  | inl both ↦
                      let e : s ≡ nb = one.1 s both.0 in
                      let offer : Offers net told r own.link nb p m = rw e at both.1 in
                      absurd (not_from_Decides _ offers w.if-offers.false offer)
                  | inr was ↦ was
                ]));
            each = λ t. absurd (let never : false ≡ true = sym w.each-is ∙ t in cc never);
          }
      | in-None w ↦
          let none : (s : ℕ) → IsHolder net r own.link s a → ⊥ = rw same at w.in-None.ensures.none in
          record {
            marks = rw w.marks-is (same_marks Was Then c.loop-i.marks c.loop-i.invariant.marks (λ s was. offers_later n net told r p m a numbers exact k s was)
                (λ s then. elim (offers_by n net told r p m a numbers exact k s own lt is then) [ inl both ↦ absurd (none s both.0) | inr was ↦ was ]));
            each = λ t. each_more n r numbers exact There k own is (c.loop-i.invariant.each (sym w.each-is ∙ t)) (λ s holder. absurd (none s holder));
          }
    ]

pub returns-clause-marks : goal.returns-clause-marks
returns-clause-marks g c =
    let case = c.args.case.now in
    let n = case.plan.now in
    let laws = c.lawful.ensures.plan in
    let b = block_of case in
    let net = network_of case in
    let told = told_in case in
    let r = c.args.router in
    let p = case.prefix in
    let m = c.args.metric in
    let a = c.args.address in
    let numbers = c.of_router-numbers.result.now in
    let exact = c.of_router-numbers.ensures.exact in
    same_marks (OffersBefore n net told r p m a numbers c.loop-i.i-index) (λ s. OffersAsHolder net told r s p m a) c.loop-i.marks c.loop-i.invariant.marks
    (λ s before. let (j, l, d, less, within, its, holder, offer) = before in (l, holder, offer))
    (λ s offers. offers_all n net told r p m a numbers exact c.loop-i.i-index s c.loop-i-test.false (λ l holder. holder_on n laws b r l s a c.requires.router holder) offers)

pub returns-clause-each : goal.returns-clause-each
returns-clause-each g c = λ t l s holder.
    let case = c.args.case.now in
    let n = case.plan.now in
    let laws = c.lawful.ensures.plan in
    let b = block_of case in
    let net = network_of case in
    let told = told_in case in
    let r = c.args.router in
    let p = case.prefix in
    let m = c.args.metric in
    let a = c.args.address in
    let numbers = c.of_router-numbers.result.now in
    let exact = c.of_router-numbers.ensures.exact in
    let (i, d, its) = holder_on n laws b r l s a c.requires.router holder in
    let offer = every n r numbers exact (λ i l. (s : ℕ) → IsHolder net r l s a → Offers net told r l s p m) c.loop-i.i-index c.loop-i-test.false (c.loop-i.invariant.each t) i l d its s holder in
    (l, holder, offer)
