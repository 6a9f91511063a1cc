use Rattle.std.proofs.Common.{◌≡◌, ℕ, Some, inl, inr, get_or, ◌∙◌, arith}
use Rattle.rip_plan.specs.Relations.{IsInterface}
use Rattle.rip_check.specs.Firsts.{IsBefore, IsLeastOf}
use Rattle.rip_check.specs.OwnTells.{HasHopAt}
use Rattle.rip_check.specs.ToldCells.{HasHopAcross}
use Rattle.rip_check.specs.OwnVerdicts.{IsHadAt}
use Rattle.rip_check.proofs.HopLemmas.{hop_router}
use Rattle.rip_check.proofs.OwnedLemmas.{all_before, each_more, every, its_link, its_number, its_own, its_router, within}
use Rattle.rip_check.proofs.own_audit.first_had.Goals as goal

pub interface-own-requires : goal.interface-own-requires
interface-own-requires c = its_number c.args.plan.now c.args.router c.of_router-numbers.result.now c.of_router-numbers.ensures.exact c.loop-i.i-index c.loop-i-test.true

pub interface-neighbour-requires : goal.interface-neighbour-requires
interface-neighbour-requires c =
    let across = c.in-Some.ensures.0 in
    within c.args.plan.now c.in-Some.across across.0 c.interface-own.result.link across.2.0.0 across.2.0.1

pub returns-in-Some-clause-some : goal.returns-in-Some-clause-some
returns-in-Some-clause-some c =
    let n = c.args.plan.now in
    let r = c.args.router in
    let p = c.args.prefix in
    let a = c.args.address in
    let numbers = c.of_router-numbers.result.now in
    let exact = c.of_router-numbers.ensures.exact in
    let k = c.loop-i.i-index in
    let i = get_or numbers k 0 in
    let own = c.interface-own.result in
    let its = its_own n r numbers exact k own c.loop-i-test.true c.interface-own.ensures.is in
    let same = its_router n r numbers exact k own c.loop-i-test.true c.interface-own.ensures.is in
    let first : IsLeastOf (HasHopAcross n r own.link p a) (Some c.in-Some.across) = rw same at c.in-Some.ensures in
    let x = c.interface-neighbour.result in
    let who : first.0.0 ≡ x.router = hop_router n c.in-Some.across x.router first.0.0 own.link x.link p a x.cost c.interface-neighbour.ensures.is first.0.2 in
    let sooner : (j q m u : ℕ) → IsHadAt n r p a j q m u → IsBefore j q i c.in-Some.across → ⊥ = λ j q m u had before.
    elim before [
      | inl less ↦
          let own_before = all_before n r numbers exact c.of_router-numbers.ensures.ascending (λ i l. (j : ℕ) → HasHopAcross n r l p a j → ⊥) k c.loop-i-test.true c.loop-i.invariant
          j m had.here.0 less had.here.1 in
          own_before q (u, had.other, had.there)
      | inr same_own ↦
          let here : IsInterface n i r m had.here.0 = rw same_own.0 at had.here.1 in
          let link : m ≡ own.link = (its_link n i r m had.here.0 r own.link own.cost here its).1 in
          let there : HasHopAt n q u own.link p a = rw link at had.there in
          omega (arith, same_own.1, first.1 q (u, had.other, there))
    ] in
    let there : HasHopAt n c.in-Some.across x.router own.link p a = rw who at first.0.2 in
    record {
      own = i;
      across = c.in-Some.across;
      had = record { here = (own.cost, its); there = there; other = λ e. first.0.1 (who ∙ e) };
      before = sooner;
    }

pub loop-i-preserved : goal.loop-i-preserved
loop-i-preserved c =
    let n = c.args.plan.now in
    let r = c.args.router in
    let p = c.args.prefix in
    let a = c.args.address in
    let numbers = c.of_router-numbers.result.now in
    let exact = c.of_router-numbers.ensures.exact in
    let k = c.loop-i.i-index in
    let own = c.interface-own.result in
    let same = its_router n r numbers exact k own c.loop-i-test.true c.interface-own.ensures.is in
    each_more n r numbers exact (λ i l. (j : ℕ) → HasHopAcross n r l p a j → ⊥) k own c.interface-own.ensures.is c.loop-i.invariant
    (rw same at c.in-None.ensures)

pub returns-clause-none : goal.returns-clause-none
returns-clause-none c = λ l s hop.
    let n = c.args.plan.now in
    let r = c.args.router in
    let p = c.args.prefix in
    let a = c.args.address in
    let here = hop.neighbour.here in
    let all = every n r c.of_router-numbers.result.now c.of_router-numbers.ensures.exact (λ i l. (j : ℕ) → HasHopAcross n r l p a j → ⊥) c.loop-i.i-index c.loop-i-test.false
    c.loop-i.invariant here.1.0 l here.0 here.1.1 in
    all hop.has.0 (s, hop.neighbour.other, hop.has.1)
