use Rattle.std.proofs.Common.{◌≡◌, ℕ, get_or, arith}
use Rattle.std.proofs.lemmas.Bool.Decides.{not_from_Decides}
use Rattle.rip_check.specs.Cases.{block_of, network_of, told_in}
use Rattle.rip_check.specs.OwnSettled.{OffersAsHolder}
use Rattle.rip_check.specs.OwnTells.{IsHolder}
use Rattle.rip_check.specs.ToldCells.{IsOneHolder}
use Rattle.rip_check.proofs.HolderLemmas.{holder_known, holder_on, holder_was}
use Rattle.rip_check.proofs.NetLemmas.{here, its}
use Rattle.rip_check.proofs.OwnedLemmas.{all_before, each_more, every, its_number, its_own, its_router}
use Rattle.rip_check.proofs.own_audit.first_unmarked.Goals as goal
use Rattle.rip_check.proofs.own_audit.first_unmarked.Goals.{in-Some+else-not-marks-neighbour, in-None}

pub interface-own-requires : goal.interface-own-requires
interface-own-requires g c = its_number c.args.case.now.plan.now c.args.router c.of_router-numbers.result.now c.of_router-numbers.ensures.exact c.loop-i.i-index c.loop-i-test.true

pub holder_over-requires-clause-router : goal.holder_over-requires-clause-router
holder_over-requires-clause-router g c = c.lawful.ensures.plan.router_known _ _ _ _ c.interface-own.ensures.is

pub bounds-marks-neighbour : goal.bounds-marks-neighbour
bounds-marks-neighbour g c =
    let case = c.args.case.now in
    let own = c.interface-own.result in
    let known = holder_known case.plan.now c.lawful.ensures.plan (block_of case) own.router own.link c.args.address c.in-Some.neighbour (c.lawful.ensures.plan.router_known _ _ _ _ c.interface-own.ensures.is) c.in-Some.ensures.some.0.0 in
    omega (arith, c.requires.size, known)

pub returns-then-not-marks-neighbour-clause-some : goal.returns-then-not-marks-neighbour-clause-some
returns-then-not-marks-neighbour-clause-some g c =
    let case = c.args.case.now in
    let n = case.plan.now in
    let laws = c.lawful.ensures.plan in
    let b = block_of case in
    let net = network_of case in
    let told = told_in case in
    let r = c.args.router in
    let p = case.prefix in
    let m = c.args.metric in
    let a = c.args.address in
    let numbers = c.of_router-numbers.result.now in
    let exact = c.of_router-numbers.ensures.exact in
    let k = c.loop-i.i-index in
    let own = c.interface-own.result in
    let is = c.interface-own.ensures.is in
    let lt = c.loop-i-test.true in
    let same = its_router n r numbers exact k own lt is in
    let nb = c.in-Some.neighbour in
    let known = holder_known n laws b own.router own.link a nb (laws.router_known _ _ _ _ is) c.in-Some.ensures.some.0.0 in
    let holder : IsHolder net r own.link nb a = rw same at c.in-Some.ensures.some.0.0 in
    let exchanged = (holder_was n laws b r own.link a nb c.requires.router holder).0 in
    let i = get_or numbers k 0 in
    record {
      own = i;
      lacking = record {
        here = (own.cost, here n laws b i r own.link own.cost (its_own n r numbers exact k own lt is) exchanged);
        holder = holder;
        lacks = not_from_Decides _ (c.requires.marks nb (omega (arith, c.requires.size, known))) c.if-not-marks-neighbour.true;
      };
      before = λ j l u sooner lacking.
          let was = its n laws b j r l lacking.here.0 c.requires.router lacking.here.1 in
          lacking.lacks (all_before n r numbers exact c.of_router-numbers.ensures.ascending (λ i l. (s : ℕ) → IsHolder net r l s a → OffersAsHolder net told r s p m a) k lt c.loop-i.invariant j l lacking.here.0
          sooner was.0 u lacking.holder);
    }

pub loop-i-preserved : goal.loop-i-preserved
loop-i-preserved g c =
    let case = c.args.case.now in
    let n = case.plan.now in
    let laws = c.lawful.ensures.plan in
    let b = block_of case in
    let net = network_of case in
    let told = told_in case in
    let r = c.args.router in
    let p = case.prefix in
    let m = c.args.metric in
    let a = c.args.address in
    let numbers = c.of_router-numbers.result.now in
    let exact = c.of_router-numbers.ensures.exact in
    let k = c.loop-i.i-index in
    let own = c.interface-own.result in
    let is = c.interface-own.ensures.is in
    let lt = c.loop-i-test.true in
    let same = its_router n r numbers exact k own lt is in
    let Q : ℕ → ℕ → Type 0 = λ i l. (s : ℕ) → IsHolder net r l s a → OffersAsHolder net told r s p m a in
    each_more n r numbers exact Q k own is c.loop-i.invariant (λ s holder.
    elim c.match-holder_over.branch [
      | in-Some+else-not-marks-neighbour w ↦
          let nb = w.in-Some.neighbour in
          let one : IsOneHolder net r own.link a nb = rw same at w.in-Some.ensures.some.0 in
          let known = holder_known n laws b own.router own.link a nb (laws.router_known _ _ _ _ is) w.in-Some.ensures.some.0.0 in
          let offers = (c.requires.marks nb (omega (arith, c.requires.size, known))).0 w.if-not-marks-neighbour.false in
          let e : s ≡ nb = one.1 s holder in
          rw e offers
      | in-None w ↦
          let none : (s : ℕ) → IsHolder net r own.link s a → ⊥ = rw same at w.in-None.ensures.none in
          absurd (none s holder)
    ])

pub returns-clause-none : goal.returns-clause-none
returns-clause-none g c = λ l s holder.
    let case = c.args.case.now in
    let n = case.plan.now in
    let laws = c.lawful.ensures.plan in
    let b = block_of case in
    let net = network_of case in
    let told = told_in case in
    let r = c.args.router in
    let p = case.prefix in
    let m = c.args.metric in
    let a = c.args.address in
    let numbers = c.of_router-numbers.result.now in
    let exact = c.of_router-numbers.ensures.exact in
    let (i, d, its) = holder_on n laws b r l s a c.requires.router holder in
    every n r numbers exact (λ i l. (s : ℕ) → IsHolder net r l s a → OffersAsHolder net told r s p m a) c.loop-i.i-index c.loop-i-test.false c.loop-i.invariant i l d its s holder
