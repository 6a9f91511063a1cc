use Rattle.std.proofs.Common.{◌≡◌, ℕ, ◌≤◌, ◌⊎◌, inl, inr, get_or, arith}
use Rattle.std.proofs.lemmas.Bool.Decides.{not_from_Decides}
use Rattle.rip_check.specs.Cases.{block_of, network_of, state_of, told_in}
use Rattle.rip_check.specs.Tables.{Offers}
use Rattle.rip_check.proofs.AcrossLemmas.{still_chosen, least_kept, least_of}
use Rattle.rip_check.proofs.NetLemmas.{direct_at, its}
use Rattle.rip_check.proofs.OwnedLemmas.{its_number, its_router, each_more, every}
use Rattle.rip_check.proofs.offers.least_choice.Goals as goal

pub interface-own-requires : goal.interface-own-requires
interface-own-requires g c = its_number c.args.case.now.plan.now c.args.router c.of_router-numbers.result.now c.of_router-numbers.ensures.exact c.loop-i.i-index c.loop-i-test.true

pub best_over-best-requires-clause-own : goal.best_over-best-requires-clause-own
best_over-best-requires-clause-own g c = (get_or c.of_router-numbers.result.now c.loop-i.i-index 0, c.interface-own.ensures.is)

pub returns-then-keeps-clause-chosen : goal.returns-then-keeps-clause-chosen
returns-then-keeps-clause-chosen g c =
    let case = c.args.case.now in
    elim c.direct_or_16-best.ensures.chosen [
      | inl big ↦ inl big
      | inr d ↦ inr (inl ((direct_at case.plan.now c.lawful.ensures.plan (state_of case) case.fits c.args.router case.prefix _ c.requires.router).1 d))
    ]

pub returns-then-keeps-clause-least : goal.returns-then-keeps-clause-least
returns-then-keeps-clause-least g c =
    let case = c.args.case.now in
    least_kept (network_of case) (told_in case) c.args.router case.prefix c.direct_or_16-best.result c.direct_or_16-best.ensures.most
    (λ v d. c.direct_or_16-best.ensures.least v ((direct_at case.plan.now c.lawful.ensures.plan (state_of case) case.fits c.args.router case.prefix v c.requires.router).0 d)) (c.requires.keeps.0 c.if-keeps.true)

pub loop-i-init : goal.loop-i-init
loop-i-init g c =
    let case = c.args.case.now in
    record {
      most = c.direct_or_16-best.ensures.most;
      direct = λ v d. c.direct_or_16-best.ensures.least v ((direct_at case.plan.now c.lawful.ensures.plan (state_of case) case.fits c.args.router case.prefix v c.requires.router).0 d);
      below = λ k m d lt. absurd (omega (arith, lt));
      chosen = elim c.direct_or_16-best.ensures.chosen [
        | inl big ↦ inl big
        | inr d ↦ inr (inl ((direct_at case.plan.now c.lawful.ensures.plan (state_of case) case.fits c.args.router case.prefix _ c.requires.router).1 d))
      ];
    }

pub loop-i-preserved : goal.loop-i-preserved
loop-i-preserved g c =
    let case = c.args.case.now in
    let n = case.plan.now in
    let net = network_of case in
    let r = c.args.router in
    let p = case.prefix in
    let shown = told_in case in
    let numbers = c.of_router-numbers.result.now in
    let exact = c.of_router-numbers.ensures.exact in
    let k = c.loop-i.i-index in
    let own = c.interface-own.result in
    let was = c.loop-i.invariant in
    let next = c.best_over-best.result in
    let less = c.best_over-best.ensures.at_most in
    let mine : own.router ≡ r = its_router n r numbers exact k own c.loop-i-test.true c.interface-own.ensures.is in
    let least : (s v : ℕ) → Offers net shown r own.link s p v → next ≤ v = rw mine at c.best_over-best.ensures.least in
    let chosen : (next ≡ c.loop-i.best) ⊎ ((s : ℕ) × Offers net shown r own.link s p next) = rw mine at c.best_over-best.ensures.chosen in
    record {
      most = omega (arith, less, was.most);
      direct = λ v d. omega (arith, less, was.direct v d);
      below = each_more n r numbers exact (λ j m. (s v : ℕ) → Offers net shown r m s p v → next ≤ v) k own c.interface-own.ensures.is
          (λ j m d lt at s v o. omega (arith, less, was.below j m d lt at s v o)) least;
      chosen = still_chosen net shown r p own.link c.loop-i.best next (not_from_Decides _ c.requires.keeps c.if-keeps.false) was.chosen chosen;
    }

pub returns-clause-least : goal.returns-clause-least
returns-clause-least g c =
    let case = c.args.case.now in
    let n = case.plan.now in
    let net = network_of case in
    let shown = told_in case in
    let r = c.args.router in
    least_of net shown r case.prefix c.loop-i.best c.loop-i.invariant.most c.loop-i.invariant.direct
    (λ i l d at.
    let was = its n c.lawful.ensures.plan (block_of case) i r l d c.requires.router at in
    every n r c.of_router-numbers.result.now c.of_router-numbers.ensures.exact (λ j m. (s v : ℕ) → Offers net shown r m s case.prefix v → c.loop-i.best ≤ v)
    c.loop-i.i-index c.loop-i-test.false c.loop-i.invariant.below i l d was.0)
