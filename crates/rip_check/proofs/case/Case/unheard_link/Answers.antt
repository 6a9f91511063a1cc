use Rattle.std.proofs.Common.{◌≡◌, true, false, IsTrue, get_or, refl, sym, ◌∙◌}
use Rattle.std.proofs.lemmas.Bool.{both_ways}
use Rattle.rip_plan.specs.Relations.{Exchanges}
use Rattle.rip_check.specs.Cases.{block_of, state_of}
use Rattle.rip_check.proofs.NetLemmas.{here, its}
use Rattle.rip_check.proofs.OwnedLemmas.{its_number, its_own, each_more, every, all_before}
use Rattle.rip_check.proofs.case.Case.unheard_link.Goals as goal
use Rattle.rip_check.proofs.case.Case.unheard_link.Goals.{else-exchanges-via-then-exchanges+else-not-heard, else-exchanges-via-else-exchanges}

pub interface-own-requires : goal.interface-own-requires
interface-own-requires g c = its_number c.args.self.now.plan.now c.args.router c.of_router-numbers.result.now c.of_router-numbers.ensures.exact c.loop-i.i-index c.loop-i-test.true

pub exchanges-requires : goal.exchanges-requires
exchanges-requires g c = c.lawful.ensures.plan.link_known _ _ _ _ c.interface-own.ensures.is

pub heard-requires : goal.heard-requires
heard-requires g c =
    rw c.args.self.now.fits.interfaces (its_number c.args.self.now.plan.now c.args.router c.of_router-numbers.result.now c.of_router-numbers.ensures.exact c.loop-i.i-index c.loop-i-test.true)

pub returns-then-not-heard-clause-some : goal.returns-then-not-heard-clause-some
returns-then-not-heard-clause-some g c =
    let case = c.args.self.now in
    let n = case.plan.now in
    let b = block_of case in
    let numbers = c.of_router-numbers.result.now in
    let exact = c.of_router-numbers.ensures.exact in
    let heard = (state_of case).heard in
    let own = c.interface-own.result in
    let k = c.loop-i.i-index in
    let at = its_own n c.args.router numbers exact k own c.loop-i-test.true c.interface-own.ensures.is in
    let off : heard (get_or numbers k 0) ≡ false = sym c.heard.ensures ∙ c.if-not-heard.true in
    record {
      interface = get_or numbers k 0;
      cost = own.cost;
      its = here n c.lawful.ensures.plan b (get_or numbers k 0) c.args.router own.link own.cost at (c.exchanges.ensures.0 c.if-exchanges.true);
      unheard = λ h. let h' : IsTrue false = rw off at h in cc h';
      before = λ j m d less there.
          let was = its n c.lawful.ensures.plan b j c.args.router m d c.requires there in
          all_before n c.args.router numbers exact c.of_router-numbers.ensures.ascending (λ q m. Exchanges n m b → IsTrue (heard q)) k c.loop-i-test.true
          c.loop-i.invariant j m d less was.0 was.1;
    }

pub loop-i-preserved : goal.loop-i-preserved
loop-i-preserved g c =
    let case = c.args.self.now in
    let n = case.plan.now in
    let b = block_of case in
    let heard = (state_of case).heard in
    each_more n c.args.router c.of_router-numbers.result.now c.of_router-numbers.ensures.exact (λ j m. Exchanges n m b → IsTrue (heard j)) c.loop-i.i-index
    c.interface-own.result c.interface-own.ensures.is c.loop-i.invariant
    (λ exchanged. elim c.else-exchanges.branch [
      | else-exchanges-via-then-exchanges+else-not-heard w ↦ let on : heard (get_or c.of_router-numbers.result.now c.loop-i.i-index 0) ≡ true = sym w.heard.ensures ∙ w.if-not-heard.false in rw on refl
      | else-exchanges-via-else-exchanges w ↦ absurd (both_ways _ w.if-exchanges.false (c.exchanges.ensures.1 exchanged))
    ])

pub returns-clause-none : goal.returns-clause-none
returns-clause-none g c = λ i l d there.
    let case = c.args.self.now in
    let n = case.plan.now in
    let b = block_of case in
    let was = its n c.lawful.ensures.plan b i c.args.router l d c.requires there in
    every n c.args.router c.of_router-numbers.result.now c.of_router-numbers.ensures.exact
    (λ j m. Exchanges n m b → IsTrue ((state_of case).heard j)) c.loop-i.i-index c.loop-i-test.false c.loop-i.invariant i l d was.0 was.1
