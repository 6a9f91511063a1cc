use Rattle.std.proofs.Common.{◌≡◌, None, get_or, not, ap, sym, ◌∙◌}
use Rattle.std.proofs.lemmas.Bool.{both_ways}
use Rattle.rip_plan.specs.Relations.{Exchanges}
use Rattle.rip_check.specs.Cases.{block_of, told_in}
use Rattle.rip_check.specs.Metrics.{metric_at}
use Rattle.rip_check.proofs.NetLemmas.{here, its}
use Rattle.rip_check.proofs.OwnedLemmas.{its_number, its_own, each_more, every, all_before}
use Rattle.rip_check.proofs.SilenceLemmas.{none_there, some_there}
use Rattle.rip_check.proofs.routes.first_gap.Goals as goal
use Rattle.rip_check.proofs.routes.first_gap.Goals.{else-exchanges-via-then-exchanges+else-is_none, else-exchanges-via-else-exchanges}

pub interface-own-requires : goal.interface-own-requires
interface-own-requires g c = its_number c.args.case.now.plan.now c.args.router c.of_router-numbers.result.now c.of_router-numbers.ensures.exact c.loop-i.i-index c.loop-i-test.true

pub exchanges-requires : goal.exchanges-requires
exchanges-requires g c = c.lawful.ensures.plan.link_known _ _ _ _ c.interface-own.ensures.is

pub told_at-requires : goal.told_at-requires
told_at-requires g c = its_number c.args.case.now.plan.now c.args.router c.of_router-numbers.result.now c.of_router-numbers.ensures.exact c.loop-i.i-index c.loop-i-test.true

pub returns-then-is_none-clause-some : goal.returns-then-is_none-clause-some
returns-then-is_none-clause-some g c =
    let case = c.args.case.now in
    let n = case.plan.now in
    let r = c.args.router in
    let b = block_of case in
    let numbers = c.of_router-numbers.result.now in
    let exact = c.of_router-numbers.ensures.exact in
    let cell = metric_at (told_in case) in
    let own = c.interface-own.result in
    let k = c.loop-i.i-index in
    let at = its_own n r numbers exact k own c.loop-i-test.true c.interface-own.ensures.is in
    record {
      interface = get_or numbers k 0;
      cost = own.cost;
      its = here n c.lawful.ensures.plan b (get_or numbers k 0) r own.link own.cost at (c.exchanges.ensures.0 c.if-exchanges.true);
      shows = sym c.told_at.ensures.metric ∙ none_there c.told_at.result (c.is_none.ensures ∙ ap not c.if-is_none.true);
      before = λ j m d less there.
          let was = its n c.lawful.ensures.plan b j r m d c.requires there in
          all_before n r numbers exact c.of_router-numbers.ensures.ascending (λ q m. Exchanges n m b → cell q case.prefix ≡ None → ⊥) k c.loop-i-test.true
          c.loop-i.invariant j m d less was.0 was.1;
    }

pub loop-i-preserved : goal.loop-i-preserved
loop-i-preserved g c =
    let case = c.args.case.now in
    let n = case.plan.now in
    let b = block_of case in
    let cell = metric_at (told_in case) in
    each_more n c.args.router c.of_router-numbers.result.now c.of_router-numbers.ensures.exact (λ j m. Exchanges n m b → cell j case.prefix ≡ None → ⊥) c.loop-i.i-index
    c.interface-own.result c.interface-own.ensures.is c.loop-i.invariant
    (λ exchanged none. elim c.else-exchanges.branch [
      | else-exchanges-via-then-exchanges+else-is_none w ↦ some_there w.told_at.result (w.is_none.ensures ∙ ap not w.if-is_none.false) (w.told_at.ensures.metric ∙ none)
      | else-exchanges-via-else-exchanges w ↦ both_ways _ w.if-exchanges.false (c.exchanges.ensures.1 exchanged)
    ])

pub returns-clause-none : goal.returns-clause-none
returns-clause-none g c = λ i l d there.
    let case = c.args.case.now in
    let n = case.plan.now in
    let b = block_of case in
    let cell = metric_at (told_in case) in
    let was = its n c.lawful.ensures.plan b i c.args.router l d c.requires there in
    every n c.args.router c.of_router-numbers.result.now c.of_router-numbers.ensures.exact
    (λ j m. Exchanges n m b → cell j case.prefix ≡ None → ⊥) c.loop-i.i-index c.loop-i-test.false c.loop-i.invariant i l d was.0 was.1
