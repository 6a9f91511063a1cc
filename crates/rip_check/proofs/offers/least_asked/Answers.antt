use Rattle.std.proofs.Common.{◌≡◌, ℕ, ◌+◌, inl, inr, get_or, min, refl, subst, arith}
use Rattle.std.proofs.lemmas.Bool.{cases_lt}
use Rattle.std.proofs.lemmas.Bool.Decides.{not_from_Decides}
use Rattle.rip_check.proofs.AcrossLemmas.{heard_from, across_number, across_own, one_more, is_offer, below_offers}
use Rattle.rip_check.proofs.OwnedLemmas.{its_link}
use Rattle.rip_plan.specs.Relations.{Exchanges, IsInterface}
use Rattle.rip_check.proofs.offers.least_asked.Goals as goal
use Rattle.rip_check.proofs.offers.least_asked.Goals.{then-across-router, else-across-router}
use Rattle.rip_check.specs.Cases.{block_of, network_of, told_in}
use Rattle.rip_check.proofs.NetLemmas.{across_here, cost_here, here, its_cost}

pub on_link-numbers-requires : goal.on_link-numbers-requires
on_link-numbers-requires g c = c.lawful.ensures.plan.link_known c.requires.own.0 c.args.router c.args.link c.args.cost c.requires.own.1

pub interface-across-requires : goal.interface-across-requires
interface-across-requires g c = across_number c.args.case.now.plan.now c.args.link c.on_link-numbers.result.now c.on_link-numbers.ensures.exact c.loop-j.j-index c.loop-j-test.true

pub seen_at-requires : goal.seen_at-requires
seen_at-requires g c = across_number c.args.case.now.plan.now c.args.link c.on_link-numbers.result.now c.on_link-numbers.ensures.exact c.loop-j.j-index c.loop-j-test.true

pub loop-j-preserved : goal.loop-j-preserved
loop-j-preserved g c =
    let case = c.args.case.now in
    let n = network_of case in
    let p = case.prefix in
    let shown = told_in case in
    let numbers = c.on_link-numbers.result.now in
    let there = c.exchanges.ensures.0 c.if-not-exchanges.false in
    let mine = cost_here case.plan.now c.lawful.ensures.plan (block_of case) c.args.router c.args.link c.args.cost c.requires.own there in
    let exact = across_here case.plan.now c.lawful.ensures.plan (block_of case) c.args.link numbers there c.on_link-numbers.ensures.exact in
    let k = c.loop-j.j-index in
    let x = c.interface-across.result in
    let on = across_own case.plan.now c.args.link numbers c.on_link-numbers.ensures.exact k x c.loop-j-test.true c.interface-across.ensures.is in
    let link : c.args.link ≡ x.link = (its_link case.plan.now (get_or numbers k 0) x.router c.args.link x.cost x.router x.link x.cost on c.interface-across.ensures.is).1 in
    let its : IsInterface n (get_or numbers k 0) x.router x.link x.cost = here case.plan.now c.lawful.ensures.plan (block_of case) (get_or numbers k 0) x.router x.link x.cost c.interface-across.ensures.is
    (subst (λ (m : ℕ). Exchanges case.plan.now m (block_of case)) link there) in
    let was = c.loop-j.invariant in
    elim c.if-across-router.branch [
      | then-across-router w ↦
          let next = w.min-least.result in
          let heard : heard_from shown c.args.cost (get_or numbers k 0) p ≡ min 16 (w.from.result + w.seen_at.result) = rw (w.from.ensures, w.seen_at.ensures.value) refl in
          let is = w.min-least.ensures in
          rw w.least-is (record {
            at_most = omega (arith, is, was.at_most);
            below = one_more n c.args.link numbers exact shown c.args.router c.args.cost p k c.loop-j.least next x its (omega (arith, is))
                (λ other. omega (arith, heard, is, was.at_most, c.requires.best)) was.below;
            chosen = elim (cases_lt (w.from.result + w.seen_at.result) c.loop-j.least) [
              | inl less ↦ inr (is_offer n c.args.link numbers exact shown c.args.router c.args.cost p k x next c.loop-j-test.true its w.if-across-router.true mine
                  (omega (arith, heard, less, is, was.at_most, c.requires.best)))
              | inr more ↦ let same : next ≡ c.loop-j.least = omega (arith, is, more) in rw same was.chosen
            ];
          })
      | else-across-router w ↦
          rw w.least-is (record {
            at_most = was.at_most;
            below = one_more n c.args.link numbers exact shown c.args.router c.args.cost p k c.loop-j.least c.loop-j.least x its (omega arith)
                (λ other. absurd (other w.if-across-router.false)) was.below;
            chosen = was.chosen;
          })
    ]

pub returns-clause-least : goal.returns-clause-least
returns-clause-least g c =
    let case = c.args.case.now in
    let numbers = c.on_link-numbers.result.now in
    let there = c.exchanges.ensures.0 c.if-not-exchanges.false in
    let mine = cost_here case.plan.now c.lawful.ensures.plan (block_of case) c.args.router c.args.link c.args.cost c.requires.own there in
    below_offers (network_of case) c.args.link numbers (across_here case.plan.now c.lawful.ensures.plan (block_of case) c.args.link numbers there c.on_link-numbers.ensures.exact) (told_in case) c.args.router c.args.cost case.prefix
    c.lawful.ensures.network c.loop-j.j-index c.loop-j.least c.loop-j-test.false mine c.loop-j.invariant.below

pub exchanges-requires : goal.exchanges-requires
exchanges-requires g c = c.lawful.ensures.plan.link_known _ _ _ _ c.requires.own.1

pub returns-then-not-exchanges-clause-least : goal.returns-then-not-exchanges-clause-least
returns-then-not-exchanges-clause-least g c = λ s v o.
    let case = c.args.case.now in
    let at = c.lawful.ensures.plan.router_known _ _ _ _ c.requires.own.1 in
    absurd (not_from_Decides _ c.exchanges.ensures c.if-not-exchanges.true (its_cost case.plan.now c.lawful.ensures.plan (block_of case) c.args.router c.args.link o.cost at o.here).1)
