use Rattle.rip_check.specs.Cases.{block_of, network_of, told_in}
use Rattle.rip_check.proofs.NetLemmas.{its_cost}
use Rattle.rip_check.proofs.OnePlaceLemmas.{offered_is}
use Rattle.rip_check.proofs.places.is_offered.Goals as goal

pub best_over-requires-clause-own : goal.best_over-requires-clause-own
best_over-requires-clause-own g c = c.in-Some.ensures.some.2

pub returns-in-Some : goal.returns-in-Some
returns-in-Some g c =
    let n = network_of c.args.case.now in
    let p = c.args.case.now.prefix in
    let own = c.in-Some.ensures.some in
    let over = rw (own.0, own.1) at c.best_over.ensures in
    offered_is n (told_in c.args.case.now) c.args.router c.args.link p c.args.metric c.best_over.result c.requires.takes c.requires.small c.requires.least over.chosen over.least

pub returns-in-None : goal.returns-in-None
returns-in-None g c = (
  λ t. cc t,
  λ h. let was = its_cost c.args.case.now.plan.now c.lawful.ensures.plan (block_of c.args.case.now) c.args.router c.args.link h.1.cost c.requires.router h.1.here in
      absurd (c.in-None.ensures.none (h.1.cost, was.0)),
)
