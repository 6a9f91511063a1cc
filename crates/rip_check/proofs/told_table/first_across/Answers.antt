use Rattle.rip_check.proofs.HopLemmas.{first_holder, first_more, first_of_all, place_within}
use Rattle.rip_check.proofs.told_table.first_across.Goals as goal

pub owner_across-requires : goal.owner_across-requires
owner_across-requires c = place_within c.args.plan.now c.args.own.router c.args.own.link c.args.prefix c.args.address c.gateway_places-places.result.now c.gateway_places-places.ensures.exact c.loop-k.k-index c.loop-k-test.true

pub loop-k-init : goal.loop-k-init
loop-k-init c = first_holder c.args.plan.now c.args.own.router c.args.own.link c.args.prefix c.args.address c.gateway_places-places.result.now c.gateway_places-places.ensures.exact c.holder_across-first.result
    c.holder_across-first.ensures

pub loop-k-preserved : goal.loop-k-preserved
loop-k-preserved c =
    first_more c.args.plan.now c.args.own.router c.args.own.link c.args.prefix c.args.address c.gateway_places-places.result.now c.gateway_places-places.ensures.exact c.loop-k.k-index c.loop-k.first
    c.owner_across.result c.lesser-first.result c.loop-k.invariant c.owner_across.ensures c.lesser-first.ensures

pub returns : goal.returns
returns c =
    first_of_all c.args.plan.now c.args.own.router c.args.own.link c.args.prefix c.args.address c.gateway_places-places.result.now c.gateway_places-places.ensures.exact c.loop-k.k-index c.loop-k.first
    c.loop-k-test.false c.loop-k.auto.k-index-end c.loop-k.invariant
