use Rattle.std.proofs.lemmas.Bool.Decides.{not_from_Decides}
use Rattle.rip_plan.specs.Relations.{Exchanges}
use Rattle.rip_check.specs.Networks.{block_at}
use Rattle.rip_check.proofs.NetLemmas.{cost_here, exchanged, its_cost, kept}
use Rattle.rip_check.proofs.expected.Expected.begins_over.Goals as goal

pub exchanges-requires : goal.exchanges-requires
exchanges-requires c =
    let own = c.in-Some.own in
    let has = c.in-Some.ensures.some in
    rw has.1 at (c.lawful.ensures.link_known has.2.0 own.router own.link own.cost has.2.1)

pub is_over-requires-clause-router : goal.is_over-requires-clause-router
is_over-requires-clause-router c = rw c.in-Some.ensures.some.0 c.requires.router

pub is_over-requires-clause-own : goal.is_over-requires-clause-own
is_over-requires-clause-own c =
    let n = c.args.plan.now in
    let b = block_at n.prefixes c.args.prefix in
    let own = c.in-Some.own in
    let has = c.in-Some.ensures.some in
    let is : Exchanges n own.link b = rw has.1 ((exchanged n c.args.prefix c.args.link c.prefix.result c.prefix.ensures).0 (c.exchanges.ensures.0 c.if-exchanges.true)) in
    cost_here n c.lawful.ensures b own.router own.link own.cost has.2 is

pub is_over-requires-clause-takes : goal.is_over-requires-clause-takes
is_over-requires-clause-takes c =
    let n = c.args.plan.now in
    let b = block_at n.prefixes c.args.prefix in
    rw c.in-Some.ensures.some.0 (λ keeps. not_from_Decides _ c.keeps.ensures c.if-keeps.false ((kept n b c.args.router c.args.prefix).0 keeps))

pub returns-then-exchanges : goal.returns-then-exchanges
returns-then-exchanges c = rw (c.in-Some.ensures.some.0, c.in-Some.ensures.some.1) at c.is_over.ensures

pub returns-else-exchanges : goal.returns-else-exchanges
returns-else-exchanges c =
    let n = c.args.plan.now in
    let b = block_at n.prefixes c.args.prefix in (
      λ t. cc t,
      λ o. absurd (not_from_Decides _ c.exchanges.ensures c.if-exchanges.false
          ((exchanged n c.args.prefix c.args.link c.prefix.result c.prefix.ensures).1 (its_cost n c.lawful.ensures b c.args.router c.args.link o.2.0 c.requires.router o.2.2).1)),
    )

pub returns-in-None : goal.returns-in-None
returns-in-None c =
    let n = c.args.plan.now in
    let b = block_at n.prefixes c.args.prefix in (
      λ t. cc t,
      λ o. absurd (c.in-None.ensures.none (o.2.0, (its_cost n c.lawful.ensures b c.args.router c.args.link o.2.0 c.requires.router o.2.2).0)),
    )

pub returns-then-keeps : goal.returns-then-keeps
returns-then-keeps c =
    let n = c.args.plan.now in
    let b = block_at n.prefixes c.args.prefix in
    (λ t. cc t, λ o. absurd (o.2.3.goes_on ((kept n b c.args.router c.args.prefix).1 (c.keeps.ensures.0 c.if-keeps.true))))
