use Rattle.std.proofs.Common.{◌<◌, inl, inr, get_or, length, arith}
use Rattle.std.proofs.lemmas.Option.{slice_get-get_or}
use Rattle.rip_check.specs.declared.links.TwoLeast.{TwoLeast}
use Rattle.rip_check.specs.TwoLeasts.{IsSeen}
use Rattle.rip_check.proofs.StepLemmas.{after_write, take_none, take_one}
use Rattle.rip_check.proofs.links.add_interface.Goals as goal

abbrev blank : TwoLeast
blank = record { least = 0; by = 0; next = 0 }

pub returns-then-metric-lt16-clause-free : goal.returns-then-metric-lt16-clause-free
returns-then-metric-lt16-clause-free c = λ was l two e.
    let own = c.interface-own.result in
    let links = c.args.links.now in
    let its = c.interface-own.ensures.is in
    let at : own.link < length links = omega (arith, c.lawful.ensures.link_known c.args.interface own.router own.link own.cost its, c.requires.size) in
    elim (after_write links own.link l c.with_metric.result two blank at e) [
      | inl h ↦ λ shut. c.with_metric.ensures.free (λ far. omega (arith, far, c.lawful.ensures.few_routers, c.lawful.ensures.router_known c.args.interface own.router own.link own.cost its))
          (was own.link (get_or links own.link blank) (slice_get-get_or links own.link blank at)) (rw h.1 at shut)
      | inr h ↦ was l two h.1
    ]

pub returns-then-metric-lt16-clause-least : goal.returns-then-metric-lt16-clause-least
returns-then-metric-lt16-clause-least c = λ seen value was.
    let n = c.args.plan.now in
    let i = c.args.interface in
    let own = c.interface-own.result in
    let its = c.interface-own.ensures.is in
    let has : IsSeen n seen own.link i own.router c.args.metric = record { cost = own.cost; its = its; value = value own.router own.link own.cost its } in
    let at : own.link < length c.args.links.now = omega (arith, c.lawful.ensures.link_known i own.router own.link own.cost its, c.requires.size) in
    let is = was own.link (get_or c.args.links.now own.link blank) (slice_get-get_or c.args.links.now own.link blank at) in
    take_one n seen i own.router own.link c.args.metric c.args.links.now blank c.with_metric.result at has was (c.with_metric.ensures.least n seen own.link i is has)

pub returns-else-metric-lt16-clause-least : goal.returns-else-metric-lt16-clause-least
returns-else-metric-lt16-clause-least c = λ seen value was.
    let own = c.interface-own.result in
    let its = c.interface-own.ensures.is in
    take_none c.args.plan.now seen c.args.interface own.router own.link c.args.metric c.args.links.now
    (record { cost = own.cost; its = its; value = value own.router own.link own.cost its }) c.if-metric-lt16.false was

pub offset_bounds-links-own : goal.offset_bounds-links-own
offset_bounds-links-own c =
    let own = c.interface-own.result in
    omega (arith, c.lawful.ensures.few_links, c.lawful.ensures.link_known c.args.interface own.router own.link own.cost c.interface-own.ensures.is)

pub slice_copy_out-with_metric : goal.slice_copy_out-with_metric
slice_copy_out-with_metric c =
    let own = c.interface-own.result in
    omega (arith, c.requires.size, c.lawful.ensures.link_known c.args.interface own.router own.link own.cost c.interface-own.ensures.is)

pub offset_bounds-links-own-then-metric-lt16 : goal.offset_bounds-links-own-then-metric-lt16
offset_bounds-links-own-then-metric-lt16 c =
    let own = c.interface-own.result in
    omega (arith, c.lawful.ensures.few_links, c.lawful.ensures.link_known c.args.interface own.router own.link own.cost c.interface-own.ensures.is)

pub bounds-links-own : goal.bounds-links-own
bounds-links-own c =
    let own = c.interface-own.result in
    omega (arith, c.requires.size, c.lawful.ensures.link_known c.args.interface own.router own.link own.cost c.interface-own.ensures.is)

pub overflow_cast-own : goal.overflow_cast-own
overflow_cast-own c =
    let own = c.interface-own.result in
    omega (arith, c.lawful.ensures.few_routers, c.lawful.ensures.router_known c.args.interface own.router own.link own.cost c.interface-own.ensures.is)
