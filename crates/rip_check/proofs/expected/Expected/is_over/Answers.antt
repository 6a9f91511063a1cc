use Rattle.std.proofs.Common.{◌≡◌, get_or, refl, arith}
use Rattle.rip_plan.proofs.PrefixNetworkLemmas.{prefix_network}
use Rattle.rip_plan.specs.Relations.{IsInterface}
use Rattle.rip_check.specs.Networks.{block_at, network_at}
use Rattle.rip_check.proofs.NetLemmas.{across_here, attached, here, its_cost}
use Rattle.rip_check.proofs.PlanLemmas.{attached_ne}
use Rattle.rip_check.proofs.AcrossLemmas.{across_number, across_own}
use Rattle.rip_check.proofs.OwnedLemmas.{its_link}
use Rattle.rip_check.proofs.OverLemmas.{one_least, one_more_not, none_over, path_over}
use Rattle.rip_check.proofs.expected.Expected.is_over.Goals as goal
use Rattle.rip_check.proofs.expected.Expected.is_over.Goals.{else-across-own-via-then-across-own+else-from-number, else-across-own-via-then-across-own+then-from-number+else-ne, else-across-own-via-else-across-own}

pub on_link-numbers-requires : goal.on_link-numbers-requires
on_link-numbers-requires c =
    let own = c.args.own in
    let n = c.args.plan.now in
    let was = its_cost n c.lawful.ensures (block_at n.prefixes c.args.prefix) own.router own.link own.cost c.requires.router c.requires.own in
    c.lawful.ensures.link_known was.0.0 own.router own.link own.cost was.0.1

pub interface-across-requires : goal.interface-across-requires
interface-across-requires c = across_number c.args.plan.now c.args.own.link c.on_link-numbers.result.now c.on_link-numbers.ensures.exact c.loop-j.j-index c.loop-j-test.true

pub number-requires-clause-router : goal.number-requires-clause-router
number-requires-clause-router c =
    let x = c.interface-across.result in
    c.lawful.ensures.router_known (get_or c.on_link-numbers.result.now c.loop-j.j-index 0) x.router x.link x.cost c.interface-across.ensures.is

pub returns-then-ne : goal.returns-then-ne
returns-then-ne c =
    let n = c.args.plan.now in
    let laws = c.lawful.ensures in
    let p = c.args.prefix in
    let b = block_at n.prefixes p in
    let own = c.args.own in
    let x = c.interface-across.result in
    let i = get_or c.on_link-numbers.result.now c.loop-j.j-index 0 in
    let is = (its_cost n laws b own.router own.link own.cost c.requires.router c.requires.own).1 in
    let there = across_own n own.link c.on_link-numbers.result.now c.on_link-numbers.ensures.exact c.loop-j.j-index x c.loop-j-test.true c.interface-across.ensures.is in (
      λ t. path_over (network_at n n.prefixes p) p own.router own.link x.router own.cost c.number.result c.args.metric c.requires.own
          (record {
            neighbour = record { other = c.if-across-own.true; here = (own.cost, c.requires.own); there = (x.cost, (i, here n laws b i x.router own.link x.cost there is)) };
            goes_on = c.requires.takes;
            tells = λ at. (attached_ne n x.router p own.link c.attached_link.result c.ne.result c.attached_link.ensures c.ne.ensures).0 c.if-ne.true ((attached n laws b x.router p own.link).0 at).0;
          })
          c.number.ensures (omega (arith, c.from.ensures, c.if-from-number.true)) c.requires.small,
      λ o. refl,
    )

pub loop-j-preserved : goal.loop-j-preserved
loop-j-preserved c =
    let n = c.args.plan.now in
    let laws = c.lawful.ensures in
    let p = c.args.prefix in
    let b = block_at n.prefixes p in
    let net = network_at n n.prefixes p in
    let own = c.args.own in
    let x = c.interface-across.result in
    let k = c.loop-j.j-index in
    let numbers = c.on_link-numbers.result.now in
    let exact = c.on_link-numbers.ensures.exact in
    let is = (its_cost n laws b own.router own.link own.cost c.requires.router c.requires.own).1 in
    let there = across_own n own.link numbers exact k x c.loop-j-test.true c.interface-across.ensures.is in
    let link : own.link ≡ x.link = (its_link n (get_or numbers k 0) x.router own.link x.cost x.router x.link x.cost there c.interface-across.ensures.is).1 in
    let its : IsInterface net (get_or numbers k 0) x.router x.link x.cost = rw link at (here n laws b (get_or numbers k 0) x.router own.link x.cost there is) in
    let more = one_more_not net p own.router own.link own.cost c.args.metric numbers (across_here n laws b own.link numbers is exact) k x its in
    elim c.else-across-own.branch [
      | else-across-own-via-then-across-own+else-from-number w ↦
          more (λ other v least e off.
          let same : w.number.result ≡ v = one_least net p x.router w.number.result v w.number.ensures least in
          w.if-from-number.false (omega (arith, w.from.ensures, same, e))) c.loop-j.invariant
      | else-across-own-via-then-across-own+then-from-number+else-ne w ↦ more (λ other v least e off. off
          ((attached n laws b x.router p own.link).1
          ((attached_ne n x.router p own.link w.attached_link.result w.ne.result w.attached_link.ensures w.ne.ensures).1 w.if-ne.false, is))) c.loop-j.invariant
      | else-across-own-via-else-across-own w ↦ more (λ other. absurd (other w.if-across-own.false)) c.loop-j.invariant
    ]

pub returns : goal.returns
returns c =
    let n = c.args.plan.now in
    let laws = c.lawful.ensures in
    let p = c.args.prefix in
    let b = block_at n.prefixes p in
    let net = network_at n n.prefixes p in
    let own = c.args.own in
    let numbers = c.on_link-numbers.result.now in
    let is = (its_cost n laws b own.router own.link own.cost c.requires.router c.requires.own).1 in (
      λ t. cc t,
      λ o. absurd (none_over net p own.router own.link own.cost c.args.metric numbers (across_here n laws b own.link numbers is c.on_link-numbers.ensures.exact)
          (prefix_network n laws b) c.requires.router c.loop-j.j-index c.loop-j-test.false c.requires.own c.requires.least c.requires.small
          (λ s lt. (_, c.requires.expected.least s p lt c.requires.prefix)) c.loop-j.invariant o),
    )
