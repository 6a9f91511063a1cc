use Rattle.std.proofs.Common.{◌≡◌, ◌≢◌, ◌+◌, ◌<◌, get_or, length, refl, ◌∙◌, slice_set, arith}
use Rattle.std.proofs.lemmas.Bool.Decides.{not_from_Decides}
use Rattle.std.proofs.lemmas.Grind.{get_or-set_at}
use Rattle.rip_plan.proofs.PrefixNetworkLemmas.{exchange}
use Rattle.rip_plan.specs.Relations.{HasCost, IsInterface}
use Rattle.rip_check.specs.Failures.{left_to}
use Rattle.rip_check.specs.Networks.{block_at}
use Rattle.rip_check.specs.Paths.{MayHop}
use Rattle.rip_check.specs.Tellings.{IsTelling}
use Rattle.rip_check.proofs.AcrossLemmas.{across_number, across_own}
use Rattle.rip_check.proofs.LeftLemmas.{cost_left, kept_left, sound_left}
use Rattle.rip_check.proofs.TellingLemmas.{telling_one, telling_same, telling_then}
use Rattle.rip_check.proofs.ToldLemmas.{all_told, one_told}
use Rattle.rip_check.proofs.least.tell.Goals as goal
use Rattle.rip_check.proofs.least.tell.Goals.{then-given-from+then-takes, else-given-from, else-given-from-via-then-given-from+else-takes, else-given-from-via-else-given-from}

pub interface-own-requires : goal.interface-own-requires
interface-own-requires c = across_number c.args.plan.now c.args.link c.on_link-numbers.result.now c.on_link-numbers.ensures.exact c.loop-j.j-index c.loop-j-test.true

pub bounds-metrics-own : goal.bounds-metrics-own
bounds-metrics-own c =
    let x = c.interface-own.result in
    omega (arith, c.requires.size, c.loop-j.auto.metrics, c.lawful.ensures.router_known _ x.router x.link x.cost c.interface-own.ensures.is)

pub loop-j-preserved : goal.loop-j-preserved
loop-j-preserved c =
    let n = c.args.plan.now in
    let f = c.args.failure in
    let p = c.args.prefix in
    let l = c.args.link in
    let m = c.args.metric in
    let laws = c.lawful.ensures in
    let left = left_to n f p in
    let sound = sound_left n laws f p in
    let start = c.args.metrics.now in
    let xs = c.loop-j.metrics in
    let x = c.interface-own.result in
    let k = c.loop-j.j-index in
    let its : IsInterface n (get_or c.on_link-numbers.result.now k 0) x.router x.link x.cost = c.interface-own.ensures.is in
    let there = across_own n l c.on_link-numbers.result.now c.on_link-numbers.ensures.exact k x c.loop-j-test.true its in
    let at : x.router < length xs = omega (arith, c.requires.size, c.loop-j.auto.metrics, c.lawful.ensures.router_known _ x.router x.link x.cost its) in
    let s = c.requires.teller.0 in
    let tells : get_or xs s 0 ≡ m = telling_same left p sound m start xs c.loop-j.invariant.telling s (omega (arith, c.requires.teller.1)) ∙ c.requires.teller.1 in
    let step = one_told n laws f p l m c.on_link-numbers.result.now c.on_link-numbers.ensures.exact xs in
    elim c.if-given-from.branch [
      | then-given-from+then-takes w ↦
          let takes = w.takes.ensures.0 w.if-takes.true in
          let has : HasCost left x.router l x.cost = cost_left n laws f p x.router l x.cost (_, there) ((exchange n laws (block_at n.prefixes p) l).1 c.requires.exchanged) takes.0 c.requires.up in
          let v = c.from.result + m in
          let is : v ≡ x.cost + m = omega (arith, c.from.ensures) in
          let given : v < get_or xs x.router 0 = omega (arith, w.if-given-from.true, c.from.ensures, c.from-in-loop-j.ensures) in
          let other : s ≢ x.router = λ same. let mine : get_or xs x.router 0 ≡ m = rw same at tells in omega (arith, given, mine) in
          let hop : MayHop left p x.router l s = record { neighbour = record { other = other; here = (x.cost, has); there = c.requires.teller.2 }; goes_on = λ kept. takes.1 ((kept_left n laws f p x.router).0 kept); tells = c.requires.teller.3 } in
          let one : IsTelling left p m xs (slice_set xs x.router v) = telling_one left p sound m xs x.router l s x.cost v at has hop tells is (omega (arith, given)) in
          rw w.metrics-is (record {
            telling = telling_then left p sound m start xs (slice_set xs x.router v) c.loop-j.invariant.telling one;
            told = step (slice_set xs x.router v) k x its one.at_most (λ up taken. omega (arith, is, get_or-set_at xs x.router x.router v 0 refl at)) c.loop-j.invariant.told;
          })
      | else-given-from w ↦
          rw w.metrics-is (record {
            telling = c.loop-j.invariant.telling;
            told = step xs k x its (λ r. omega arith) (λ up taken. elim w.else-given-from.branch [
              | else-given-from-via-then-given-from+else-takes v ↦ absurd (not_from_Decides _ v.takes.ensures v.if-takes.false (up, taken))
              | else-given-from-via-else-given-from v ↦ omega (arith, v.if-given-from.false, c.from.ensures, c.from-in-loop-j.ensures)
            ]) c.loop-j.invariant.told;
          })
    ]

pub returns-clause-told : goal.returns-clause-told
returns-clause-told c =
    let n = c.args.plan.now in
    let laws = c.lawful.ensures in
    all_told n laws c.args.failure c.args.prefix c.args.link c.args.metric c.on_link-numbers.result.now c.on_link-numbers.ensures.exact
    ((exchange n laws (block_at n.prefixes c.args.prefix) c.args.link).1 c.requires.exchanged) c.loop-j.metrics c.loop-j.j-index
    (omega (arith, c.loop-j-test.false, c.loop-j.auto.j-index-end)) c.loop-j.invariant.told
