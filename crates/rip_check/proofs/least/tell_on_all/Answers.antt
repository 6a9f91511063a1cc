use Rattle.std.proofs.Common.{◌≡◌, ◌<◌, false, Some, true, get_or, length, inl, inr, ◌∙◌, sym, ap, slice_set, arith}
use Rattle.std.proofs.lemmas.Option.{slice_get-get_or}
use Rattle.std.proofs.lemmas.Bool.Decides.{not_from_Decides}
use Rattle.rip_plan.proofs.PrefixNetworkLemmas.{exchange}
use Rattle.rip_plan.specs.Relations.{IsInterface}
use Rattle.rip_check.specs.Networks.{block_at}
use Rattle.rip_check.specs.Failures.{left_to}
use Rattle.rip_check.proofs.LeftLemmas.{attached_own, cost_left, sound_left}
use Rattle.rip_check.proofs.NetLemmas.{exchanged}
use Rattle.rip_check.proofs.OwnedLemmas.{its_number, its_own}
use Rattle.rip_check.proofs.PlanLemmas.{attached_ne}
use Rattle.rip_check.proofs.StepLemmas.{after_write}
use Rattle.rip_check.proofs.TellingLemmas.{telling_same, telling_then, telling_told}
use Rattle.rip_check.proofs.ToldLemmas.{all_marked, keep_mark, one_marked, set_mark}
use Rattle.rip_check.proofs.least.tell_on_all.Goals as goal
use Rattle.rip_check.proofs.least.tell_on_all.Goals.{then-not-marks-link+then-is_alive+then-ne+then-exchanges, else-not-marks-link, else-not-marks-link-via-then-not-marks-link+then-is_alive+then-ne+else-exchanges, else-not-marks-link-via-then-not-marks-link+then-is_alive+else-ne, else-not-marks-link-via-then-not-marks-link+else-is_alive, else-not-marks-link-via-else-not-marks-link}

pub interface-link-requires : goal.interface-link-requires
interface-link-requires c = its_number c.args.plan.now c.args.router c.of_router-numbers.result.now c.of_router-numbers.ensures.exact c.loop-i.i-index c.loop-i-test.true

pub bounds-marks-link : goal.bounds-marks-link
bounds-marks-link c =
    let x = c.interface-link.result in
    omega (arith, c.requires.marks, c.loop-i.auto.marks, c.lawful.ensures.link_known _ x.router x.link x.cost c.interface-link.ensures.is)

pub bounds-marks-link-then-exchanges : goal.bounds-marks-link-then-exchanges
bounds-marks-link-then-exchanges c =
    let x = c.interface-link.result in
    omega (arith, c.requires.marks, c.loop-i.auto.marks, c.lawful.ensures.link_known _ x.router x.link x.cost c.interface-link.ensures.is)

pub tell-requires-clause-link : goal.tell-requires-clause-link
tell-requires-clause-link c =
    let x = c.interface-link.result in
    c.lawful.ensures.link_known _ x.router x.link x.cost c.interface-link.ensures.is

pub exchanges-requires : goal.exchanges-requires
exchanges-requires c =
    let x = c.interface-link.result in
    c.lawful.ensures.link_known _ x.router x.link x.cost c.interface-link.ensures.is

pub tell-requires-clause-exchanged : goal.tell-requires-clause-exchanged
tell-requires-clause-exchanged c =
    (exchanged c.args.plan.now c.args.prefix c.interface-link.result.link c.prefix-block.result c.prefix-block.ensures).0 (c.exchanges.ensures.0 c.if-exchanges.true)

pub tell-requires-clause-teller : goal.tell-requires-clause-teller
tell-requires-clause-teller c =
    let n = c.args.plan.now in
    let laws = c.lawful.ensures in
    let f = c.args.failure in
    let r = c.args.router in
    let p = c.args.prefix in
    let x = c.interface-link.result in
    let mine = its_own n r c.of_router-numbers.result.now c.of_router-numbers.ensures.exact c.loop-i.i-index x c.loop-i-test.true c.interface-link.ensures.is in
    let up = c.is_alive.ensures.0 c.if-is_alive.true in
    let e = (exchange n laws (block_at n.prefixes p) x.link).1 ((exchanged n p x.link c.prefix-block.result c.prefix-block.ensures).0 (c.exchanges.ensures.0 c.if-exchanges.true)) in
    let same : get_or c.loop-i.metrics r 0 ≡ get_or c.args.metrics.now r 0 =
    telling_same (left_to n f p) p (sound_left n laws f p) c.from-metric.result c.args.metrics.now c.loop-i.metrics c.loop-i.invariant.telling r (omega (arith, c.from-metric.ensures)) in (
      r,
      same ∙ sym c.from-metric.ensures,
      (x.cost, cost_left n laws f p r x.link x.cost (_, mine) e up.0 up.1),
      λ at. (attached_ne n r p x.link c.attached_link-attached.result c.ne.result c.attached_link-attached.ensures c.ne.ensures).0 c.if-ne.true (attached_own n laws f p r x.link at).0,
    )

pub loop-i-preserved : goal.loop-i-preserved
loop-i-preserved c =
    let n = c.args.plan.now in
    let laws = c.lawful.ensures in
    let f = c.args.failure in
    let p = c.args.prefix in
    let r = c.args.router in
    let m = c.from-metric.result in
    let left = left_to n f p in
    let sound = sound_left n laws f p in
    let start = c.args.metrics.now in
    let xs = c.loop-i.metrics in
    let marks = c.loop-i.marks in
    let x = c.interface-link.result in
    let k = c.loop-i.i-index in
    let its : IsInterface n (get_or c.of_router-numbers.result.now k 0) x.router x.link x.cost = c.interface-link.ensures.is in
    let at : x.link < length marks = omega (arith, c.requires.marks, c.loop-i.auto.marks, c.lawful.ensures.link_known _ x.router x.link x.cost its) in
    let was = c.loop-i.invariant in
    let step = one_marked n laws f p r c.of_router-numbers.result.now c.of_router-numbers.ensures.exact marks in
    elim c.if-not-marks-link.branch [
      | then-not-marks-link+then-is_alive+then-ne+then-exchanges w ↦
          let next = slice_set marks x.link true in
          rw w.metrics-is (rw w.marks-is (record {
            telling = telling_then left p sound m start xs w.tell.new.metrics was.telling w.tell.ensures.telling;
            told = λ before l e. elim (after_write marks x.link l true true false at e) [
              | inl h ↦ rw h.0 w.tell.ensures.told
              | inr h ↦ telling_told left p sound m xs w.tell.new.metrics l w.tell.ensures.telling (was.told before l h.1)
            ];
            all = step next k x its (λ l e. keep_mark marks x.link l at e) (λ r_up l_up free off. set_mark marks x.link at) was.all;
            kept = λ l e. keep_mark marks x.link l at (was.kept l e);
          }))
      | else-not-marks-link w ↦
          rw w.metrics-is (rw w.marks-is (record {
            telling = was.telling;
            told = was.told;
            all = step marks k x its (λ l e. e) (λ r_up l_up free off. elim w.else-not-marks-link.branch [
              | else-not-marks-link-via-then-not-marks-link+then-is_alive+then-ne+else-exchanges v ↦
                  absurd (not_from_Decides _ v.exchanges.ensures v.if-exchanges.false
                  ((exchanged n p x.link c.prefix-block.result c.prefix-block.ensures).1 ((exchange n laws (block_at n.prefixes p) x.link).0 free)))
              | else-not-marks-link-via-then-not-marks-link+then-is_alive+else-ne v ↦
                  absurd (off ((attached_ne n r p x.link c.attached_link-attached.result v.ne.result c.attached_link-attached.ensures v.ne.ensures).1 v.if-ne.false))
              | else-not-marks-link-via-then-not-marks-link+else-is_alive v ↦ absurd (not_from_Decides _ v.is_alive.ensures v.if-is_alive.false (r_up, l_up))
              | else-not-marks-link-via-else-not-marks-link v ↦ slice_get-get_or marks x.link false at ∙ ap Some v.if-not-marks-link.false
            ]) was.all;
            kept = was.kept;
          }))
    ]

pub returns-clause-told : goal.returns-clause-told
returns-clause-told c = rw (← c.from-metric.ensures) c.loop-i.invariant.told

pub returns-clause-all : goal.returns-clause-all
returns-clause-all c =
    all_marked c.args.plan.now c.lawful.ensures c.args.failure c.args.prefix c.args.router c.of_router-numbers.result.now c.of_router-numbers.ensures.exact c.requires.router c.loop-i.marks c.loop-i.i-index
    (omega (arith, c.loop-i-test.false, c.loop-i.auto.i-index-end)) c.loop-i.invariant.all
