use Rattle.std.proofs.Common.{not, ap, ◌∙◌, arith}
use Rattle.std.proofs.lemmas.Bool.{both_ways}
use Rattle.rip_check.specs.Cases.{told_in}
use Rattle.rip_check.proofs.OwnedLemmas.{its_number}
use Rattle.rip_check.proofs.ReachLemmas.{another, first_one, loud_one, loudness_is, none_before, quiet_one, reach_is}
use Rattle.rip_check.proofs.SilenceLemmas.{none_there, some_there}
use Rattle.rip_check.proofs.surveys.reach_of.Goals as goal
use Rattle.rip_check.proofs.surveys.reach_of.Goals.{then-exchanges+in-Some, then-exchanges+in-None, else-exchanges+then-is_none+then-is_loud, else-exchanges+else-is_none, else-is_none-via-then-is_none+else-is_loud, else-is_none-via-else-is_none}

pub loop-i-init : goal.loop-i-init
loop-i-init g c = none_before c.args.case.now.plan.now (told_in c.args.case.now) c.args.case.now.prefix c.args.router c.of_router-numbers.result.now

pub interface-own-requires : goal.interface-own-requires
interface-own-requires g c = its_number c.args.case.now.plan.now c.args.router c.of_router-numbers.result.now c.of_router-numbers.ensures.exact c.loop-i.i-index c.loop-i-test.true

pub exchanges-requires : goal.exchanges-requires
exchanges-requires g c = c.lawful.ensures.plan.link_known _ _ _ _ c.interface-own.ensures.is

pub is_loud-requires : goal.is_loud-requires
is_loud-requires g c = its_number c.args.case.now.plan.now c.args.router c.of_router-numbers.result.now c.of_router-numbers.ensures.exact c.loop-i.i-index c.loop-i-test.true

pub loop-i-preserved : goal.loop-i-preserved
loop-i-preserved g c =
    let case = c.args.case.now in
    let n = case.plan.now in
    let shown = told_in case in
    let r = c.args.router in
    let p = case.prefix in
    let numbers = c.of_router-numbers.result.now in
    let exact = c.of_router-numbers.ensures.exact in
    let up = c.of_router-numbers.ensures.ascending in
    let k = c.loop-i.i-index in
    let own = c.interface-own.result in
    let is = c.interface-own.ensures.is in
    let old = c.loop-i.found in
    let was = c.loop-i.invariant in
    let laws = c.lawful.ensures.plan in
    elim c.if-exchanges.branch [
      | then-exchanges+in-Some w ↦
          rw w.found-is (another n laws shown p r numbers exact up k own c.loop-i-test.true is old.first old.more old.loud was (c.exchanges.ensures.0 w.if-exchanges.true) _ w.in-Some.is)
      | then-exchanges+in-None w ↦
          rw w.found-is (first_one n laws shown p r numbers exact up k own c.loop-i-test.true is old.first old.more old.loud was (c.exchanges.ensures.0 w.if-exchanges.true) w.in-None.is)
      | else-exchanges+then-is_none+then-is_loud w ↦
          rw w.found-is (loud_one n laws shown p r numbers exact up k own c.loop-i-test.true is old.first old.more old.loud was (λ yes. both_ways _ w.if-exchanges.false (c.exchanges.ensures.1 yes))
          (none_there old.loud (w.is_none.ensures ∙ ap not w.if-is_none.true)) (λ silent. both_ways _ (let e = w.is_loud.ensures.1 silent in grind arith) w.if-is_loud.true))
      | else-exchanges+else-is_none w ↦
          rw w.found-is (quiet_one n laws shown p r numbers exact up k own c.loop-i-test.true is old.first old.more old.loud was (λ yes. both_ways _ w.if-exchanges.false (c.exchanges.ensures.1 yes))
          (λ none. elim w.else-is_none.branch [
            | else-is_none-via-then-is_none+else-is_loud q ↦ q.is_loud.ensures.0 (ap not q.if-is_loud.false)
            | else-is_none-via-else-is_none q ↦ absurd (some_there old.loud (w.is_none.ensures ∙ ap not q.if-is_none.false) none)
          ]))
    ]

pub returns-clause-reach : goal.returns-clause-reach
returns-clause-reach g c =
    let case = c.args.case.now in
    reach_is case.plan.now c.lawful.ensures.plan (told_in case) case.prefix c.args.router c.requires c.of_router-numbers.result.now c.of_router-numbers.ensures.exact c.loop-i.i-index c.loop-i-test.false
    c.loop-i.found.first c.loop-i.found.more c.loop-i.found.loud c.loop-i.invariant _

pub returns-clause-loud : goal.returns-clause-loud
returns-clause-loud g c =
    let case = c.args.case.now in
    loudness_is case.plan.now c.lawful.ensures.plan (told_in case) case.prefix c.args.router c.requires c.of_router-numbers.result.now c.of_router-numbers.ensures.exact c.loop-i.i-index c.loop-i-test.false
    c.loop-i.found.first c.loop-i.found.more c.loop-i.found.loud c.loop-i.invariant _
