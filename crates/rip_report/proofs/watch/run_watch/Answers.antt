use Rattle.std.proofs.Common.{◌≡◌, rules, subst, sym}
use Rattle.std.specs.Prelude.{◌↔◌, IfOk}
use Rattle.rip_report.specs.PlanText.{a_fault, of_plan}
use Rattle.rip_report.specs.Runs.{StaysInStep}
use Rattle.rip_report.specs.WatchText.{EndsRight, IsVerdictStatus, WatchFront, WatchText}
use Rattle.rip_report.specs.declared.status.Status.TheVariants.{Settled}
use Rattle.rip_report.proofs.EndLemmas.{first_told}
use Rattle.rip_report.proofs.ReportLemmas.{of_read, of_refused, same_plan}
use Rattle.rip_report.proofs.StepLemmas.{untouched_in_step}
use Rattle.rip_report.proofs.WatchRunLemmas.{along_also, never_refused, refused_along, settled_also, undrawn_times}
use Rattle.rip_report.proofs.watch.run_watch.Goals as goal

pub returns-in-Ok-clause-runs : goal.returns-in-Ok-clause-runs
returns-in-Ok-clause-runs g c =
    let K = g.K.Sink in
    let w = c.watch_log.ensures.watches in
    record {
      prints = λ text given.
          along_also K.taken K.broken c.args.out c.watch_log.result.1 c.watch_log.result.2 (λ w h. of_plan c.in-Ok.plan w c.in-Ok.ensures.no_fault c.in-Ok.ensures.plan h)
          (λ w h. of_plan c.in-Ok.plan w c.in-Ok.ensures.no_fault c.in-Ok.ensures.plan h) (w.prints text given);
      draws = w.draws;
      refuses = record { untouched = λ e fault. absurd (c.in-Ok.ensures.no_fault e (fault.pass, fault.found)); no_text = search rules };
      stops = λ n is.
          let same = same_plan c.args.plan.now n c.in-Ok.plan (λ a b q. c.one_plan.ensures q.document a b) is c.in-Ok.ensures.plan in
          subst (λ m. StaysInStep g.R.Source K c.args.watching.length c.args.watching.until_settled m c.args.log c.watch_log.result.0 c.args.out) (sym same) c.watch_log.ensures.stops;
    }

pub returns-in-Ok-clause-settled : goal.returns-in-Ok-clause-settled
returns-in-Ok-clause-settled g c = λ text given n said well is says.
    let same = same_plan c.args.plan.now n c.in-Ok.plan (λ n m q. c.one_plan.ensures q.document n m) is c.in-Ok.ensures.plan in
    settled_also n c.in-Ok.plan c.args.watching.length c.args.watching.until_settled said c.watch_log.result.2 same (c.watch_log.ensures.watches.settled text given said says)

pub returns-in-Ok-clause-film : goal.returns-in-Ok-clause-film
returns-in-Ok-clause-film g c = λ text plain given within goes_on n s accepted.
    of_read (λ m t. IfOk c.watch_log.result.2 (IsVerdictStatus m t)) c.args.plan.now plain n c.in-Ok.plan s
    (λ n m q. c.one_plan.ensures q.document n m) c.in-Ok.ensures.plan (c.watch_log.ensures.watches.film text plain given within goes_on) accepted

pub returns-in-Err-clause-runs : goal.returns-in-Err-clause-runs
returns-in-Err-clause-runs g c =
    let S = g.R.Source in
    let K = g.K.Sink in
    let bytes = c.args.plan.now in
    let fault = c.in-Err.error in
    let watching = c.args.watching in
    let refused = c.refuse_plan-out.ensures in
    let answer = c.refuse_plan-out.result.1 in
    record {
      prints = λ text given.
          refused_along (WatchText watching.length watching.until_settled bytes text) (WatchFront watching.length watching.until_settled bytes text) fault K.taken K.broken c.args.out
          c.refuse_plan-out.result.0 answer (λ other. a_fault fault (first_told bytes fault c.in-Err.ensures.told other)) (λ other. a_fault fault (first_told bytes fault c.in-Err.ensures.told other))
          refused.memory refused.prints;
      draws = undrawn_times S watching.until_settled c.args.log fault K.taken K.broken c.args.out c.refuse_plan-out.result.0 answer
          (g.met.R.Source.nothing_left c.args.log) refused.read refused.prints;
      refuses = search rules;
      stops = λ n is. untouched_in_step S K watching.length watching.until_settled n c.args.log c.args.out;
    }

pub returns-in-Err-clause-settled : goal.returns-in-Err-clause-settled
returns-in-Err-clause-settled g c = λ text given n said well is says.
    let e = c.in-Err.error in
    let bytes = c.args.plan.now in
    let watching = c.args.watching in
    never_refused (λ status. (status ≡ Settled) ↔ EndsRight n watching.length watching.until_settled said) bytes e c.refuse_plan-out.result.1 (first_told bytes e c.in-Err.ensures.told)
    c.refuse_plan-out.ensures.memory (c.well_formed_texts.ensures bytes) well

pub returns-in-Err-clause-film : goal.returns-in-Err-clause-film
returns-in-Err-clause-film g c = λ text plain given within goes_on n s accepted.
    let e = c.in-Err.error in
    of_refused (IsVerdictStatus n s) c.args.plan.now plain n s e c.refuse_plan-out.result.1 (first_told c.args.plan.now e c.in-Err.ensures.told) c.refuse_plan-out.ensures.memory
    (c.well_formed_texts.ensures c.args.plan.now) accepted
