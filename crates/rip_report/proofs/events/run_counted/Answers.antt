use Rattle.std.proofs.Common.{rules}
use Rattle.rip_report.specs.Hearings.{EventsOf, EventsText, OfAccepted}
use Rattle.rip_report.specs.PlanText.{a_fault, of_plan}
use Rattle.rip_report.specs.Sent.{WentOut}
use Rattle.rip_report.proofs.AcceptedLemmas.{of_accepted, went_also}
use Rattle.rip_report.proofs.EndLemmas.{first_told, prints_also, refused_prints}
use Rattle.rip_report.proofs.GivenLemmas.{undrawn}
use Rattle.rip_report.proofs.ReportLemmas.{of_refused}
use Rattle.rip_report.proofs.events.run_counted.Goals as goal

pub returns-in-Ok-clause-runs : goal.returns-in-Ok-clause-runs
returns-in-Ok-clause-runs g c =
    let says = g.C.EventReport.is_text c.args.command.now in
    record {
      prints = λ log given.
          prints_also (EventsOf (says c.in-Ok.plan) c.in-Ok.plan log) (EventsText says c.args.plan.now log) g.K.Sink.taken g.K.Sink.broken c.args.out c.report_events.result.1 c.report_events.result.2
          (λ w h. of_plan c.in-Ok.plan w c.in-Ok.ensures.no_fault c.in-Ok.ensures.plan h) (c.report_events.ensures.prints log given);
      reads = c.report_events.ensures.reads;
      refuses = record { untouched = λ e fault. absurd (c.in-Ok.ensures.no_fault e (fault.pass, fault.found)); no_text = search rules };
    }

pub returns-in-Ok-clause-accepted : goal.returns-in-Ok-clause-accepted
returns-in-Ok-clause-accepted g c = λ log given n s accepted.
    let says = g.C.EventReport.is_text c.args.command.now in
    let taken = g.K.Sink.taken in
    let e = c.accepted_logs.ensures in
    let bytes = c.args.plan.now in
    went_also (EventsText says bytes log) (OfAccepted says n s) (taken c.args.out) (taken c.report_events.result.1) c.report_events.result.2
    (λ w told. of_accepted says bytes log n s w (λ n m q. c.one_plan.ensures q.document n m) (c.well_formed_texts.ensures bytes) (λ events. e.accepted n log events s)
    (λ events t. e.table n log events t s) accepted told)
    ((returns-in-Ok-clause-runs g c).prints log given).text

pub returns-in-Err-clause-runs : goal.returns-in-Err-clause-runs
returns-in-Err-clause-runs g c =
    let S = g.R.Source in
    let K = g.K.Sink in
    record {
      prints = λ log given.
          refused_prints (EventsText (g.C.EventReport.is_text c.args.command.now) c.args.plan.now log) c.in-Err.error K.taken K.broken c.args.out c.refuse_plan-out.result.0
          c.refuse_plan-out.result.1 (λ other. a_fault c.in-Err.error (first_told c.args.plan.now c.in-Err.error c.in-Err.ensures.told other)) c.refuse_plan-out.ensures.memory c.refuse_plan-out.ensures.prints;
      reads = record {
        draws = undrawn S.given S.coming S.broken S.at_end c.args.log _ (g.met.R.Source.nothing_left c.args.log);
        read = search rules;
      };
      refuses = search rules;
    }

pub returns-in-Err-clause-accepted : goal.returns-in-Err-clause-accepted
returns-in-Err-clause-accepted g c =
    let e = c.in-Err.error in
    λ text given n s accepted. of_refused (WentOut (OfAccepted (g.C.EventReport.is_text c.args.command.now) n s) (g.K.Sink.taken c.args.out)
    (g.K.Sink.taken c.refuse_plan-out.result.0)) c.args.plan.now text n s e c.refuse_plan-out.result.1 (first_told c.args.plan.now e c.in-Err.ensures.told) c.refuse_plan-out.ensures.memory
    (c.well_formed_texts.ensures c.args.plan.now) accepted
