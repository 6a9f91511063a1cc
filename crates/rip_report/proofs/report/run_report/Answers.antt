use Rattle.std.proofs.Common.{rules, Some, subst}
use Rattle.std.specs.Prelude.{IfOk}
use Rattle.rip_report.specs.PlanText.{a_fault, of_plan}
use Rattle.rip_report.specs.ReportText.{LogMakes, ReportOf, ReportText}
use Rattle.rip_report.specs.Sent.{WentOut}
use Rattle.rip_report.proofs.EndLemmas.{first_told, prints_also, refused_prints}
use Rattle.rip_report.proofs.GivenLemmas.{undrawn}
use Rattle.rip_report.proofs.ReportLemmas.{ended_accepted, of_read, of_refused, same_plan}
use Rattle.rip_report.proofs.StopLemmas.{if_done, stops_untouched}
use Rattle.rip_report.proofs.report.run_report.Goals as goal

pub returns-in-Ok-with_hasher-clause-runs : goal.returns-in-Ok-with_hasher-clause-runs
returns-in-Ok-with_hasher-clause-runs g c =
    let says = g.C.Report.is_text c.args.command.now in
    let a = g.K.Sink.taken c.args.out in
    let b = g.K.Sink.taken c.report_log.result.1 in
    let bytes = c.args.plan.now in
    record {
      prints = λ log given.
          prints_also (ReportOf (says c.in-Ok.plan) c.in-Ok.plan log) (ReportText says bytes log) g.K.Sink.taken g.K.Sink.broken c.args.out c.report_log.result.1 c.report_log.result.2
          (λ w h. of_plan c.in-Ok.plan w c.in-Ok.ensures.no_fault c.in-Ok.ensures.plan h) (c.report_log.ensures.prints log given);
      reads = c.report_log.ensures.reads;
      told = λ text given n s accepted.
          of_read (λ m t. IfOk c.report_log.result.2 (WentOut (says m t) a b)) bytes text n c.in-Ok.plan s
          (λ n m q. c.one_plan.ensures q.document n m) c.in-Ok.ensures.plan (c.report_log.ensures.told text given) accepted;
      refuses = record { untouched = λ e fault. absurd (c.in-Ok.ensures.no_fault e (fault.pass, fault.found)); no_text = search rules };
      stops = λ text given n s e is made.
          let same = same_plan bytes n c.in-Ok.plan (λ n m q. c.one_plan.ensures q.document n m) is c.in-Ok.ensures.plan in
          c.report_log.ensures.stops text given s e (subst (λ k. LogMakes k text s (Some e)) same made);
    }

pub returns-in-Ok-with_hasher-clause-meaning : goal.returns-in-Ok-with_hasher-clause-meaning
returns-in-Ok-with_hasher-clause-meaning g c =
    λ text given n s accepted. of_read (λ m t. IfOk c.report_log.result.2 (g.C.Report.means c.args.command.now m t)) c.args.plan.now text n c.in-Ok.plan s
    (λ n m q. c.one_plan.ensures q.document n m) c.in-Ok.ensures.plan (c.report_log.ensures.meaning text given) accepted

pub returns-in-Err-clause-runs : goal.returns-in-Err-clause-runs
returns-in-Err-clause-runs g c =
    let S = g.R.Source in
    let K = g.K.Sink in
    let says = g.C.Report.is_text c.args.command.now in
    let bytes = c.args.plan.now in
    let fault = c.in-Err.error in
    let answer = c.refuse_plan-out.result.1 in
    record {
      prints = λ log given.
          refused_prints (ReportText says bytes log) fault K.taken K.broken c.args.out c.refuse_plan-out.result.0 answer
          (λ other. a_fault fault (first_told bytes fault c.in-Err.ensures.told other)) c.refuse_plan-out.ensures.memory c.refuse_plan-out.ensures.prints;
      reads = record {
        draws = undrawn S.given S.coming S.broken S.at_end c.args.log _ (g.met.R.Source.nothing_left c.args.log);
        read = search rules;
        ended = search rules;
      };
      told = λ text given n s accepted.
          of_refused (WentOut (says n s) (K.taken c.args.out) (K.taken c.refuse_plan-out.result.0)) bytes text n s fault answer (first_told bytes fault c.in-Err.ensures.told)
          c.refuse_plan-out.ensures.memory (c.well_formed_texts.ensures bytes) accepted;
      refuses = search rules;
      stops = λ text given n s e is made. if_done _ answer (stops_untouched S.given c.args.log e.line);
    }

pub returns-in-Err-clause-meaning : goal.returns-in-Err-clause-meaning
returns-in-Err-clause-meaning g c =
    let e = c.in-Err.error in
    λ text given n s accepted. of_refused (g.C.Report.means c.args.command.now n s) c.args.plan.now text n s e c.refuse_plan-out.result.1
    (first_told c.args.plan.now e c.in-Err.ensures.told) c.refuse_plan-out.ensures.memory (c.well_formed_texts.ensures c.args.plan.now) accepted

pub returns-in-Ok-with_hasher-clause-accepted : goal.returns-in-Ok-with_hasher-clause-accepted
returns-in-Ok-with_hasher-clause-accepted g c = λ text given n s are.
    ended_accepted (record { text = c.log_texts.ensures.text; fault = c.log_texts.ensures.fault }) c.one_join.ensures c.args.plan.now text n s (g.C.Report.is_text c.args.command.now)
    (g.K.Sink.taken c.args.out) (g.K.Sink.taken c.report_log.result.1) c.report_log.result.2 (λ n m q. c.one_plan.ensures q.document n m) (c.well_formed_texts.ensures c.args.plan.now) are
    ((returns-in-Ok-with_hasher-clause-runs g c).prints text given).text

pub returns-in-Err-clause-accepted : goal.returns-in-Err-clause-accepted
returns-in-Err-clause-accepted g c = λ text given n s are.
    ended_accepted (record { text = c.log_texts.ensures.text; fault = c.log_texts.ensures.fault }) c.one_join.ensures c.args.plan.now text n s (g.C.Report.is_text c.args.command.now)
    (g.K.Sink.taken c.args.out) (g.K.Sink.taken c.refuse_plan-out.result.0) c.refuse_plan-out.result.1 (λ n m q. c.one_plan.ensures q.document n m) (c.well_formed_texts.ensures c.args.plan.now) are
    ((returns-in-Err-clause-runs g c).prints text given).text
