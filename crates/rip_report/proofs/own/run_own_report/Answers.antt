use Rattle.std.proofs.Common.{rules, subst, sym}
use Rattle.std.specs.Prelude.{IfOk}
use Rattle.rip_routes.specs.RouteText.{RefusesText, TellTables}
use Rattle.rip_report.specs.OwnText.{JudgesRightly, RoutesReport, RoutesText}
use Rattle.rip_report.specs.PlanText.{a_fault, of_plan}
use Rattle.rip_report.proofs.EndLemmas.{first_told, prints_also, refused_prints}
use Rattle.rip_report.proofs.GivenLemmas.{undrawn}
use Rattle.rip_report.proofs.ReportLemmas.{same_plan}
use Rattle.rip_report.proofs.StopLemmas.{if_done, stops_untouched}
use Rattle.rip_report.proofs.own.run_own_report.Goals as goal

pub returns-in-Ok-clause-headline : goal.returns-in-Ok-clause-headline
returns-in-Ok-clause-headline g c = λ text given n t are.
    let same = same_plan c.args.plan.now n c.in-Ok.plan (λ n m q. c.one_plan.ensures q.document n m) are.network c.in-Ok.ensures.plan in
    subst (λ k. IfOk c.report_routes.result.2 (JudgesRightly k t)) (sym same) (c.report_routes.ensures.judged text given t (subst (λ k. TellTables k text t) same are.told))

pub returns-in-Ok-clause-runs : goal.returns-in-Ok-clause-runs
returns-in-Ok-clause-runs g c =
    let says = g.C.OwnReport.is_text c.args.command.now in
    let n = c.in-Ok.plan in
    record {
      prints = λ text given.
          prints_also (RoutesReport (says n) n text) (RoutesText says c.args.plan.now text) g.K.Sink.taken g.K.Sink.broken c.args.out c.report_routes.result.1 c.report_routes.result.2
          (λ w h. of_plan n w c.in-Ok.ensures.no_fault c.in-Ok.ensures.plan h) (c.report_routes.ensures.prints text given);
      reads = c.report_routes.ensures.reads;
      refuses = record { untouched = λ e fault. absurd (c.in-Ok.ensures.no_fault e (fault.pass, fault.found)); no_text = search rules };
      stops = λ text given m e is refused.
          let same = same_plan c.args.plan.now m n (λ a b q. c.one_plan.ensures q.document a b) is c.in-Ok.ensures.plan in
          c.report_routes.ensures.stops text given e (subst (λ k. RefusesText k text e) same refused);
    }

pub returns-in-Err-clause-runs : goal.returns-in-Err-clause-runs
returns-in-Err-clause-runs g c =
    let S = g.R.Source in
    let K = g.K.Sink in
    let says = g.C.OwnReport.is_text c.args.command.now in
    let bytes = c.args.plan.now in
    let fault = c.in-Err.error in
    record {
      prints = λ text given.
          refused_prints (RoutesText says bytes text) fault K.taken K.broken c.args.out c.refuse_plan-out.result.0 c.refuse_plan-out.result.1
          (λ other. a_fault fault (first_told bytes fault c.in-Err.ensures.told other)) c.refuse_plan-out.ensures.memory c.refuse_plan-out.ensures.prints;
      reads = record {
        draws = undrawn S.given S.coming S.broken S.at_end c.args.routes _ (g.met.R.Source.nothing_left c.args.routes);
        read = search rules;
        ended = search rules;
      };
      refuses = search rules;
      stops = λ text given m e is refused. if_done _ c.refuse_plan-out.result.1 (stops_untouched S.given c.args.routes e.line);
    }
