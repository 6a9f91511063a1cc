use Rattle.std.proofs.Common.{rules}
use Rattle.rip_report.specs.PlanText.{OfPlan, a_fault, of_plan}
use Rattle.rip_report.proofs.EndLemmas.{first_told, refused_prints, written_also, written_prints}
use Rattle.rip_report.proofs.report.run_plan_report.Goals as goal

pub returns-in-Ok : goal.returns-in-Ok
returns-in-Ok g c =
    let begun = c.new-text.ensures in
    let told = written_also (λ w is. of_plan c.in-Ok.plan w c.in-Ok.ensures.no_fault c.in-Ok.ensures.plan is) c.add-added.ensures in
    record {
      runs = record {
        prints = written_prints g.K.Sink.taken g.K.Sink.broken c.args.out c.answer.result.0 begun.start begun.sink begun.text told c.answer.ensures;
        read = search rules;
        no_text = search rules;
      };
    }

pub returns-in-Err : goal.returns-in-Err
returns-in-Err g c = record {
  runs = record {
    prints =
        refused_prints (OfPlan (g.C.PlanReport.is_text c.args.command.now) c.args.plan.now) c.in-Err.error g.K.Sink.taken g.K.Sink.broken c.args.out c.refuse_plan.result.0 c.refuse_plan.result.1
        (λ other. a_fault c.in-Err.error (first_told c.args.plan.now c.in-Err.error c.in-Err.ensures.told other)) c.refuse_plan.ensures.memory c.refuse_plan.ensures.prints;
    read = search rules;
    no_text = search rules;
  };
}
