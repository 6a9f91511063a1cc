use Rattle.std.proofs.Common.{rules}
use Rattle.rip_report.specs.Hearings.{EventsOf, EventsText, HeardOf}
use Rattle.rip_report.specs.PlanText.{a_fault, of_plan}
use Rattle.rip_report.proofs.EndLemmas.{first_told, prints_also, refused_prints}
use Rattle.rip_report.proofs.GivenLemmas.{undrawn}
use Rattle.rip_report.proofs.heard.run_heard.Goals as goal

pub returns-in-Ok-with_hasher : goal.returns-in-Ok-with_hasher
returns-in-Ok-with_hasher g c = record {
  runs = record {
    prints = λ log given.
        prints_also (EventsOf (HeardOf c.in-Ok.plan) c.in-Ok.plan log) (EventsText HeardOf c.args.plan.now log) g.K.Sink.taken g.K.Sink.broken c.args.out c.report_events.result.1 c.report_events.result.2
        (λ w h. of_plan c.in-Ok.plan w c.in-Ok.ensures.no_fault c.in-Ok.ensures.plan h) (c.report_events.ensures.prints log given);
    reads = c.report_events.ensures.reads;
    refuses = record { untouched = λ e fault. absurd (c.in-Ok.ensures.no_fault e (fault.pass, fault.found)); no_text = search rules };
  };
}

pub returns-in-Err : goal.returns-in-Err
returns-in-Err g c =
    let S = g.R.Source in
    record {
      runs = record {
        prints = λ log given.
            refused_prints (EventsText HeardOf c.args.plan.now log) c.in-Err.error g.K.Sink.taken g.K.Sink.broken c.args.out c.refuse_plan-out.result.0 c.refuse_plan-out.result.1
            (λ other. a_fault c.in-Err.error (first_told c.args.plan.now c.in-Err.error c.in-Err.ensures.told other)) c.refuse_plan-out.ensures.memory c.refuse_plan-out.ensures.prints;
        reads = record {
          draws = undrawn S.given S.coming S.broken S.at_end c.args.log _ (g.met.R.Source.nothing_left c.args.log);
          read = search rules;
        };
        refuses = search rules;
      };
    }

pub returns-in-Err-with_hasher : goal.returns-in-Err-with_hasher
returns-in-Err-with_hasher g c =
    let S = g.R.Source in
    record {
      runs = record {
        prints = search rules;
        reads = record {
          draws = undrawn S.given S.coming S.broken S.at_end c.args.log _ (g.met.R.Source.nothing_left c.args.log);
          read = search rules;
        };
        refuses = search rules;
      };
    }
