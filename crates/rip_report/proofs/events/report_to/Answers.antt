use Rattle.std.proofs.Common.{rules}
use Rattle.rip_report.proofs.GivenLemmas.{drawn}
use Rattle.rip_report.proofs.events.report_to.Goals as goal

pub returns-in-Ok-clause-reads : goal.returns-in-Ok-clause-reads
returns-in-Ok-clause-reads g c =
    let S = g.R.Source in
    let after = c.hear_log-source.result.0 in
    record {
      draws = drawn S.given S.coming S.broken S.at_end c.args.log after _ c.hear_log-source.ensures.went (g.met.R.Source.nothing_left after) (search rules);
      read = search rules;
    }

pub returns-in-Err-clause-reads : goal.returns-in-Err-clause-reads
returns-in-Err-clause-reads g c =
    let S = g.R.Source in
    let after = c.hear_log-source.result.0 in
    record {
      draws = drawn S.given S.coming S.broken S.at_end c.args.log after _ c.hear_log-source.ensures.went (g.met.R.Source.nothing_left after) (search rules);
      read = search rules;
    }
