use Rattle.std.proofs.Common.{rules}
use Rattle.rip_report.proofs.GivenLemmas.{undrawn}
use Rattle.rip_report.proofs.events.report_events.Goals as goal

pub returns-in-Err-clause-reads : goal.returns-in-Err-clause-reads
returns-in-Err-clause-reads g c =
    let S = g.R.Source in
    record {
      draws = undrawn S.given S.coming S.broken S.at_end c.args.log _ (g.met.R.Source.nothing_left c.args.log);
      read = search rules;
    }
