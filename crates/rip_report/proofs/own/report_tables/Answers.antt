use Rattle.rip_report.proofs.EndLemmas.{prints_also}
use Rattle.rip_report.proofs.own.report_tables.Goals as goal

pub returns-in-Ok-clause-prints : goal.returns-in-Ok-clause-prints
returns-in-Ok-clause-prints g c =
    prints_also _ _ g.K.Sink.taken g.K.Sink.broken c.args.out c.write_own_report.result.0 c.write_own_report.result.1 (λ w h. (_, c.in-Ok.ensures.told, h)) c.write_own_report.ensures.prints
