use Rattle.rip_report.proofs.EndLemmas.{written_prints, written_status}
use Rattle.rip_report.proofs.report.write_report.Goals as goal

pub returns-clause-prints : goal.returns-clause-prints
returns-clause-prints g c =
    let begun = c.new-text.ensures in
    written_prints g.K.Sink.taken g.K.Sink.broken c.args.out c.answer.result.0 begun.start begun.sink begun.text c.add-added.ensures.adds c.answer.ensures

pub returns-clause-meaning : goal.returns-clause-meaning
returns-clause-meaning g c = written_status (g.C.Report.means c.args.command.now c.args.plan.now (g.T.Table.state c.args.table.now)) c.add-added.ensures.meaning c.answer.ensures
