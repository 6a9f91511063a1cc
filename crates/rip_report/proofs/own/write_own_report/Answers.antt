use Rattle.rip_report.specs.OwnText.{IsOwnJudged}
use Rattle.rip_report.proofs.EndLemmas.{written_prints, written_status}
use Rattle.rip_report.proofs.own.write_own_report.Goals as goal

pub returns-clause-prints : goal.returns-clause-prints
returns-clause-prints g c =
    let begun = c.new-text.ensures in
    let says = g.C.OwnReport.is_text c.args.command.now c.args.plan.now (g.G.RouteTables.tables c.args.tables.now) (g.T.Table.state c.args.table.now) in
    written_prints {IsText = says} g.K.Sink.taken g.K.Sink.broken c.args.out c.answer.result.0 begun.start begun.sink begun.text c.add-added.ensures.adds c.answer.ensures

pub returns-clause-judged : goal.returns-clause-judged
returns-clause-judged g c = written_status (IsOwnJudged c.args.plan.now (g.G.RouteTables.tables c.args.tables.now)) c.add-added.ensures.judged c.answer.ensures
