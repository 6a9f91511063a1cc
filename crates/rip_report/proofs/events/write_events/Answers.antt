use Rattle.rip_report.proofs.EndLemmas.{written_prints}
use Rattle.rip_report.proofs.events.write_events.Goals as goal

pub returns-clause-prints : goal.returns-clause-prints
returns-clause-prints g c = λ events holds.
    let begun = c.new-text.ensures in
    written_prints g.K.Sink.taken g.K.Sink.broken c.args.out c.answer.result.0 begun.start begun.sink begun.text (c.add-added.ensures events holds) c.answer.ensures
