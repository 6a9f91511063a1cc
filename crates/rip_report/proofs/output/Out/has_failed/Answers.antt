use Rattle.std.proofs.Common.{◌∙◌, arith, sym}
use Rattle.std.proofs.lemmas.List.{length-take}
use Rattle.rip_report.specs.Held.{held}
use Rattle.rip_report.specs.Outs.{noted}
use Rattle.rip_report.specs.Sent.{sink_state}
use Rattle.rip_report.proofs.OutLemmas.{on_its_way}
use Rattle.rip_report.proofs.output.Out.has_failed.Goals as goal

pub returns-clause-way : goal.returns-clause-way
returns-clause-way g c = λ ok.
    let o = c.self.inside in
    let taken = g.K.Sink.taken in
    let broken = g.K.Sink.broken in
    rw (← c.self.view_is) (on_its_way taken broken (sink_state taken broken o.start.value) o.sink o.wrote (noted o.added.outcomes) (held o.page)
    (sym c.is_err.ensures.value ∙ ok) (omega (arith, length-take o.page.used o.page.bytes, o.page.within)) c.self.invariant)
