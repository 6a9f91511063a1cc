use Rattle.std.proofs.Common.{[], Result, subst}
use Rattle.rip_log.specs.declared.device.Failed.{Failed}
use Rattle.rip_report.specs.Held.{held}
use Rattle.rip_report.specs.Outs.{Progress, noted}
use Rattle.rip_report.specs.Sent.{Writes, sink_state}
use Rattle.rip_report.proofs.SentLemmas.{Writes-held}
use Rattle.rip_report.proofs.output.Out.finish.Goals as goal

pub returns-in-Ok-clause-writes : goal.returns-in-Ok-clause-writes
returns-in-Ok-clause-writes g c =
    let o = c.self.inside in
    let state = sink_state g.K.Sink.taken g.K.Sink.broken in
    let start = state o.start.value in
    let text = noted o.added.outcomes in
    let before = subst (λ (r : Result (Unit {0}) Failed). Writes start (state o.sink) r text (held o.page)) c.in-Ok.is c.self.invariant in
    let went = Writes-held start (state o.sink) (state c.flush-sent.new.out) tt c.flush-sent.result text (held o.page) [] before c.flush-sent.ensures.writes in
    subst (λ (p : Progress). Writes p.start (state c.flush-sent.new.out) c.flush-sent.result p.text []) c.self.view_is went
