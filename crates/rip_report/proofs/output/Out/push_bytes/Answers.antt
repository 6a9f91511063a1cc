use Rattle.std.proofs.Common.{◌∙◌, List, ℕ, ap, refl, subst, sym}
use Rattle.rip_report.specs.Held.{held}
use Rattle.rip_report.specs.Outs.{noted}
use Rattle.rip_report.specs.Sent.{Writes, sink_state}
use Rattle.rip_report.proofs.OutLemmas.{noted_more}
use Rattle.rip_report.proofs.output.Out.push_bytes.Goals as goal

pub invariant_of-self : goal.invariant_of-self
invariant_of-self g c =
    let o = c.self.inside in
    let start = sink_state g.K.Sink.taken g.K.Sink.broken o.start.value in
    let more = ap noted c.note.ensures ∙ noted_more o.added.outcomes c.args.bytes.now in
    subst (λ (l : List ℕ). Writes start (sink_state g.K.Sink.taken g.K.Sink.broken c.push.new.out) c.push.new.wrote l (held c.push.new.self)) (sym more)
    (c.push.ensures start (noted o.added.outcomes) c.self.invariant)

pub returns : goal.returns
returns g c = rw (← c.self.view_is) (record { start = refl; text = ap noted c.note.ensures ∙ noted_more c.self.inside.added.outcomes c.args.bytes.now })
