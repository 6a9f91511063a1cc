use Rattle.std.proofs.Common.{◌++◌, List, ℕ, subst, sym}
use Rattle.rip_report.specs.Held.{held}
use Rattle.rip_report.specs.Sent.{Writes, sink_state}
use Rattle.rip_report.proofs.OutLemmas.{writes_held}
use Rattle.rip_report.proofs.page.Page.push_behind.Goals as goal

pub returns-then-bytes-gt-PAGE_BYTES : goal.returns-then-bytes-gt-PAGE_BYTES
returns-then-bytes-gt-PAGE_BYTES g c = λ start text s.
    let state = sink_state g.K.Sink.taken g.K.Sink.broken in
    subst (λ (l : List ℕ). Writes start (state c.send.new.out) c.send.new.wrote (text ++ c.args.bytes.now) l) (sym c.clear.ensures.empty)
    (c.send.ensures start text (c.clear.ensures.writes start text s))

pub returns-else-bytes-gt-PAGE_BYTES : goal.returns-else-bytes-gt-PAGE_BYTES
returns-else-bytes-gt-PAGE_BYTES g c = λ start text s.
    let now = sink_state g.K.Sink.taken g.K.Sink.broken c.clear.new.out in
    subst (λ (l : List ℕ). Writes start now c.clear.new.wrote (text ++ c.args.bytes.now) l) (sym c.add.ensures.held)
    (writes_held start now c.clear.new.wrote text (held c.clear.new.self) c.args.bytes.now (subst (Writes start now c.clear.new.wrote text) (sym c.clear.ensures.empty) (c.clear.ensures.writes start text s)))
