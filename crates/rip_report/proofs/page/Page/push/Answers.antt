use Rattle.std.proofs.Common.{◌++◌, List, ℕ, subst, sym}
use Rattle.rip_report.specs.Held.{held}
use Rattle.rip_report.specs.Sent.{Writes, sink_state}
use Rattle.rip_report.proofs.OutLemmas.{writes_held}
use Rattle.rip_report.proofs.page.Page.push.Goals as goal

pub returns-else-bytes-self : goal.returns-else-bytes-self
returns-else-bytes-self g c = λ start text s.
    let now = sink_state g.K.Sink.taken g.K.Sink.broken c.args.out.now in
    subst (λ (l : List ℕ). Writes start now c.args.wrote.now (text ++ c.args.bytes.now) l) (sym c.add.ensures.held)
    (writes_held start now c.args.wrote.now text (held c.args.self.now) c.args.bytes.now s)
