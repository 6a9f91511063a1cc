use Rattle.std.proofs.Common.{◌≡◌, ◌++◌, List, ℕ, append_assoc, subst, sym}
use Rattle.rip_report.specs.Held.{held}
use Rattle.rip_report.specs.Sent.{Writes, sink_state}
use Rattle.rip_report.proofs.OutLemmas.{writes_held}
use Rattle.rip_report.proofs.page.Page.push_parts.Goals as goal

pub returns : goal.returns
returns g c = λ start text s.
    let now = sink_state g.K.Sink.taken g.K.Sink.broken c.args.out.now in
    let more = c.args.front.now ++ (c.args.middle.now ++ c.args.end.now) in
    let same : held c.add-3.new.self ≡ held c.args.self.now ++ more = simp (c.add-3.ensures.held, c.add-2.ensures.held, c.add.ensures.held, append_assoc) in
    subst (λ (l : List ℕ). Writes start now c.args.wrote.now (text ++ more) l) (sym same)
    (writes_held start now c.args.wrote.now text (held c.args.self.now) more s)
