use Rattle.std.proofs.Common.{◌∙◌, [], sym}
use Rattle.rip_report.specs.Sent.{sink_state}
use Rattle.rip_report.proofs.OutLemmas.{writes_lost, writes_on}
use Rattle.rip_report.proofs.page.send.Goals as goal

pub returns-then-is_ok : goal.returns-then-is_ok
returns-then-is_ok g c = λ start text s.
    let state = sink_state g.K.Sink.taken g.K.Sink.broken in
    writes_on start (state c.args.out.now) (state c.write_all.new.out) c.args.wrote.now c.write_all.result text [] c.args.bytes.now []
    (sym c.is_ok.ensures.value ∙ c.if-is_ok.true) c.write_all.ensures s

pub returns-else-is_ok : goal.returns-else-is_ok
returns-else-is_ok g c = λ start text s.
    writes_lost start (sink_state g.K.Sink.taken g.K.Sink.broken c.args.out.now) c.args.wrote.now text [] c.args.bytes.now (sym c.is_ok.ensures.value ∙ c.if-is_ok.false) s
