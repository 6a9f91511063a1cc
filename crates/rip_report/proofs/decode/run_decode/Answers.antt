use Rattle.std.proofs.Common.{refl}
use Rattle.rip_wire.specs.Datagram.{datagram_bytes, message_of}
use Rattle.rip_report.specs.DecodeText.{no_hex}
use Rattle.rip_report.proofs.DecodeLemmas.{told_datagram, told_done, told_fault}
use Rattle.rip_report.proofs.EndLemmas.{ends_one}
use Rattle.rip_report.proofs.OutLemmas.{adds_one}
use Rattle.rip_report.proofs.decode.run_decode.Goals as goal

pub returns-in-None-clause-prints : goal.returns-in-None-clause-prints
returns-in-None-clause-prints g c =
    ends_one g.K.Sink.taken g.K.Sink.broken c.args.out c.finish_with.result.0 c.new-text.ensures.start c.new-text.ensures.text
    (adds_one (no_hex (rw (← c.as_bytes.ensures.value) c.in-None.ensures)) c.push.ensures) c.finish_with.ensures

pub returns-in-Ok-clause-prints : goal.returns-in-Ok-clause-prints
returns-in-Ok-clause-prints g c =
    let d = datagram_bytes c.in-Ok.datagram in
    let m = message_of c.in-Ok.datagram in
    let b = c.in-Some.ensures in
    let told = told_datagram c.args.hex.now c.in-Some.bytes.now b.0 d m (rw (← c.as_bytes.ensures.value) b.1) b.2 c.in-Ok.ensures.bytes c.in-Ok.datagram.whole.few
    (λ es. (c.in-Ok.ensures.response es).0) c.in-Ok.ensures.request.0 in
    ends_one g.K.Sink.taken g.K.Sink.broken c.args.out c.finish_with-in-Ok.result.0 c.new-text.ensures.start c.new-text.ensures.text
    (adds_one (told_done c.args.hex.now d m told) c.push_datagram.ensures) c.finish_with-in-Ok.ensures

pub returns-in-Err-clause-prints : goal.returns-in-Err-clause-prints
returns-in-Err-clause-prints g c =
    let e = c.in-Err.error in
    let b = c.in-Some.ensures in
    let fault = (c.in-Err.ensures.refused e.code e.at).0 refl in
    let told = told_fault c.args.hex.now c.in-Some.bytes.now b.0 e.code e.at (rw (← c.as_bytes.ensures.value) b.1) b.2 fault c.in-Err.ensures.longer in
    ends_one g.K.Sink.taken g.K.Sink.broken c.args.out c.finish_with-in-Err.result.0 c.new-text.ensures.start c.new-text.ensures.text
    (adds_one told c.push_fault_line.ensures) c.finish_with-in-Err.ensures
