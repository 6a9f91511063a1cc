use Rattle.std.proofs.Common.{◌≡◌, ◌∙◌, None, Some, arith, inl, refl, sym}
use Rattle.rip_capture.proofs.ReaderLemmas.{Begins-behind, StopsAt-front}
use Rattle.rip_capture.specs.declared.reader.CaptureReader.{CaptureReader}
use Rattle.rip_capture.proofs.reader.CaptureReader.read_front.Goals as goal

pub returns-in-Err : goal.returns-in-Err
returns-in-Err g c =
    let S = g.R.Source in
    let old = c.args.self.now in
    let new : CaptureReader g.row.R.Denot = record { parts = c.next_magic.new.parts; format = old.format; section = old.section; position = old.position; refusal = old.refusal } in
    record {
      goes = λ before taken frames s. StopsAt-front S.given S.at_end before taken frames old new c.in-Err.code c.requires c.next_magic.ensures.keeps refl c.in-Err.ensures.found
          (λ failed. omega (arith, c.in-Err.ensures.short failed)) s;
      moves = record {
        went = c.next_magic.ensures.went;
        failed = λ bad. inl (c.in-Err.ensures.failed bad);
        marks = λ calm. c.in-Err.ensures.marks calm;
      };
      format = tt;
      kept = λ f is. let wrong : None ≡ Some f = sym c.requires ∙ is in absurd (cc wrong);
      refusal = refl;
    }

pub returns-in-Ok-Pcap : goal.returns-in-Ok-Pcap
returns-in-Ok-Pcap g c =
    let S = g.R.Source in
    let old = c.args.self.now in
    let mid : CaptureReader g.row.R.Denot = record { parts = c.next_magic.new.parts; format = old.format; section = old.section; position = old.position; refusal = old.refusal } in
    Begins-behind S.given S.coming S.broken S.at_end old mid c.read_header.new.self c.read_header.result c.requires refl refl refl refl c.next_magic.ensures.keeps c.next_magic.ensures.went
    (c.in-Ok-Pcap.ensures.marks refl) c.read_header.ensures

pub returns-in-Ok-Pcapng : goal.returns-in-Ok-Pcapng
returns-in-Ok-Pcapng g c =
    let S = g.R.Source in
    let old = c.args.self.now in
    let mid : CaptureReader g.row.R.Denot = record { parts = c.next_magic.new.parts; format = old.format; section = old.section; position = old.position; refusal = old.refusal } in
    Begins-behind S.given S.coming S.broken S.at_end old mid c.read_section.new.self c.read_section.result c.requires refl refl refl refl c.next_magic.ensures.keeps c.next_magic.ensures.went
    (c.in-Ok-Pcapng.ensures.marks refl) c.read_section.ensures
