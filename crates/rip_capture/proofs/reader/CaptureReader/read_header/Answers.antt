use Rattle.std.proofs.Common.{◌≡◌, ◌++◌, ◌∙◌, None, Some, ap, inl, refl, subst, sym, take}
use Rattle.std.proofs.lemmas.Bool.{false≢true}
use Rattle.rip_log.specs.Wholes.{Went}
use Rattle.rip_capture.proofs.ReaderLemmas.{Stands-begun, StopsAt-front}
use Rattle.rip_log.specs.Feeds.{held}
use Rattle.rip_capture.specs.declared.reader.CaptureReader.{CaptureReader}
use Rattle.rip_capture.specs.declared.reader.Format.TheVariants.{Pcap}
use Rattle.rip_capture.proofs.reader.CaptureReader.read_header.Goals as goal

pub returns-in-Err : goal.returns-in-Err
returns-in-Err g c =
    let S = g.R.Source in
    let old = c.args.self.now in
    let new : CaptureReader g.row.R.Denot = record { parts = c.next_header.new.parts; format = old.format; section = old.section; position = old.position; refusal = old.refusal } in
    record {
      goes = λ before taken frames s.
          StopsAt-front S.given S.at_end before taken frames old new c.in-Err.code c.requires.format c.next_header.ensures.keeps refl c.in-Err.ensures.found c.in-Err.ensures.short s;
      moves = record {
        went = c.next_header.ensures.went;
        failed = λ bad. inl (c.in-Err.ensures.failed bad);
        marks = λ calm. c.in-Err.ensures.marks calm;
      };
      format = tt;
      kept = λ f is. let wrong : None ≡ Some f = sym c.requires.format ∙ is in absurd (cc wrong);
      refusal = refl;
    }

pub returns-in-Ok : goal.returns-in-Ok
returns-in-Ok g c =
    let S = g.R.Source in
    let old = c.args.self.now in
    let mid = c.next_header.new.parts.feed in
    let new : CaptureReader g.row.R.Denot = record { parts = c.take.new.self; format = Some (Pcap c.in-Ok.header); section = old.section; position = 24; refusal = old.refusal } in
    record {
      goes = λ before taken frames s. (
        taken ++ take 24 (held mid),
        Stands-begun S.given before taken frames old new mid c.in-Ok.header (S.at_end mid.source) c.requires.format refl c.next_header.ensures.keeps c.in-Ok.ensures.found c.take.ensures.takes refl s,
      );
      moves = record {
        went = subst (λ (s : g.row.R.Denot). Went S.given S.coming S.at_end old.parts.feed.source s) (sym c.take.ensures.source) c.next_header.ensures.went;
        failed = λ bad. absurd (false≢true bad);
        marks = λ calm. ap S.broken c.take.ensures.source ∙ c.in-Ok.ensures.marks refl;
      };
      format = refl;
      kept = λ f is. let wrong : None ≡ Some f = sym c.requires.format ∙ is in absurd (cc wrong);
      refusal = refl;
    }
