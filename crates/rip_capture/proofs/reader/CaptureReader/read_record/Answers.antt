use Rattle.std.proofs.Common.{◌+◌, ◌≤◌, ◌∙◌, ℕ, List, ap, arith, drop, inl, inr, is_some, Option, Some, refl, subst, sym, take}
use Rattle.std.proofs.lemmas.Bool.{false≢true}
use Rattle.rip_log.specs.Wholes.{Went}
use Rattle.rip_log.proofs.CutLemmas.{range-drop}
use Rattle.rip_capture.proofs.ReaderLemmas.{EndsHere-found, StopsAt-far, StopsAt-record, TakesPacket-found}
use Rattle.rip_log.specs.Feeds.{held}
use Rattle.rip_capture.specs.NextCall.{HoldsPacket, IsFar, section_by}
use Rattle.rip_capture.specs.Interfaces.{Only}
use Rattle.rip_capture.specs.Pcap.{Frame, record_time}
use Rattle.rip_capture.specs.declared.time.Time.{Time}
use Rattle.rip_capture.proofs.PcapLemmas.{time-front}
use Rattle.rip_log.specs.declared.feed.Feed.{Feed}
use Rattle.rip_capture.specs.declared.reader.CaptureReader.{CaptureReader}
use Rattle.rip_capture.specs.declared.reader.Format.{Format}
use Rattle.rip_capture.proofs.reader.CaptureReader.read_record.Goals as goal

pub returns-in-Err-clause-runs : goal.returns-in-Err-clause-runs
returns-in-Err-clause-runs g c =
    let S = g.R.Source in
    let old = c.args.self.now in
    let new : CaptureReader g.row.R.Denot = record { parts = c.next_record.new.parts; format = old.format; section = old.section; position = old.position; refusal = old.refusal } in
    record {
      goes = λ before taken frames s.
          StopsAt-record S.given S.at_end before taken frames old new c.args.header c.in-Err.code c.requires c.next_record.ensures.keeps refl c.in-Err.ensures.found c.in-Err.ensures.short s;
      moves = record {
        went = c.next_record.ensures.went;
        failed = λ bad. inl (c.in-Err.ensures.failed bad);
        marks = λ calm. c.in-Err.ensures.marks calm;
      };
      over = λ h. cc h;
      stays_over = λ o. cc (c.in-Err.ensures.over o.all o.ended);
      ready = λ holds. ap (λ (f : Feed g.row.R.Denot). f.source) (c.next_record.ensures.ready (subst (λ (f : Option Format). HoldsPacket f (section_by old) (held old.parts.feed)) c.requires holds));
    }

pub returns-in-Ok-None-clause-runs : goal.returns-in-Ok-None-clause-runs
returns-in-Ok-None-clause-runs g c =
    let S = g.R.Source in
    let old = c.args.self.now in
    let new : CaptureReader g.row.R.Denot = record { parts = c.next_record.new.parts; format = old.format; section = old.section; position = old.position; refusal = old.refusal } in
    let found = rw c.in-Ok-None.field-0-is at c.in-Ok-None.ensures.found in
    record {
      goes = λ before taken frames s. EndsHere-found S.given S.at_end before taken frames old new c.args.header c.requires c.next_record.ensures.keeps refl refl refl found s;
      moves = record {
        went = c.next_record.ensures.went;
        failed = λ bad. absurd (false≢true bad);
        marks = λ calm. c.in-Ok-None.ensures.marks refl;
      };
      over = λ h. record { begun = ap is_some c.requires; all = found.0; ended = found.1 };
      stays_over = λ o. refl;
      ready = λ holds. ap (λ (f : Feed g.row.R.Denot). f.source) (c.next_record.ensures.ready (subst (λ (f : Option Format). HoldsPacket f (section_by old) (held old.parts.feed)) c.requires holds));
    }

pub returns-in_default-clause-runs : goal.returns-in_default-clause-runs
returns-in_default-clause-runs g c =
    let S = g.R.Source in
    let old = c.args.self.now in
    let new : CaptureReader g.row.R.Denot = record { parts = c.next_record.new.parts; format = old.format; section = old.section; position = old.position; refusal = old.refusal } in
    let found = rw c.in-Ok-Some.field-0-is at c.in-Ok-Some.ensures.found in
    let far : IsFar new = omega (arith, c.in_default.ensures, found.2) in
    record {
      goes = λ before taken frames s. StopsAt-far S.given S.at_end before taken frames old new c.args.header c.requires c.next_record.ensures.keeps refl far s;
      moves = record {
        went = c.next_record.ensures.went;
        failed = λ bad. inr far;
        marks = λ calm. cc calm;
      };
      over = λ h. cc h;
      stays_over = λ o. cc (c.in-Ok-Some.ensures.over o.all o.ended);
      ready = λ holds. ap (λ (f : Feed g.row.R.Denot). f.source) (c.next_record.ensures.ready (subst (λ (f : Option Format). HoldsPacket f (section_by old) (held old.parts.feed)) c.requires holds));
    }

pub returns-clause-runs : goal.returns-clause-runs
returns-clause-runs g c =
    let S = g.R.Source in
    let old = c.args.self.now in
    let mid = c.next_record.new.parts.feed in
    let h = c.args.header in
    let n = c.in-Ok-Some.captured in
    let took = c.take-taken in
    let span = took.result in
    let new : CaptureReader g.row.R.Denot = record { parts = took.new.self; format = old.format; section = old.section; position = c.in-Some.position; refusal = old.refusal } in
    let found = rw c.in-Ok-Some.field-0-is at c.in-Ok-Some.ensures.found in
    let made : List ℕ → Time → Frame = λ b time. record { link_type = h.framing.link_type; bytes = b; interface = Only; time = Some time } in
    let inside : span.from + 16 ≤ span.to = omega (arith, took.ensures.size) in
    let bytes = sym (range-drop took.new.self.feed.buffer.items span.from span.to 16 inside) ∙ ap (drop 16) took.ensures.lies in
    record {
      goes = λ before taken frames s. TakesPacket-found S.given before taken frames _ old new mid h n (S.at_end mid.source) c.requires c.requires c.next_record.ensures.keeps found took.ensures.takes
          (omega (arith, c.in-Some.ensures)) (ap (λ b. made b c.record_time-time.result) bytes ∙ ap (made (drop 16 (take (16 + n) (held mid)))) (c.record_time-time.ensures ∙ ap (record_time h.order h.framing.resolution) c.held.ensures ∙ time-front h.order h.framing.resolution (held mid) n (omega (arith, found.0)))) s;
      moves = record {
        went = subst (λ (s : g.row.R.Denot). Went S.given S.coming S.at_end old.parts.feed.source s) (sym took.ensures.source) c.next_record.ensures.went;
        failed = λ bad. absurd (false≢true bad);
        marks = λ calm. ap S.broken took.ensures.source ∙ c.in-Ok-Some.ensures.marks refl;
      };
      over = λ e. cc e;
      stays_over = λ o. cc (c.in-Ok-Some.ensures.over o.all o.ended);
      ready = λ holds. took.ensures.source ∙ ap (λ (f : Feed g.row.R.Denot). f.source) (c.next_record.ensures.ready
          (subst (λ (f : Option Format). HoldsPacket f (section_by old) (held old.parts.feed)) c.requires holds));
    }
