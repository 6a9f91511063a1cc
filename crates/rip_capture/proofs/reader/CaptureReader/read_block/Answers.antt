use Rattle.std.proofs.Common.{◌≡◌, ◌+◌, ◌++◌, ◌∙◌, [], Option, Some, ap, append_assoc, arith, inl, inr, is_some, length, refl, subst, sym}
use Rattle.std.proofs.lemmas.Bool.{false≢true}
use Rattle.std.proofs.lemmas.List.{length-append, nil_from_length}
use Rattle.rip_log.specs.Wholes.{Went}
use Rattle.rip_capture.proofs.ReaderLemmas.{block-ends, block-stands}
use Rattle.rip_capture.proofs.StepLemmas.{begun, block-stops, held-kind, stops-missing}
use Rattle.rip_capture.specs.NextCall.{HasRead, HoldsPacket, held_by, section_by}
use Rattle.rip_log.specs.declared.feed.Feed.{Feed}
use Rattle.rip_capture.specs.declared.reader.CaptureReader.{CaptureReader}
use Rattle.rip_capture.specs.declared.reader.Format.{Format}
use Rattle.rip_capture.proofs.reader.CaptureReader.read_block.Goals as goal

pub returns-in-Err-clause-steps : goal.returns-in-Err-clause-steps
returns-in-Err-clause-steps g c =
    let S = g.R.Source in
    let old = c.args.self.now in
    let new : CaptureReader g.row.R.Denot = record { parts = c.next_block.new.parts; format = old.format; section = old.section; position = old.position; refusal = old.refusal } in
    let found = c.in-Err.ensures.found in
    record {
      goes = λ before taken frames s.
          let are = subst (λ (f : Option Format). HasRead f (section_by old) taken frames) c.requires s.read in
          let b = found.0 ++ held_by new in
          let front = begun taken b frames (section_by old) are in
          stops-missing S.given S.at_end before taken b frames (Some (section_by old)) new front.0 front.1 are
          (found.1.takes (before ++ taken) s.gave ∙ append_assoc (before ++ taken) found.0 (held_by new)) s.position c.in-Err.code old.position s.position found.2;
      moves = record {
        went = c.next_block.ensures.went;
        failed = λ bad. inl (c.in-Err.ensures.failed bad);
        marks = λ calm. c.in-Err.ensures.marks calm;
      };
      format = c.requires;
      on = tt;
      over = λ e. cc e;
      stays_over = λ o. cc (c.in-Err.ensures.over o.all o.ended);
      ready = λ holds. let is = subst (λ (f : Option Format). HoldsPacket f (section_by old) (held_by old)) c.requires holds in
          (ap (λ (f : Feed g.row.R.Denot). f.source) (c.next_block.ensures.ready is.block), λ e. cc e);
      refusal = refl;
    }

pub returns-in-Ok-None-clause-steps : goal.returns-in-Ok-None-clause-steps
returns-in-Ok-None-clause-steps g c =
    let S = g.R.Source in
    let old = c.args.self.now in
    let new : CaptureReader g.row.R.Denot = record { parts = c.next_block.new.parts; format = old.format; section = old.section; position = old.position; refusal = old.refusal } in
    let found = rw c.in-Ok-None.field-0-is at c.in-Ok-None.ensures.found in
    let size : length found.0 + length (held_by new) ≡ 0 = sym (length-append found.0 (held_by new)) ∙ ap length found.2.0 in
    let nothing : found.0 ≡ [] = nil_from_length found.0 (omega (arith, size)) in
    let all : held_by new ≡ [] = nil_from_length (held_by new) (omega (arith, size)) in
    record {
      goes = λ before taken frames s. block-ends S.given S.at_end before taken frames old new found.0 c.requires refl refl refl nothing all found.2.1 found.1 s;
      moves = record {
        went = c.next_block.ensures.went;
        failed = λ bad. absurd (false≢true bad);
        marks = λ calm. c.in-Ok-None.ensures.marks refl;
      };
      format = c.requires;
      on = tt;
      over = λ e. record { begun = ap is_some c.requires; all = all; ended = found.2.1 };
      stays_over = λ o. refl;
      ready = λ holds. let is = subst (λ (f : Option Format). HoldsPacket f (section_by old) (held_by old)) c.requires holds in
          (ap (λ (f : Feed g.row.R.Denot). f.source) (c.next_block.ensures.ready is.block), λ e. cc e);
      refusal = refl;
    }

pub returns-in-Err-take_block-clause-steps : goal.returns-in-Err-take_block-clause-steps
returns-in-Err-take_block-clause-steps g c =
    let S = g.R.Source in
    let old = c.args.self.now in
    let mid : CaptureReader g.row.R.Denot = record { parts = c.next_block.new.parts; format = old.format; section = old.section; position = old.position; refusal = old.refusal } in
    let new = c.take_block.new.self in
    let found = rw c.in-Ok-Some.field-0-is at c.in-Ok-Some.ensures.found in
    record {
      goes = λ before taken frames s.
          let st = block-stands S.given before taken frames old mid found.0 c.in-Ok-Some.block c.requires refl refl found.1 found.2 s in
          block-stops S.given S.at_end before taken found.0 frames (section_by old) new c.in-Err-take_block.error st.read
          (c.in-Err-take_block.ensures.took before taken found.0 frames (Some (section_by old)) st);
      moves = record {
        went = subst (λ (s : g.row.R.Denot). Went S.given S.coming S.at_end old.parts.feed.source s) (sym c.take_block.ensures.source) c.next_block.ensures.went;
        failed = λ bad. inr (c.in-Err-take_block.ensures.far bad);
        marks = λ calm. ap S.broken c.take_block.ensures.source ∙ c.in-Ok-Some.ensures.marks refl;
      };
      format = c.take_block.ensures.format ∙ c.requires;
      on = tt;
      over = λ e. cc e;
      stays_over = λ o. let over = rw c.in-Ok-Some.field-0-is at c.in-Ok-Some.ensures.over o.all o.ended in cc over;
      ready = λ holds. let is = subst (λ (f : Option Format). HoldsPacket f (section_by old) (held_by old)) c.requires holds in
          (c.take_block.ensures.source ∙ ap (λ (f : Feed g.row.R.Denot). f.source) (c.next_block.ensures.ready is.block), λ e. cc e);
      refusal = c.take_block.ensures.refusal;
    }

pub returns-in-Ok-clause-steps : goal.returns-in-Ok-clause-steps
returns-in-Ok-clause-steps g c =
    let S = g.R.Source in
    let old = c.args.self.now in
    let mid : CaptureReader g.row.R.Denot = record { parts = c.next_block.new.parts; format = old.format; section = old.section; position = old.position; refusal = old.refusal } in
    let new = c.take_block.new.self in
    let found = rw c.in-Ok-Some.field-0-is at c.in-Ok-Some.ensures.found in
    record {
      goes = λ before taken frames s.
          c.in-Ok.ensures.took before taken found.0 frames (Some (section_by old)) (block-stands S.given before taken frames old mid found.0 c.in-Ok-Some.block c.requires refl refl found.1 found.2 s);
      moves = record {
        went = subst (λ (s : g.row.R.Denot). Went S.given S.coming S.at_end old.parts.feed.source s) (sym c.take_block.ensures.source) c.next_block.ensures.went;
        failed = λ bad. absurd (false≢true bad);
        marks = λ calm. ap S.broken c.take_block.ensures.source ∙ c.in-Ok-Some.ensures.marks refl;
      };
      format = c.take_block.ensures.format ∙ c.requires;
      on = c.in-Ok.ensures.on;
      over = λ e. cc e;
      stays_over = λ o. let over = rw c.in-Ok-Some.field-0-is at c.in-Ok-Some.ensures.over o.all o.ended in cc over;
      ready = λ holds.
          let is = subst (λ (f : Option Format). HoldsPacket f (section_by old) (held_by old)) c.requires holds in
          let kind = held-kind (Some old.section.order) (held_by mid) (held_by old) c.in-Ok-Some.block found.0 found.2 found.1.begins is.block ∙ is.packet in
          (c.take_block.ensures.source ∙ ap (λ (f : Feed g.row.R.Denot). f.source) (c.next_block.ensures.ready is.block), λ e. c.in-Ok.ensures.packet is.form kind (cc e));
      refusal = c.take_block.ensures.refusal;
    }

pub returns-in-Err-clause-good : goal.returns-in-Err-clause-good
returns-in-Err-clause-good g c = tt

pub returns-in-Ok-None-clause-good : goal.returns-in-Ok-None-clause-good
returns-in-Ok-None-clause-good g c = tt

pub returns-in-Err-take_block-clause-good : goal.returns-in-Err-take_block-clause-good
returns-in-Err-take_block-clause-good g c = tt

pub returns-in-Ok-clause-good : goal.returns-in-Ok-clause-good
returns-in-Ok-clause-good g c = c.in-Ok.ensures.good
