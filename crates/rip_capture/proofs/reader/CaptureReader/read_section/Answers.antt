use Rattle.std.proofs.Common.{◌≡◌, ◌∙◌, List, [], Option, None, Some, ap, inl, inr, refl, subst, sym}
use Rattle.std.proofs.lemmas.Bool.{false≢true}
use Rattle.rip_log.specs.Wholes.{Went}
use Rattle.rip_capture.proofs.StepLemmas.{first-kind, front-missing, front-stands, front-stops}
use Rattle.rip_capture.specs.NextCall.{HasRead, section_by}
use Rattle.rip_capture.specs.Pcap.{Frame}
use Rattle.rip_capture.specs.Pcapng.{AreBlocks}
use Rattle.rip_capture.specs.Steps.{frames_of}
use Rattle.rip_capture.specs.declared.reader.CaptureReader.{CaptureReader}
use Rattle.rip_capture.specs.declared.reader.Format.{Format}
use Rattle.rip_capture.specs.declared.reader.Step.TheVariants.{Passed}
use Rattle.rip_capture.proofs.reader.CaptureReader.read_section.Goals as goal

pub returns-in-Err : goal.returns-in-Err
returns-in-Err g c =
    let S = g.R.Source in
    let old = c.args.self.now in
    let new : CaptureReader g.row.R.Denot = record { parts = c.first_block.new.parts; format = old.format; section = old.section; position = old.position; refusal = old.refusal } in
    let found = c.in-Err.ensures.found in
    record {
      goes = λ before taken frames s.
          front-missing S.given S.at_end before taken found.0 frames old new (subst
          (λ (f : Option Format). HasRead f (section_by old) taken frames) c.requires.format s.read) s.gave s.position c.requires.begun c.requires.section found.1 c.in-Err.code found.2;
      moves = record {
        went = c.first_block.ensures.went;
        failed = λ bad. inl (c.in-Err.ensures.failed bad);
        marks = λ calm. c.in-Err.ensures.marks calm;
      };
      format = tt;
      kept = λ f is. let wrong : None ≡ Some f = sym c.requires.format ∙ is in absurd (cc wrong);
      refusal = refl;
    }

pub returns-in-Err-take_block : goal.returns-in-Err-take_block
returns-in-Err-take_block g c =
    let S = g.R.Source in
    let old = c.args.self.now in
    let mid : CaptureReader g.row.R.Denot = record { parts = c.first_block.new.parts; format = old.format; section = old.section; position = old.position; refusal = old.refusal } in
    let new = c.take_block.new.self in
    let found = c.in-Ok.ensures.found in
    record {
      goes = λ before taken frames s.
          let none = subst (λ (f : Option Format). HasRead f (section_by old) taken frames) c.requires.format s.read in
          let st = front-stands S.given S.at_end before taken found.0 frames old mid none s.gave s.position c.requires.begun c.requires.section found.1 c.in-Ok.block found.2 in
          front-stops S.given S.at_end before taken found.0 frames old mid none s.gave s.position c.requires.begun c.requires.section found.1 new c.in-Err-take_block.error c.take_block.ensures.source
          (c.in-Err-take_block.ensures.took before [] found.0 [] None st);
      moves = record {
        went = subst (λ (s : g.row.R.Denot). Went S.given S.coming S.at_end old.parts.feed.source s) (sym c.take_block.ensures.source) c.first_block.ensures.went;
        failed = λ bad. inr (c.in-Err-take_block.ensures.far bad);
        marks = λ calm. ap S.broken c.take_block.ensures.source ∙ c.in-Ok.ensures.marks refl;
      };
      format = tt;
      kept = λ f is. let wrong : None ≡ Some f = sym c.requires.format ∙ is in absurd (cc wrong);
      refusal = c.take_block.ensures.refusal;
    }

pub returns-in-Ok-take_block : goal.returns-in-Ok-take_block
returns-in-Ok-take_block g c =
    let S = g.R.Source in
    let old = c.args.self.now in
    let mid : CaptureReader g.row.R.Denot = record { parts = c.first_block.new.parts; format = old.format; section = old.section; position = old.position; refusal = old.refusal } in
    let new = c.take_block.new.self in
    let found = c.in-Ok.ensures.found in
    record {
      goes = λ before taken frames s.
          let none = subst (λ (f : Option Format). HasRead f (section_by old) taken frames) c.requires.format s.read in
          let st = front-stands S.given S.at_end before taken found.0 frames old mid none s.gave s.position c.requires.begun c.requires.section found.1 c.in-Ok.block found.2 in
          let took = c.in-Ok-take_block.ensures.took before [] found.0 [] None st in
          let passed : c.in-Ok-take_block.field-0 ≡ Passed = c.in-Ok-take_block.ensures.section (first-kind S.given before [] found.0 [] None mid c.in-Ok.block st refl) in
          let read : AreBlocks None took.more frames (Some (section_by new)) =
          subst (λ (fs : List Frame). AreBlocks None took.more fs (Some (section_by new))) (ap (frames_of new) passed ∙ sym none.1) took.read in
          (took.more, record { gave = took.gave; position = took.position; read = read });
      moves = record {
        went = subst (λ (s : g.row.R.Denot). Went S.given S.coming S.at_end old.parts.feed.source s) (sym c.take_block.ensures.source) c.first_block.ensures.went;
        failed = λ bad. absurd (false≢true bad);
        marks = λ calm. ap S.broken c.take_block.ensures.source ∙ c.in-Ok.ensures.marks refl;
      };
      format = refl;
      kept = λ f is. let wrong : None ≡ Some f = sym c.requires.format ∙ is in absurd (cc wrong);
      refusal = c.take_block.ensures.refusal;
    }
