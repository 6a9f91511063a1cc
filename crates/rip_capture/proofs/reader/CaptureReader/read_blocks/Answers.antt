use Rattle.std.proofs.Common.{◌∙◌, ap, arith, refl, subst, sym}
use Rattle.std.proofs.lemmas.Bool.{false≢true}
use Rattle.rip_log.proofs.WholeLemmas.{went_on}
use Rattle.rip_capture.proofs.ReaderLemmas.{TakesPacket-block}
use Rattle.rip_capture.specs.NextCall.{IsOver, IsReady, source_of}
use Rattle.rip_capture.specs.declared.reader.CaptureReader.{CaptureReader}
use Rattle.rip_capture.proofs.reader.CaptureReader.read_blocks.Goals as goal

pub returns-in-Ok-Some-Packet-clause-runs : goal.returns-in-Ok-Some-Packet-clause-runs
returns-in-Ok-Some-Packet-clause-runs g c =
    let S = g.R.Source in
    let inv = c.next_blocks.invariant in
    let mid = c.next_blocks.self in
    let new = c.read_block.new.self in
    let steps = rw (c.in-Ok-Some-Packet.field-0-is, c.in-Ok-Some-Packet.field-0-0-is) at c.in-Ok-Some-Packet.ensures.steps in
    record {
      goes = λ before taken frames s. let at = inv.stands before taken frames s in TakesPacket-block S.given before at.0 frames mid new c.in-Ok-Some-Packet.found inv.format steps.format at.1
          (steps.goes before at.0 frames at.1);
      moves = record {
        went = went_on S.given S.coming S.at_end (source_of c.args.self.now) (source_of mid) (source_of new) inv.went steps.moves.went;
        failed = λ bad. absurd (false≢true bad);
        marks = λ calm. steps.moves.marks refl ∙ inv.marks;
      };
      over = λ e. cc e;
      stays_over = λ o. let over = steps.stays_over (subst (λ (r : CaptureReader g.row.R.Denot). IsOver S.at_end r) (sym (inv.over o)) o) in cc over;
      ready = λ holds.
          let same = inv.ready holds in
          (steps.ready (subst (λ (r : CaptureReader g.row.R.Denot). IsReady r) (sym same) holds)).0 ∙ ap (λ (r : CaptureReader g.row.R.Denot). source_of r) same;
    }

pub returns-in-Err-clause-runs : goal.returns-in-Err-clause-runs
returns-in-Err-clause-runs g c =
    let S = g.R.Source in
    let inv = c.next_blocks.invariant in
    let mid = c.next_blocks.self in
    let steps = c.in-Err.ensures.steps in
    record {
      goes = λ before taken frames s. let at = inv.stands before taken frames s in steps.goes before at.0 frames at.1;
      moves = record {
        went = went_on S.given S.coming S.at_end (source_of c.args.self.now) (source_of mid) (source_of c.read_block.new.self) inv.went steps.moves.went;
        failed = steps.moves.failed;
        marks = λ calm. steps.moves.marks calm ∙ inv.marks;
      };
      over = λ e. cc e;
      stays_over = λ o. let over = steps.stays_over (subst (λ (r : CaptureReader g.row.R.Denot). IsOver S.at_end r) (sym (inv.over o)) o) in cc over;
      ready = λ holds.
          let same = inv.ready holds in
          (steps.ready (subst (λ (r : CaptureReader g.row.R.Denot). IsReady r) (sym same) holds)).0 ∙ ap (λ (r : CaptureReader g.row.R.Denot). source_of r) same;
    }

pub returns-in-Ok-None-clause-runs : goal.returns-in-Ok-None-clause-runs
returns-in-Ok-None-clause-runs g c =
    let S = g.R.Source in
    let inv = c.next_blocks.invariant in
    let mid = c.next_blocks.self in
    let steps = rw c.in-Ok-None.field-0-is at c.in-Ok-None.ensures.steps in
    record {
      goes = λ before taken frames s. let at = inv.stands before taken frames s in steps.goes before at.0 frames at.1;
      moves = record {
        went = went_on S.given S.coming S.at_end (source_of c.args.self.now) (source_of mid) (source_of c.read_block.new.self) inv.went steps.moves.went;
        failed = steps.moves.failed;
        marks = λ calm. steps.moves.marks calm ∙ inv.marks;
      };
      over = λ e. steps.over refl;
      stays_over = λ o. refl;
      ready = λ holds.
          let same = inv.ready holds in
          (steps.ready (subst (λ (r : CaptureReader g.row.R.Denot). IsReady r) (sym same) holds)).0 ∙ ap (λ (r : CaptureReader g.row.R.Denot). source_of r) same;
    }

pub next_blocks-smaller : goal.next_blocks-smaller
next_blocks-smaller g c =
    let steps = rw (c.in-Ok-Some-Passed.field-0-is, c.in-Ok-Some-Passed.field-0-0-is) at c.in-Ok-Some-Passed.ensures.steps in
    let on = steps.on in
    omega (arith, on.0, on.1)
