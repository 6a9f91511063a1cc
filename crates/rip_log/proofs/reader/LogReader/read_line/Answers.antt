use Rattle.std.proofs.Common.{sym, ap, ◌∙◌, List, ℕ, Ok, Some}
use Rattle.rip_log.specs.Said.{origin_of}
use Rattle.rip_log.specs.Lines.{judge}
use Rattle.rip_log.specs.Parts.{capture_of_parts, origin_at}
use Rattle.rip_log.specs.Spans.{slice_of}
use Rattle.rip_log.specs.Codes.{code_of}
use Rattle.rip_log.proofs.reader.LogReader.read_line.Goals as goal

pub returns-in-Ok-Long-clause-says : goal.returns-in-Ok-Long-clause-says
returns-in-Ok-Long-clause-says g c = λ whole begins. (rw c.in-Ok-Long.field-0-is at c.in-Ok-Long.ensures.cut) whole begins

pub returns-in-Err-judge_line-clause-says : goal.returns-in-Err-judge_line-clause-says
returns-in-Err-judge_line-clause-says g c = λ whole begins.
    let w = c.take_line.new.self in
    let fault = c.in-Err-judge_line.fault in
    let says = c.in-Err-judge_line.ensures in (
      slice_of w.feed.buffer.items c.in-Ok-Line.line,
      (rw c.in-Ok-Line.field-0-is at c.in-Ok-Line.ensures.cut) whole begins,
      ap judge (sym c.range.ensures) ∙ says.code,
      ap (λ (l : List ℕ). origin_of l (code_of fault.why)) (sym c.range.ensures) ∙ says.origin ∙ ap (λ (l : List ℕ). origin_at l fault.front) c.range.ensures,
    )

pub returns-in-Ok-Some-clause-says : goal.returns-in-Ok-Some-clause-says
returns-in-Ok-Some-clause-says g c = λ whole begins.
    let w = c.take_line.new.self in
    let room = c.judge_line.new.room in
    let said = (rw c.in-Ok-Some.field-0-is at c.in-Ok-Some.ensures).0 in (
      slice_of w.feed.buffer.items c.in-Ok-Line.line,
      (rw c.in-Ok-Line.field-0-is at c.in-Ok-Line.ensures.cut) whole begins,
      ap judge (sym c.range.ensures) ∙ said ∙ ap (λ (l : List ℕ). Ok (Some (capture_of_parts l room c.in-Ok-Some.parts))) c.range.ensures,
    )

pub returns-in-Ok-None-clause-says : goal.returns-in-Ok-None-clause-says
returns-in-Ok-None-clause-says g c = λ whole begins.
    let w = c.take_line.new.self in (
      slice_of w.feed.buffer.items c.in-Ok-Line.line,
      (rw c.in-Ok-Line.field-0-is at c.in-Ok-Line.ensures.cut) whole begins,
      ap judge (sym c.range.ensures) ∙ (rw c.in-Ok-None.field-0-is at c.in-Ok-None.ensures),
    )
