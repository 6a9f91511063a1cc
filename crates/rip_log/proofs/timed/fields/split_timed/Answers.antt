use Rattle.std.proofs.Common.{◌≡◌, ◌<◌, ◌∙◌, ℕ, List, ◌∷◌, ap, arith, inl, inr, length, slice_range, suc, subst}
use Rattle.std.proofs.Math.ListN.{drop_of_length-le}
use Rattle.rip_log.specs.Fields.{fields_of}
use Rattle.rip_log.specs.Spans.{slice_of}
use Rattle.rip_log.specs.TimedParts.{AreTimed}
use Rattle.rip_log.specs.Times.{IsTimeText}
use Rattle.rip_log.proofs.FieldLemmas.{fields_of-some, is_comment-no, is_comment-yes}
use Rattle.rip_log.proofs.timed.fields.split_timed.Goals.{then-from-line-via-then-from-line, then-from-line-via-else-from-line+then-line-from-eq35}
use Rattle.rip_log.proofs.timed.fields.split_timed.Goals as goal

-- fields of another number than four are others
not-four : (fields : List (List ℕ)) → (length fields ≡ 4 → ⊥) → (micros : ℕ) (link sender digits : List ℕ) → AreTimed fields micros link sender digits → ⊥
not-four fields count micros link sender digits timed = count (ap length timed.1)

pub returns-then-from-line-clause-splits : goal.returns-then-from-line-clause-splits
returns-then-from-line-clause-splits c =
    let line = c.args.line.now in
    let from = c.skip_blanks-from.result in
    let skips = c.skip_blanks-from.ensures in
    elim c.then-from-line.branch [
      | then-from-line-via-then-from-line w ↦ inl (skips.same ∙ ap fields_of (drop_of_length-le line (omega (arith, w.if-from-line.true))))
      | then-from-line-via-else-from-line+then-line-from-eq35 w ↦
          let inside : from < length line = omega (arith, skips.within, w.if-from-line.false) in
          inr (is_comment-yes line from inside (skips.stops inside) skips.same w.if-line-from-eq35.true)
    ]

pub returns-in_default-clause-splits : goal.returns-in_default-clause-splits
returns-in_default-clause-splits c =
    let line = c.args.line.now in
    let from = c.skip_blanks-from.result in
    let skips = c.skip_blanks-from.ensures in
    let inside : from < length line = search arith in
    let first = skips.same ∙ c.skip_field-to.ensures.split in (
      fields_of-some line from inside (skips.stops inside),
      is_comment-no line from inside (skips.stops inside) skips.same c.if-line-from-eq35.false,
      λ micros link sender digits timed.
          let same : timed.0 ≡ slice_range line from c.skip_field-to.result = cc (timed.1, first) in
          c.in_default.not-Some micros ((c.read_time.ensures.exact micros).1 (subst (IsTimeText micros) same timed.2)),
    )

pub returns-in_default-three_from-clause-splits : goal.returns-in_default-three_from-clause-splits
returns-in_default-three_from-clause-splits c =
    let line = c.args.line.now in
    let from = c.skip_blanks-from.result in
    let skips = c.skip_blanks-from.ensures in
    let inside : from < length line = search arith in
    let fields = ap length (skips.same ∙ c.skip_field-to.ensures.split) in
    let few = rw c.in_default-three_from.is at c.three_from.ensures in (
      fields_of-some line from inside (skips.stops inside),
      is_comment-no line from inside (skips.stops inside) skips.same c.if-line-from-eq35.false,
      not-four (fields_of line) (λ four. omega (arith, four, fields, few)),
    )

pub returns-then-is_field-clause-splits : goal.returns-then-is_field-clause-splits
returns-then-is_field-clause-splits c =
    let line = c.args.line.now in
    let time = slice_range line c.skip_blanks-from.result c.skip_field-to.result in
    let link = slice_of line c.in-Some-three_from.link in
    let sender = slice_of line c.in-Some-three_from.sender in
    let three = c.in-Some-three_from.ensures in
    let first = c.skip_blanks-from.ensures.same ∙ c.skip_field-to.ensures.split in
    let last = c.is_field.ensures.one c.if-is_field.true in (
      (time, first ∙ ap (λ (l : List (List ℕ)). time ∷ l) (three.0 ∙ ap (λ (l : List (List ℕ)). link ∷ sender ∷ l) last), (c.read_time.ensures.exact c.in-Some.micros).0 c.in-Some.is),
      three.1,
      three.2,
      three.3,
    )

pub returns-else-is_field-clause-splits : goal.returns-else-is_field-clause-splits
returns-else-is_field-clause-splits c =
    let line = c.args.line.now in
    let from = c.skip_blanks-from.result in
    let skips = c.skip_blanks-from.ensures in
    let inside : from < length line = search arith in
    let fields = ap length (skips.same ∙ c.skip_field-to.ensures.split) ∙ ap suc (ap length c.in-Some-three_from.ensures.0) in
    let more = c.is_field.ensures.more c.if-is_field.false in (
      fields_of-some line from inside (skips.stops inside),
      is_comment-no line from inside (skips.stops inside) skips.same c.if-line-from-eq35.false,
      not-four (fields_of line) (λ four. omega (arith, four, fields, more)),
    )
