use Rattle.std.proofs.Common.{◌<◌, ◌∙◌, ap, arith, length}
use Rattle.rip_log.proofs.FieldLemmas.{fields_of-some, is_comment-no, is_comment-yes}
use Rattle.rip_log.proofs.fields.split.Goals as goal

pub returns-then-line-from-eq35 : goal.returns-then-line-from-eq35
returns-then-line-from-eq35 c =
    let skips = c.skip_blanks-from.ensures in
    let inside : c.skip_blanks-from.result < length c.args.line.now = search arith in
    is_comment-yes c.args.line.now c.skip_blanks-from.result inside (skips.stops inside) skips.same c.if-line-from-eq35.true

pub returns-in-Some : goal.returns-in-Some
returns-in-Some c =
    let skips = c.skip_blanks-from.ensures in
    let three = c.in-Some.ensures in
    let inside : c.skip_blanks-from.result < length c.args.line.now = search arith in (
      is_comment-no c.args.line.now c.skip_blanks-from.result inside (skips.stops inside) skips.same c.if-line-from-eq35.false,
      (skips.same ∙ three.0, three.1, three.2, three.3, three.4),
    )

pub returns-in-None : goal.returns-in-None
returns-in-None c =
    let line = c.args.line.now in
    let skips = c.skip_blanks-from.ensures in
    let inside : c.skip_blanks-from.result < length line = search arith in (
      is_comment-no line c.skip_blanks-from.result inside (skips.stops inside) skips.same c.if-line-from-eq35.false,
      fields_of-some line c.skip_blanks-from.result inside (skips.stops inside),
      omega (arith, ap length skips.same, c.in-None.ensures),
    )
