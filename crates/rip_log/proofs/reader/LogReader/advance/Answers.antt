use Rattle.std.proofs.Common.{rules, refl}
use Rattle.rip_log.specs.NextCall.{lines_behind, source_of, text}
use Rattle.rip_log.specs.Wholes.{rest_of}
use Rattle.rip_log.proofs.AdvanceLemmas.{skips_line, skips_trans}
use Rattle.rip_log.proofs.WholeLemmas.{begins_back, went_on}
use Rattle.rip_log.proofs.reader.LogReader.advance.Goals as goal

pub lines-preserved : goal.lines-preserved
lines-preserved g c =
    let S = g.R.Source in
    let old = c.args.self.now in
    let mid = c.lines.self in
    let now = c.step.new.self in
    let inv = c.lines.invariant in
    let says = rw c.in-Ok-Skipped.field-0-is at c.in-Ok-Skipped.ensures.says in
    let on = rw c.in-Ok-Skipped.field-0-is at c.in-Ok-Skipped.ensures.steps in
    record {
      skips = λ whole begins.
          let rest = rest_of S.given whole in
          let before = begins_back S.given S.coming S.at_end whole (source_of mid) (source_of now) c.step.ensures.moves.went begins in
          skips_trans (text rest old) (text rest mid) (text rest now) (lines_behind old) (lines_behind mid) (lines_behind now) (inv.skips whole before)
          (skips_line (text rest mid) (text rest now) (lines_behind mid) (lines_behind now) (on.few refl) (says whole begins) on.behind);
      went = went_on S.given S.coming S.at_end (source_of old) (source_of mid) (source_of now) inv.went c.step.ensures.moves.went;
      running = search rules;
      onward = search rules;
      marks = search rules;
      unpulled = search rules;
      over = search rules;
      ready = search rules;
      ended = search rules;
    }

pub returns-in-Ok-Next : goal.returns-in-Ok-Next
returns-in-Ok-Next g c =
    let S = g.R.Source in
    let old = c.args.self.now in
    let mid = c.lines.self in
    let now = c.step.new.self in
    let inv = c.lines.invariant in
    let says = rw c.in-Ok-Next.field-0-is at c.in-Ok-Next.ensures.says in
    let on = rw c.in-Ok-Next.field-0-is at c.in-Ok-Next.ensures.steps in
    record {
      comes = record {
        before = lines_behind mid;
        onward = inv.onward;
        behind = on.behind;
        few = on.few;
        comes = λ whole begins.
            let before = begins_back S.given S.coming S.at_end whole (source_of mid) (source_of now) c.step.ensures.moves.went begins in
            record { at = text (rest_of S.given whole) mid; skips = inv.skips whole before; says = says whole begins };
        good = rw c.in-Ok-Next.field-0-is at c.in-Ok-Next.ensures.good;
        moves = record {
          went = went_on S.given S.coming S.at_end (source_of old) (source_of mid) (source_of now) inv.went c.step.ensures.moves.went;
          failed = search rules;
          marks = search rules;
          here = search rules;
          stopped = search rules;
          unpulled = search rules;
        };
        over = search rules;
        stays_over = search rules;
        unpulled = search rules;
        ready = search rules;
        unpulled_ended = search rules;
        ended = search rules;
      };
    }

pub returns-in-Err : goal.returns-in-Err
returns-in-Err g c =
    let S = g.R.Source in
    let old = c.args.self.now in
    let mid = c.lines.self in
    let now = c.step.new.self in
    let inv = c.lines.invariant in
    let says = c.in-Err.ensures.says in
    let on = c.in-Err.ensures.steps in
    record {
      comes = record {
        before = lines_behind mid;
        onward = inv.onward;
        behind = on.behind;
        few = on.few;
        comes = λ whole begins.
            let before = begins_back S.given S.coming S.at_end whole (source_of mid) (source_of now) c.step.ensures.moves.went begins in
            record { at = text (rest_of S.given whole) mid; skips = inv.skips whole before; says = says whole begins };
        good = c.in-Err.ensures.good;
        moves = record {
          went = went_on S.given S.coming S.at_end (source_of old) (source_of mid) (source_of now) inv.went c.step.ensures.moves.went;
          failed = search rules;
          marks = search rules;
          here = search rules;
          stopped = search rules;
          unpulled = search rules;
        };
        over = search rules;
        stays_over = search rules;
        unpulled = search rules;
        ready = search rules;
        unpulled_ended = search rules;
        ended = search rules;
      };
    }
