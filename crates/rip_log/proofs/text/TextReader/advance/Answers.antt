use Rattle.std.proofs.Common.{rules, ◌<◌, ◌∙◌, arith, ap, refl, subst, sym}
use Rattle.std.proofs.KnownBytes.{Keeps-trans}
use Rattle.rip_log.specs.Feeds.{held, text}
use Rattle.rip_log.specs.Held.{ready_lines}
use Rattle.rip_log.specs.TextCall.IsBadNext.{long_line, too_many, unread}
use Rattle.rip_log.specs.Wholes.{rest_of}
use Rattle.rip_log.specs.declared.window.Window.{Window}
use Rattle.rip_log.proofs.CarryLemmas.{line-kept, long-kept}
use Rattle.rip_log.proofs.TextLemmas.{bare-taken, ready-held}
use Rattle.rip_log.proofs.WholeLemmas.{begins_back, went_on}
use Rattle.rip_log.proofs.text.TextReader.advance.Goals as goal

pub returns-in-Err-take_line-clause-call : goal.returns-in-Err-take_line-clause-call
returns-in-Err-take_line-clause-call g c =
    let S = g.R.Source in
    let old = c.args.self.now in
    let mid = c.has_line.new.self in
    let now = c.take_line.new.self in
    record {
      gives = λ running whole begins.
          let before = begins_back S.given S.coming S.at_end whole mid.feed.source now.feed.source c.take_line.ensures.went begins in
          let coming = rest_of S.given whole in
          let keeps = Keeps-trans (text coming old.window.feed) (text coming mid.feed) (text coming now.feed) (c.has_line.ensures.text whole before) (c.in-Err-take_line.ensures.kept whole begins) in
          rw c.stop-in-Err-take_line.ensures.error (unread keeps);
      ended = λ was. cc (was, c.if-self.false);
      behind = search rules;
      numbered = tt;
      here = search rules;
      few = search rules;
      failed = search rules;
      marks = search rules;
      stopped = search rules;
      over = λ e. cc e;
      went = went_on S.given S.coming S.at_end _ _ _ c.has_line.ensures.went c.take_line.ensures.went;
      unpulled = search rules;
      rests = λ was. cc (was, c.if-self.false);
      ready = λ some.
          let same = (c.has_line.ensures.unchanged (ready-held _ some)).1 in
          c.take_line.ensures.ready (subst (λ (w : Window g.row.R.Denot). 0 < ready_lines (held w.feed)) (sym same) some) ∙ ap (λ (w : Window g.row.R.Denot). w.feed.source) same;
    }

pub returns-in-Ok-Long-clause-call : goal.returns-in-Ok-Long-clause-call
returns-in-Ok-Long-clause-call g c =
    let S = g.R.Source in
    let old = c.args.self.now in
    let mid = c.has_line.new.self in
    let now = c.take_line.new.self in
    record {
      gives = λ running whole begins.
          let before = begins_back S.given S.coming S.at_end whole mid.feed.source now.feed.source c.take_line.ensures.went begins in
          let coming = rest_of S.given whole in
          let cut = (rw c.in-Ok-Long.field-0-is at c.in-Ok-Long.ensures.cut) whole begins in
          let keeps = c.has_line.ensures.text whole before in
          let kept = Keeps-trans (text coming old.window.feed) (text coming mid.feed) (text coming now.feed) keeps cut.1 in
          rw c.stop-in-Ok-Long.ensures.error (long_line (omega arith) (long-kept (text coming old.window.feed) (text coming mid.feed) keeps cut.0) kept);
      ended = λ was. cc (was, c.if-self.false);
      behind = search rules;
      numbered = tt;
      here = search rules;
      few = search rules;
      failed = search rules;
      marks = search rules;
      stopped = search rules;
      over = λ e. cc e;
      went = went_on S.given S.coming S.at_end _ _ _ c.has_line.ensures.went c.take_line.ensures.went;
      unpulled = search rules;
      rests = λ was. cc (was, c.if-self.false);
      ready = λ some.
          let same = (c.has_line.ensures.unchanged (ready-held _ some)).1 in
          c.take_line.ensures.ready (subst (λ (w : Window g.row.R.Denot). 0 < ready_lines (held w.feed)) (sym same) some) ∙ ap (λ (w : Window g.row.R.Denot). w.feed.source) same;
    }

pub returns-in-Ok-Line-clause-call : goal.returns-in-Ok-Line-clause-call
returns-in-Ok-Line-clause-call g c =
    let S = g.R.Source in
    let old = c.args.self.now in
    let mid = c.has_line.new.self in
    let now = c.take_line.new.self in
    record {
      gives = λ running whole begins.
          let before = begins_back S.given S.coming S.at_end whole mid.feed.source now.feed.source c.take_line.ensures.went begins in
          let coming = rest_of S.given whole in
          let cut = (rw c.in-Ok-Line.field-0-is at c.in-Ok-Line.ensures.cut) whole begins in
          let within = rw c.in-Ok-Line.field-0-is at c.in-Ok-Line.ensures.within in
          bare-taken (text coming old.window.feed) (text coming mid.feed) (text coming now.feed) now.feed.buffer.items c.in-Ok-Line.line (c.has_line.ensures.text whole before) cut within.1;
      ended = λ was. cc (was, c.if-self.false);
      behind = search rules;
      numbered = refl;
      here = tt;
      few = search rules;
      failed = search rules;
      marks = search rules;
      stopped = search rules;
      over = λ e. cc e;
      went = went_on S.given S.coming S.at_end _ _ _ c.has_line.ensures.went c.take_line.ensures.went;
      unpulled = search rules;
      rests = λ was. cc (was, c.if-self.false);
      ready = λ some.
          let same = (c.has_line.ensures.unchanged (ready-held _ some)).1 in
          c.take_line.ensures.ready (subst (λ (w : Window g.row.R.Denot). 0 < ready_lines (held w.feed)) (sym same) some) ∙ ap (λ (w : Window g.row.R.Denot). w.feed.source) same;
    }

pub returns-in-Err-clause-call : goal.returns-in-Err-clause-call
returns-in-Err-clause-call g c = rw c.stop-in-Err.ensures.error (search (rules, unread))

pub returns-then-self-ge-MOST_LINES-clause-call : goal.returns-then-self-ge-MOST_LINES-clause-call
returns-then-self-ge-MOST_LINES-clause-call g c = rw c.stop-then-self-ge-MOST_LINES.ensures.error (search (rules, too_many, line-kept))
