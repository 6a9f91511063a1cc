use Rattle.std.proofs.Common.{rules, ◌<◌, ◌∙◌, ap, refl, subst, sym}
use Rattle.rip_log.specs.Feeds.{held}
use Rattle.rip_log.specs.Held.{ended_lines}
use Rattle.rip_log.specs.declared.window.Window.{Window}
use Rattle.rip_log.proofs.TimedLemmas.{some-held, taken-kept, unread-kept}
use Rattle.rip_log.proofs.WholeLemmas.{begins_back, went_on}
use Rattle.rip_log.proofs.timed.reader.TimedReader.advance.Goals as goal

pub returns-in-Err-take_line-clause-call : goal.returns-in-Err-take_line-clause-call
returns-in-Err-take_line-clause-call g c =
    let S = g.R.Source in
    let now = c.take_line.new.self in
    record {
      gives = λ whole begins. tt;
      failed = λ whole begins.
          let before = begins_back S.given S.coming S.at_end whole c.has_line.new.self.feed.source now.window.feed.source c.take_line.ensures.went begins in
          unread-kept _ _ _ (c.has_line.ensures.text whole before) (c.in-Err-take_line.ensures.failed whole begins);
      marks = tt;
      behind = tt;
      few = tt;
      numbered = tt;
      early = tt;
      over = λ e. cc e;
      went = went_on S.given S.coming S.at_end _ _ _ c.has_line.ensures.went c.take_line.ensures.went;
      unpulled = search rules;
      ready = λ some.
          let same = (c.has_line.ensures.unchanged (some-held _ some)).1 in
          c.take_line.ensures.ready (subst (λ (w : Window g.row.R.Denot). 0 < ended_lines (held w.feed)) (sym same) some) ∙ ap (λ (w : Window g.row.R.Denot). w.feed.source) same;
    }

pub returns-in-Ok-clause-call : goal.returns-in-Ok-clause-call
returns-in-Ok-clause-call g c =
    let S = g.R.Source in
    let now = c.take_line.new.self in
    record {
      gives = λ whole begins.
          let before = begins_back S.given S.coming S.at_end whole c.has_line.new.self.feed.source now.window.feed.source c.take_line.ensures.went begins in
          taken-kept _ _ _ _ (c.has_line.ensures.text whole before) (c.in-Ok.ensures.says whole begins);
      failed = tt;
      marks = search rules;
      behind = search rules;
      few = search rules;
      numbered = refl;
      early = c.in-Ok.ensures.early;
      over = λ e. cc e;
      went = went_on S.given S.coming S.at_end _ _ _ c.has_line.ensures.went c.take_line.ensures.went;
      unpulled = search rules;
      ready = λ some.
          let same = (c.has_line.ensures.unchanged (some-held _ some)).1 in
          c.take_line.ensures.ready (subst (λ (w : Window g.row.R.Denot). 0 < ended_lines (held w.feed)) (sym same) some) ∙ ap (λ (w : Window g.row.R.Denot). w.feed.source) same;
    }
