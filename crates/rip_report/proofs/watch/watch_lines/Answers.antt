use Rattle.std.proofs.Common.{◌∙◌, ◌+◌, ◌++◌, Ok, Err, sym, ap, subst, arith, inl, inr}
use Rattle.rip_log.specs.TimedCall.{timed_lines, timed_source, timed_text}
use Rattle.rip_log.specs.Wholes.{rest_of}
use Rattle.rip_log.proofs.WholeLemmas.{begins_back, went_on}
use Rattle.rip_report.specs.Films.{ShowsText, stage_of}
use Rattle.rip_report.specs.Outs.{AddsOne, IsOnItsWay, Progress}
use Rattle.rip_report.specs.Sent.{SinkState}
use Rattle.rip_report.specs.declared.status.RunError.TheVariants.{Memory, Read, Write}
use Rattle.rip_log.proofs.PassLemmas.{drops_kept, drops_trans}
use Rattle.rip_report.proofs.OutLemmas.{added_also}
use Rattle.rip_report.proofs.StepLemmas.{drops_timed, in_step}
use Rattle.rip_report.proofs.TimedLineLemmas.{ends_at, gives_up, goes_on, goes_to_end, lacks_at, passes_more, unread_to}
use Rattle.rip_report.proofs.WatchLemmas.{added_then}
use Rattle.rip_report.proofs.watch.watch_lines.Goals as goal

pub returns-in-Err-clause-shows : goal.returns-in-Err-clause-shows
returns-in-Err-clause-shows g c = λ whole begins.
    let S = g.R.Source in
    let coming = rest_of S.given whole in
    let was = c.lines.reader in
    let h = rw c.in-Err.is at c.next.follows.holds-at-none in
    let before = begins_back S.given S.coming S.at_end whole (timed_source was) (timed_source c.next.follows.lender-at-none) h.went begins in
    added_also
    (λ printed shown. gives_up c.timed_texts.ensures.exists c.args.plan.now c.args.watching.now.length c.args.watching.now.until_settled (timed_text coming c.args.reader.now) (timed_text coming was)
    (timed_lines was) (stage_of g.T.WindowTable.window c.lines.watch) printed shown Read)
    (c.lines.invariant.shown whole before)

pub returns-in-Err-clause-read : goal.returns-in-Err-clause-read
returns-in-Err-clause-read g c = λ is whole begins.
    let S = g.R.Source in
    let coming = rest_of S.given whole in
    let was = c.lines.reader in
    let now = c.next.follows.lender-at-none in
    let h = rw c.in-Err.is at c.next.follows.holds-at-none in
    let before = begins_back S.given S.coming S.at_end whole (timed_source was) (timed_source now) h.went begins in
    unread_to (S.broken (timed_source now)) (timed_text coming c.args.reader.now) (timed_text coming was) (timed_lines was) (c.lines.invariant.passed whole before) (h.failed whole begins)

pub returns-in-Ok-clause-shows : goal.returns-in-Ok-clause-shows
returns-in-Ok-clause-shows g c = λ whole begins.
    let S = g.R.Source in
    let coming = rest_of S.given whole in
    let was = c.lines.reader in
    let now = c.next.follows.lender-at-none in
    let watching = c.args.watching.now in
    let h = rw (c.in-Ok-None.is, c.in-Ok-None.field-0-is) at c.next.follows.holds-at-none in
    let before = begins_back S.given S.coming S.at_end whole (timed_source was) (timed_source now) h.went begins in
    let gives = h.gives whole begins in
    let ends = rw c.in-Ok.is at c.end.ensures watching.length watching.until_settled in
    added_then
    (λ printed more shown last. goes_to_end c.timed_texts.ensures.exists c.args.plan.now watching.length watching.until_settled (timed_text coming c.args.reader.now) (timed_text coming was)
    (timed_lines was) (stage_of g.T.WindowTable.window c.lines.watch) printed shown (timed_text coming now) gives.0 gives.1 c.in-Ok.status more last)
    (c.lines.invariant.shown whole before) ends

pub returns-in-Ok-clause-went : goal.returns-in-Ok-clause-went
returns-in-Ok-clause-went g c =
    let S = g.R.Source in
    let h = rw (c.in-Ok-None.is, c.in-Ok-None.field-0-is) at c.next.follows.holds-at-none in
    went_on S.given S.coming S.at_end (timed_source c.args.reader.now) (timed_source c.lines.reader) (timed_source c.next.follows.lender-at-none) c.lines.invariant.went h.went

pub returns-in-Err-end-clause-shows : goal.returns-in-Err-end-clause-shows
returns-in-Err-end-clause-shows g c = λ whole begins.
    let S = g.R.Source in
    let coming = rest_of S.given whole in
    let was = c.lines.reader in
    let watching = c.args.watching.now in
    let h = rw (c.in-Ok-None.is, c.in-Ok-None.field-0-is) at c.next.follows.holds-at-none in
    let before = begins_back S.given S.coming S.at_end whole (timed_source was) (timed_source c.next.follows.lender-at-none) h.went begins in
    let same = rw c.in-Err-end.is at c.end.ensures watching.length watching.until_settled in
    let text = timed_text coming c.args.reader.now in
    subst (λ (p : Progress). AddsOne c.args.out.now p (ShowsText c.args.plan.now watching.length watching.until_settled text (Err Memory))) (sym same)
    (added_also
    (λ printed shown. gives_up c.timed_texts.ensures.exists c.args.plan.now watching.length watching.until_settled text (timed_text coming was) (timed_lines was)
    (stage_of g.T.WindowTable.window c.lines.watch) printed shown Memory)
    (c.lines.invariant.shown whole before))

pub returns-in-Err-end-clause-went : goal.returns-in-Err-end-clause-went
returns-in-Err-end-clause-went g c =
    let S = g.R.Source in
    let h = rw (c.in-Ok-None.is, c.in-Ok-None.field-0-is) at c.next.follows.holds-at-none in
    went_on S.given S.coming S.at_end (timed_source c.args.reader.now) (timed_source c.lines.reader) (timed_source c.next.follows.lender-at-none) c.lines.invariant.went h.went

pub returns-in-Ok-Some-take-clause-shows : goal.returns-in-Ok-Some-take-clause-shows
returns-in-Ok-Some-take-clause-shows g c = λ whole begins.
    let S = g.R.Source in
    let coming = rest_of S.given whole in
    let was = c.lines.reader in
    let now = c.next.follows.lender-at-none in
    let watching = c.args.watching.now in
    let h = rw (c.in-Ok-Some.is, c.in-Ok-Some.field-0-is) at c.next.follows.holds-at-none in
    let before = begins_back S.given S.coming S.at_end whole (timed_source was) (timed_source now) h.went begins in
    let takes = rw (c.in-Ok-Some-take.is, c.in-Ok-Some-take.field-0-is) at c.take.ensures.takes in
    added_then
    (λ printed more shown ends. ends_at c.timed_texts.ensures.exists c.args.plan.now watching.length watching.until_settled (timed_text coming c.args.reader.now) (timed_text coming was)
    (timed_lines was) (stage_of g.T.WindowTable.window c.lines.watch) printed shown (timed_text coming now) (timed_lines now) c.in-Ok-Some.line h.behind (h.gives whole begins) h.numbered
    c.in-Ok-Some-take.status more ends)
    (c.lines.invariant.shown whole before) takes

pub returns-in-Ok-Some-take-clause-went : goal.returns-in-Ok-Some-take-clause-went
returns-in-Ok-Some-take-clause-went g c =
    let S = g.R.Source in
    let h = rw (c.in-Ok-Some.is, c.in-Ok-Some.field-0-is) at c.next.follows.holds-at-none in
    went_on S.given S.coming S.at_end (timed_source c.args.reader.now) (timed_source c.lines.reader) (timed_source c.next.follows.lender-at-none) c.lines.invariant.went h.went

pub returns-in-Ok-Some-take-clause-ended : goal.returns-in-Ok-Some-take-clause-ended
returns-in-Ok-Some-take-clause-ended g c = λ not_settled not_refused.
    let ends = rw (c.in-Ok-Some-take.is, c.in-Ok-Some-take.field-0-is) at c.take.ensures.ends in
    elim ends [
      | inl refused ↦ absurd (not_refused refused)
      | inr settled ↦ absurd (not_settled settled.0 settled.1)
    ]

pub returns-in-Err-take-clause-shows : goal.returns-in-Err-take-clause-shows
returns-in-Err-take-clause-shows g c = λ whole begins.
    let S = g.R.Source in
    let coming = rest_of S.given whole in
    let was = c.lines.reader in
    let now = c.next.follows.lender-at-none in
    let watching = c.args.watching.now in
    let h = rw (c.in-Ok-Some.is, c.in-Ok-Some.field-0-is) at c.next.follows.holds-at-none in
    let before = begins_back S.given S.coming S.at_end whole (timed_source was) (timed_source now) h.went begins in
    let takes = rw c.in-Err-take.is at c.take.ensures.takes in
    added_then
    (λ printed more shown lacks. lacks_at c.timed_texts.ensures.exists c.args.plan.now watching.length watching.until_settled (timed_text coming c.args.reader.now) (timed_text coming was)
    (timed_lines was) (stage_of g.T.WindowTable.window c.lines.watch) printed shown (timed_text coming now) (timed_lines now) c.in-Ok-Some.line h.behind (h.gives whole begins) h.numbered
    Memory more lacks)
    (c.lines.invariant.shown whole before) takes

pub returns-in-Err-take-clause-went : goal.returns-in-Err-take-clause-went
returns-in-Err-take-clause-went g c =
    let S = g.R.Source in
    let h = rw (c.in-Ok-Some.is, c.in-Ok-Some.field-0-is) at c.next.follows.holds-at-none in
    went_on S.given S.coming S.at_end (timed_source c.args.reader.now) (timed_source c.lines.reader) (timed_source c.next.follows.lender-at-none) c.lines.invariant.went h.went

pub returns-then-has_failed-clause-shows : goal.returns-then-has_failed-clause-shows
returns-then-has_failed-clause-shows g c = λ whole begins.
    let S = g.R.Source in
    let coming = rest_of S.given whole in
    let was = c.lines.reader in
    let now = c.next.follows.lender-at-none in
    let watching = c.args.watching.now in
    let text = timed_text coming c.args.reader.now in
    let old = stage_of g.T.WindowTable.window c.lines.watch in
    let new = stage_of g.T.WindowTable.window c.take.new.self in
    let exists = c.timed_texts.ensures.exists in
    let h = rw (c.in-Ok-Some.is, c.in-Ok-Some.field-0-is) at c.next.follows.holds-at-none in
    let before = begins_back S.given S.coming S.at_end whole (timed_source was) (timed_source now) h.went begins in
    let takes = rw (c.in-Ok-None-take.is, c.in-Ok-None-take.field-0-is) at c.take.ensures.takes in
    added_then
    (λ printed more shown goes. gives_up exists c.args.plan.now watching.length watching.until_settled text (timed_text coming now) (timed_lines now) new (printed ++ more)
    (goes_on exists c.args.plan.now watching.length watching.until_settled text (timed_text coming was) (timed_lines was) old printed shown (timed_text coming now) (timed_lines now)
    c.in-Ok-Some.line h.behind (h.gives whole begins) h.numbered new more goes)
    Write)
    (c.lines.invariant.shown whole before) takes

pub returns-then-has_failed-clause-went : goal.returns-then-has_failed-clause-went
returns-then-has_failed-clause-went g c =
    let S = g.R.Source in
    let h = rw (c.in-Ok-Some.is, c.in-Ok-Some.field-0-is) at c.next.follows.holds-at-none in
    went_on S.given S.coming S.at_end (timed_source c.args.reader.now) (timed_source c.lines.reader) (timed_source c.next.follows.lender-at-none) c.lines.invariant.went h.went

pub lines-preserved : goal.lines-preserved
lines-preserved g c =
    let S = g.R.Source in
    let was = c.lines.reader in
    let now = c.next.follows.lender-at-none in
    let watching = c.args.watching.now in
    let old = stage_of g.T.WindowTable.window c.lines.watch in
    let new = stage_of g.T.WindowTable.window c.take.new.self in
    let h = rw (c.in-Ok-Some.is, c.in-Ok-Some.field-0-is) at c.next.follows.holds-at-none in
    let takes = rw (c.in-Ok-None-take.is, c.in-Ok-None-take.field-0-is) at c.take.ensures.takes in
    record {
      shown = λ whole begins.
          let coming = rest_of S.given whole in
          added_then
          (λ printed more shown goes. goes_on c.timed_texts.ensures.exists c.args.plan.now watching.length watching.until_settled (timed_text coming c.args.reader.now) (timed_text coming was)
          (timed_lines was) old printed shown (timed_text coming now) (timed_lines now) c.in-Ok-Some.line h.behind (h.gives whole begins) h.numbered new more goes)
          (c.lines.invariant.shown whole (begins_back S.given S.coming S.at_end whole (timed_source was) (timed_source now) h.went begins)) takes;
      passed = λ whole begins.
          let coming = rest_of S.given whole in
          rw h.behind (passes_more (timed_text coming c.args.reader.now) (timed_text coming was) (timed_text coming now) _ (timed_lines was) (c.lines.invariant.passed whole
          (begins_back S.given S.coming S.at_end whole (timed_source was) (timed_source now) h.went begins)) (h.gives whole begins));
      went = went_on S.given S.coming S.at_end (timed_source c.args.reader.now) (timed_source was) (timed_source now) c.lines.invariant.went h.went;
      stage = c.take.ensures.stage (c.in-Ok-None-take.is ∙ ap Ok c.in-Ok-None-take.field-0-is);
      drops = λ whole begins.
          let coming = rest_of S.given whole in
          let before = begins_back S.given S.coming S.at_end whole (timed_source was) (timed_source now) h.went begins in
          rw h.behind (drops_timed (timed_text coming c.args.reader.now) (timed_text coming was) (timed_text coming now) _ (timed_lines was) (c.lines.invariant.drops whole before) (h.gives whole begins));
      start = takes.adds.start ∙ c.lines.invariant.start;
      sound = λ sound. sym c.has_failed.ensures.failed ∙ c.if-has_failed.false;
      way = λ sound way.
          subst (λ (start : SinkState). IsOnItsWay g.K.Sink.taken g.K.Sink.broken start c.take.new.out.text) (takes.adds.start ∙ c.lines.invariant.start) (c.has_failed.ensures.way c.if-has_failed.false);
      marks = h.marks ∙ c.lines.invariant.marks;
    }

pub lines-smaller : goal.lines-smaller
lines-smaller g c =
    let h = rw (c.in-Ok-Some.is, c.in-Ok-Some.field-0-is) at c.next.follows.holds-at-none in
    let next = h.behind in
    let few = h.few in
    omega (arith, next, few)

pub returns-in-Ok-clause-stops : goal.returns-in-Ok-clause-stops
returns-in-Ok-clause-stops g c = λ sound way not_read whole begins.
    let S = g.R.Source in
    let K = g.K.Sink in
    let coming = rest_of S.given whole in
    let was = c.lines.reader in
    let now = c.next.follows.lender-at-none in
    let watching = c.args.watching.now in
    let text = timed_text coming c.args.reader.now in
    let h = rw (c.in-Ok-None.is, c.in-Ok-None.field-0-is) at c.next.follows.holds-at-none in
    let before = begins_back S.given S.coming S.at_end whole (timed_source was) (timed_source now) h.went begins in
    let gives = h.gives whole begins in
    let dropped = c.lines.invariant.drops whole before in
    in_step K.taken K.broken c.args.plan.now watching.length watching.until_settled c.args.out.now c.lines.out text (timed_text coming was) (timed_text coming now) (timed_lines was)
    (stage_of g.T.WindowTable.window c.lines.watch) (c.lines.invariant.passed whole before) (c.lines.invariant.shown whole before) (c.lines.invariant.way sound way)
    (drops_trans text (timed_text coming was) (timed_text coming now) 0 (timed_lines was) (timed_lines was + 1) dropped (drops_kept (timed_text coming was) (timed_text coming now) (timed_lines was) (timed_lines was + 1) gives.0 (omega arith)))

pub returns-in-Err-end-clause-stops : goal.returns-in-Err-end-clause-stops
returns-in-Err-end-clause-stops g c = λ sound way not_read whole begins.
    let S = g.R.Source in
    let K = g.K.Sink in
    let coming = rest_of S.given whole in
    let was = c.lines.reader in
    let now = c.next.follows.lender-at-none in
    let watching = c.args.watching.now in
    let text = timed_text coming c.args.reader.now in
    let h = rw (c.in-Ok-None.is, c.in-Ok-None.field-0-is) at c.next.follows.holds-at-none in
    let before = begins_back S.given S.coming S.at_end whole (timed_source was) (timed_source now) h.went begins in
    let gives = h.gives whole begins in
    let dropped = c.lines.invariant.drops whole before in
    in_step K.taken K.broken c.args.plan.now watching.length watching.until_settled c.args.out.now c.lines.out text (timed_text coming was) (timed_text coming now) (timed_lines was)
    (stage_of g.T.WindowTable.window c.lines.watch) (c.lines.invariant.passed whole before) (c.lines.invariant.shown whole before) (c.lines.invariant.way sound way)
    (drops_trans text (timed_text coming was) (timed_text coming now) 0 (timed_lines was) (timed_lines was + 1) dropped (drops_kept (timed_text coming was) (timed_text coming now) (timed_lines was) (timed_lines was + 1) gives.0 (omega arith)))

pub returns-in-Ok-Some-take-clause-stops : goal.returns-in-Ok-Some-take-clause-stops
returns-in-Ok-Some-take-clause-stops g c = λ sound way not_read whole begins.
    let S = g.R.Source in
    let K = g.K.Sink in
    let coming = rest_of S.given whole in
    let was = c.lines.reader in
    let now = c.next.follows.lender-at-none in
    let watching = c.args.watching.now in
    let text = timed_text coming c.args.reader.now in
    let h = rw (c.in-Ok-Some.is, c.in-Ok-Some.field-0-is) at c.next.follows.holds-at-none in
    let before = begins_back S.given S.coming S.at_end whole (timed_source was) (timed_source now) h.went begins in
    let gives = h.gives whole begins in
    let dropped = c.lines.invariant.drops whole before in
    in_step K.taken K.broken c.args.plan.now watching.length watching.until_settled c.args.out.now c.lines.out text (timed_text coming was) (timed_text coming now) (timed_lines was)
    (stage_of g.T.WindowTable.window c.lines.watch) (c.lines.invariant.passed whole before) (c.lines.invariant.shown whole before) (c.lines.invariant.way sound way)
    (drops_timed text (timed_text coming was) (timed_text coming now) _ (timed_lines was) dropped gives)

pub returns-in-Err-take-clause-stops : goal.returns-in-Err-take-clause-stops
returns-in-Err-take-clause-stops g c = λ sound way not_read whole begins.
    let S = g.R.Source in
    let K = g.K.Sink in
    let coming = rest_of S.given whole in
    let was = c.lines.reader in
    let now = c.next.follows.lender-at-none in
    let watching = c.args.watching.now in
    let text = timed_text coming c.args.reader.now in
    let h = rw (c.in-Ok-Some.is, c.in-Ok-Some.field-0-is) at c.next.follows.holds-at-none in
    let before = begins_back S.given S.coming S.at_end whole (timed_source was) (timed_source now) h.went begins in
    let gives = h.gives whole begins in
    let dropped = c.lines.invariant.drops whole before in
    in_step K.taken K.broken c.args.plan.now watching.length watching.until_settled c.args.out.now c.lines.out text (timed_text coming was) (timed_text coming now) (timed_lines was)
    (stage_of g.T.WindowTable.window c.lines.watch) (c.lines.invariant.passed whole before) (c.lines.invariant.shown whole before) (c.lines.invariant.way sound way)
    (drops_timed text (timed_text coming was) (timed_text coming now) _ (timed_lines was) dropped gives)

pub returns-then-has_failed-clause-stops : goal.returns-then-has_failed-clause-stops
returns-then-has_failed-clause-stops g c = λ sound way not_read whole begins.
    let S = g.R.Source in
    let K = g.K.Sink in
    let coming = rest_of S.given whole in
    let was = c.lines.reader in
    let now = c.next.follows.lender-at-none in
    let watching = c.args.watching.now in
    let text = timed_text coming c.args.reader.now in
    let h = rw (c.in-Ok-Some.is, c.in-Ok-Some.field-0-is) at c.next.follows.holds-at-none in
    let before = begins_back S.given S.coming S.at_end whole (timed_source was) (timed_source now) h.went begins in
    let gives = h.gives whole begins in
    let dropped = c.lines.invariant.drops whole before in
    in_step K.taken K.broken c.args.plan.now watching.length watching.until_settled c.args.out.now c.lines.out text (timed_text coming was) (timed_text coming now) (timed_lines was)
    (stage_of g.T.WindowTable.window c.lines.watch) (c.lines.invariant.passed whole before) (c.lines.invariant.shown whole before) (c.lines.invariant.way sound way)
    (drops_timed text (timed_text coming was) (timed_text coming now) _ (timed_lines was) dropped gives)
