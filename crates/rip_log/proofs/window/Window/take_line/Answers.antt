use Rattle.std.proofs.Common.{rules, ◌∙◌, ◌+◌, ap, length, sym, take, drop}
use Rattle.std.proofs.Math.Seq.{drop-length, take-length}
use Rattle.rip_log.proofs.CutLemmas.{behind-feed, feed-cut, last-cut, long-cut}
use Rattle.rip_log.proofs.ReadyLemmas.{ended-feed, ended-ready, none-ended, ready-feed, none-before}
use Rattle.rip_log.proofs.WholeLemmas.{none_left}
use Rattle.rip_log.specs.Feeds.{held, text}
use Rattle.rip_log.specs.Held.{ended_lines, ready_lines}
use Rattle.rip_log.specs.Spans.{slice_of}
use Rattle.rip_log.specs.Wholes.{rest_of}
use Rattle.rip_log.proofs.window.Window.take_line.Goals as goal

pub returns-in-Feed-clause-cut : goal.returns-in-Feed-clause-cut
returns-in-Feed-clause-cut g c = λ whole begins.
    let before = c.find_end.new.self.feed in
    let now = c.take.new.self in
    let rest = rest_of g.R.Source.given whole in
    let source = c.take.ensures.source ∙ c.take-line.ensures.source in
    feed-cut (text rest c.args.self.now.feed) (rest now.source) (held before) (slice_of now.buffer.items c.take-line.result) (held now) c.in-Feed.at
    (ap (λ b. slice_of b.items c.take-line.result) c.take.ensures.buffer ∙ c.take-line.ensures.lies)
    (c.take.ensures.left ∙ ap (drop 1) c.take-line.ensures.left ∙ behind-feed (held before) c.in-Feed.at)
    (rw source (c.find_end.ensures.text whole (rw source at begins))) (rw c.in-Feed.is at c.in_ok-at.ensures.end).0

pub returns-in-Last-clause-cut : goal.returns-in-Last-clause-cut
returns-in-Last-clause-cut g c = λ whole begins.
    let S = g.R.Source in
    let before = c.find_end.new.self.feed in
    let taken = c.take-in-Last in
    let rest = rest_of S.given whole in
    let end = rw c.in-Last.is at c.in_ok-at.ensures.end in
    let begun = rw taken.ensures.source at begins in
    let left = taken.ensures.left ∙ ap (λ l. drop (length l) (held before)) c.held-all.ensures ∙ drop-length (held before) in
    let line = taken.ensures.lies ∙ ap (λ l. take (length l) (held before)) c.held-all.ensures ∙ take-length (held before) in
    rw (line, taken.ensures.source)
    (last-cut (text rest c.args.self.now.feed) (rest before.source) (held before) (held taken.new.self) left (search rules)
    (none_left S.given S.coming S.at_end whole before.source end.1 begun) (c.find_end.ensures.text whole begun) end.0)

pub returns-in-Long-clause-cut : goal.returns-in-Long-clause-cut
returns-in-Long-clause-cut g c = λ whole begins.
    let before = c.find_end.new.self.feed in
    let rest = rest_of g.R.Source.given whole in
    let end = rw c.in-Long.is at c.in_ok-at.ensures.end in
    let keeps = c.find_end.ensures.text whole begins in
    (long-cut (text rest c.args.self.now.feed) (rest before.source) (held before) keeps end.0 end.1, keeps)

pub returns-in-Feed-clause-others : goal.returns-in-Feed-clause-others
returns-in-Feed-clause-others g c = λ ready.
    let before = held c.find_end.new.self.feed in
    ap (λ w. ready_lines (held w.feed)) (sym (c.find_end.ensures.unchanged ready))
    ∙ ready-feed before c.in-Feed.at (rw c.in-Feed.is at c.in_ok-at.ensures.end).0
    ∙ ap (λ l. ready_lines l + 1) (sym (c.take.ensures.left ∙ ap (drop 1) c.take-line.ensures.left ∙ behind-feed before c.in-Feed.at))

pub returns-in-Last-clause-others : goal.returns-in-Last-clause-others
returns-in-Last-clause-others g c = λ ready.
    let end = rw c.in-Last.is at c.in_ok-at.ensures.end in
    absurd (none-before (λ w. held w.feed) _ _ (c.find_end.ensures.unchanged ready) end.0 end.2 ready)

pub returns-in_err-at-clause-ended : goal.returns-in_err-at-clause-ended
returns-in_err-at-clause-ended g c = λ some. ap (λ w. w.feed.source) (c.find_end.ensures.unchanged (ended-ready (held c.args.self.now.feed) some))

pub returns-in-Feed-clause-ended : goal.returns-in-Feed-clause-ended
returns-in-Feed-clause-ended g c = λ some. c.take.ensures.source ∙ c.take-line.ensures.source ∙ ap (λ w. w.feed.source) (c.find_end.ensures.unchanged (ended-ready (held c.args.self.now.feed) some))

pub returns-in-Last-clause-ended : goal.returns-in-Last-clause-ended
returns-in-Last-clause-ended g c = λ some. c.take-in-Last.ensures.source ∙ ap (λ w. w.feed.source) (c.find_end.ensures.unchanged (ended-ready (held c.args.self.now.feed) some))

pub returns-in-Long-clause-ended : goal.returns-in-Long-clause-ended
returns-in-Long-clause-ended g c = λ some. ap (λ w. w.feed.source) (c.find_end.ensures.unchanged (ended-ready (held c.args.self.now.feed) some))

pub returns-in-Feed-clause-ended_others : goal.returns-in-Feed-clause-ended_others
returns-in-Feed-clause-ended_others g c = λ some.
    let before = held c.find_end.new.self.feed in
    ap (λ w. ended_lines (held w.feed)) (sym (c.find_end.ensures.unchanged (ended-ready (held c.args.self.now.feed) some)))
    ∙ ended-feed before c.in-Feed.at (rw c.in-Feed.is at c.in_ok-at.ensures.end).0
    ∙ ap (λ l. ended_lines l + 1) (sym (c.take.ensures.left ∙ ap (drop 1) c.take-line.ensures.left ∙ behind-feed before c.in-Feed.at))

pub returns-in-Last-clause-ended_others : goal.returns-in-Last-clause-ended_others
returns-in-Last-clause-ended_others g c = λ some.
    let end = rw c.in-Last.is at c.in_ok-at.ensures.end in
    absurd (none-ended (λ w. held w.feed) _ _ (c.find_end.ensures.unchanged (ended-ready (held c.args.self.now.feed) some)) end.0 some)

pub returns-in-Long-clause-ended_others : goal.returns-in-Long-clause-ended_others
returns-in-Long-clause-ended_others g c = λ some. ap (λ w. held w.feed) (c.find_end.ensures.unchanged (ended-ready (held c.args.self.now.feed) some))
