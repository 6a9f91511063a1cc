use Rattle.std.proofs.Common.{◌∙◌, ap, take, drop, ◌++◌, [], append-nil, sym}
use Rattle.rip_log.proofs.HeldLemmas.{held-more, held-same}
use Rattle.rip_log.proofs.feed.Feed.refill.Goals as goal

pub returns-clause-pulled : goal.returns-clause-pulled
returns-clause-pulled g c =
    let pulled = c.pull_behind in
    let now = c.compact.new.self in
    let n = c.in_ok-count.count in
    let more = take n (drop now.end pulled.new.buffer.items) in (
      more,
      rw c.compact.ensures.source at c.in_ok-count.ensures.ok,
      held-more now.buffer.items pulled.new.buffer.items _ now.end n c.compact.ensures.start pulled.ensures.front ∙ ap (λ l. l ++ more) c.compact.ensures.held,
    )

pub returns-in_err-count-clause-pulled : goal.returns-in_err-count-clause-pulled
returns-in_err-count-clause-pulled g c =
    let pulled = c.pull_behind in
    let now = c.compact.new.self in (
      [],
      (rw c.compact.ensures.source at c.in_err-count.ensures.err) ∙ sym (append-nil _),
      held-same now.buffer.items pulled.new.buffer.items now.start now.end c.compact.ensures.start pulled.ensures.front ∙ c.compact.ensures.held ∙ sym (append-nil _),
    )
