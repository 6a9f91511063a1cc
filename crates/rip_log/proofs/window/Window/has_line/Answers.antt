use Rattle.std.proofs.Common.{rules, ◌∙◌, ap, Ok, sym}
use Rattle.rip_log.specs.Feeds.{held}
use Rattle.rip_log.specs.Wholes.{rest_of}
use Rattle.rip_log.proofs.CutLemmas.{HasLine-held, HasLine-none, HasLine-count}
use Rattle.rip_log.proofs.WholeLemmas.{held_rest, none_left}
use Rattle.rip_log.proofs.window.Window.has_line.Goals as goal

pub returns-then-not-is_empty-clause-some : goal.returns-then-not-is_empty-clause-some
returns-then-not-is_empty-clause-some g c = λ whole begins.
    let f = c.args.self.now.feed in
    HasLine-held (held f) (rest_of g.R.Source.given whole f.source) (search rules)

pub returns-then-ended-clause-some : goal.returns-then-ended-clause-some
returns-then-ended-clause-some g c = λ whole begins.
    let S = g.R.Source in
    let f = c.args.self.now.feed in
    HasLine-none (held f) (rest_of S.given whole f.source) (search rules) (none_left S.given S.coming S.at_end whole f.source (sym c.if-ended.ensures) begins)

pub returns-in_err-count-clause-text : goal.returns-in_err-count-clause-text
returns-in_err-count-clause-text g c = let S = g.R.Source in held_rest S.given S.coming S.at_end c.args.self.now.feed c.refill.new.self c.refill.ensures.pulled

pub returns-clause-text : goal.returns-clause-text
returns-clause-text g c = let S = g.R.Source in held_rest S.given S.coming S.at_end c.args.self.now.feed c.refill.new.self c.refill.ensures.pulled

pub returns-clause-some : goal.returns-clause-some
returns-clause-some g c = λ whole begins.
    let S = g.R.Source in
    let now = c.refill.new.self in
    HasLine-count (held now) (rest_of S.given whole now.source) c.in_ok-count.count (search rules)
    (λ none. none_left S.given S.coming S.at_end whole now.source (c.refill.ensures.ended.1 (c.in_ok-count.was ∙ ap Ok none)) begins)
