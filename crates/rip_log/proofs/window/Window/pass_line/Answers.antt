use Rattle.std.proofs.Common.{rules, Ok, arith, ◌∙◌, ◌+◌, ◌++◌, ap, drop, length, refl, sym, inr, suc}
use Rattle.std.proofs.Math.Seq.{drop-length}
use Rattle.std.proofs.lemmas.List.{length-append}
use Rattle.rip_log.specs.Feeds.{held, text}
use Rattle.rip_log.specs.Held.{ended_lines}
use Rattle.rip_log.specs.Wholes.{rest_of}
use Rattle.rip_log.proofs.ReadyLemmas.{ended-feed, none-ended}
use Rattle.rip_log.proofs.SkipLemmas.{none-append, skip-feed, skip-last, skip-endless, drop-held}
use Rattle.rip_log.proofs.WholeLemmas.{begins_back, none_left, went_on}
use Rattle.rip_log.proofs.window.Window.pass_line.Goals as goal

pub returns-in-Some-clause-passed : goal.returns-in-Some-clause-passed
returns-in-Some-clause-passed g c = λ whole begins.
    let f = c.pulls.self.feed in
    let rest = rest_of g.R.Source.given whole in
    let dropped = c.pulls.invariant.dropped in
    let left = c.take.ensures.left ∙ ap (λ n. drop n (held f)) {y = suc c.in-Some.at} (omega arith) in
    rw c.take.ensures.source
    (skip-feed (text rest c.args.self.now.feed) (rest f.source) dropped.0 (held f) (held c.take.new.self) c.in-Some.at left
    (dropped.3 whole (rw c.take.ensures.source at begins)) dropped.1 c.in-Some.ensures)

pub returns-in-Some-clause-ended_others : goal.returns-in-Some-clause-ended_others
returns-in-Some-clause-ended_others g c = λ some.
    let f = c.pulls.self.feed in
    let left = c.take.ensures.left ∙ ap (λ n. drop n (held f)) {y = suc c.in-Some.at} (omega arith) in (
      refl,
      ap (λ w. ended_lines (held w.feed)) (sym (c.pulls.invariant.unchanged some)) ∙ ended-feed (held f) c.in-Some.at c.in-Some.ensures ∙ ap (λ l. ended_lines l + 1) (sym left),
    )

pub returns-in_default-checked_add-clause-failed : goal.returns-in_default-checked_add-clause-failed
returns-in_default-checked_add-clause-failed g c = λ whole begins.
    let f = c.pulls.self.feed in
    let rest = rest_of g.R.Source.given whole in
    let dropped = c.pulls.invariant.dropped in
    inr (skip-endless (text rest c.args.self.now.feed) (rest f.source) dropped.0 (held f) (dropped.3 whole begins) dropped.1 c.in_default.ensures
    (omega (arith, ap length c.held-all.ensures, dropped.2, c.in_default-checked_add.ensures)))

pub returns-in_default-checked_add-clause-ended_others : goal.returns-in_default-checked_add-clause-ended_others
returns-in_default-checked_add-clause-ended_others g c = λ some. absurd (none-ended (λ w. held w.feed) _ _ (c.pulls.invariant.unchanged some) c.in_default.ensures some)

pub returns-in_err-has_line-clause-ended : goal.returns-in_err-has_line-clause-ended
returns-in_err-has_line-clause-ended g c = λ some. absurd (none-ended (λ w. held w.feed) _ _ (c.pulls.invariant.unchanged some) c.in_default.ensures some)

pub returns-in_err-has_line-clause-ended_others : goal.returns-in_err-has_line-clause-ended_others
returns-in_err-has_line-clause-ended_others g c = λ some. absurd (none-ended (λ w. held w.feed) _ _ (c.pulls.invariant.unchanged some) c.in_default.ensures some)

pub returns-then-not-branch-clause-ended : goal.returns-then-not-branch-clause-ended
returns-then-not-branch-clause-ended g c = λ some. absurd (none-ended (λ w. held w.feed) _ _ (c.pulls.invariant.unchanged some) c.in_default.ensures some)

pub returns-then-not-branch-clause-ended_others : goal.returns-then-not-branch-clause-ended_others
returns-then-not-branch-clause-ended_others g c = λ some. absurd (none-ended (λ w. held w.feed) _ _ (c.pulls.invariant.unchanged some) c.in_default.ensures some)

pub returns-then-not-branch-clause-passed : goal.returns-then-not-branch-clause-passed
returns-then-not-branch-clause-passed g c = λ whole begins.
    let S = g.R.Source in
    let f = c.pulls.self.feed in
    let taken = c.take-in-pulls in
    let now = c.has_line.new.self.feed in
    let rest = rest_of S.given whole in
    let dropped = c.pulls.invariant.dropped in
    let over = c.has_line.ensures.at_end (c.in_ok-has_line.was ∙ ap Ok c.if-not-branch.true) in
    let before = begins_back S.given S.coming S.at_end whole f.source now.source (rw taken.ensures.source at c.has_line.ensures.went) begins in
    let none = taken.ensures.left ∙ ap (λ l. drop (length l) (held f)) c.held-all.ensures ∙ drop-length (held f) in
    skip-last (text rest c.args.self.now.feed) (rest now.source) (dropped.0 ++ held f) (held now) over.0 (omega (arith, c.pulls.invariant.some, length-append dropped.0 (held f)))
    (none_left S.given S.coming S.at_end whole now.source over.1 begins)
    (drop-held (text rest c.args.self.now.feed) (rest f.source) (text rest now) dropped.0 (held f) (held taken.new.self) none (dropped.3 whole before)
    (rw taken.ensures.source at (c.has_line.ensures.text whole begins)))
    (none-append dropped.0 (held f) dropped.1 c.in_default.ensures)

pub pulls-preserved : goal.pulls-preserved
pulls-preserved g c =
    let S = g.R.Source in
    let f = c.pulls.self.feed in
    let taken = c.take-in-pulls in
    let now = c.has_line.new.self.feed in
    let inv = c.pulls.invariant in
    let went = rw taken.ensures.source at c.has_line.ensures.went in
    let none = taken.ensures.left ∙ ap (λ l. drop (length l) (held f)) c.held-all.ensures ∙ drop-length (held f) in
    record {
      dropped = (
        inv.dropped.0 ++ held f,
        none-append inv.dropped.0 (held f) inv.dropped.1 c.in_default.ensures,
        omega (arith, length-append inv.dropped.0 (held f), ap length c.held-all.ensures, inv.dropped.2, c.in-Some-checked_add.ensures),
        λ whole begins.
            let rest = rest_of S.given whole in
            drop-held (text rest c.args.self.now.feed) (rest f.source) (text rest now) inv.dropped.0 (held f) (held taken.new.self) none
            (inv.dropped.3 whole (begins_back S.given S.coming S.at_end whole f.source now.source went begins)) (rw taken.ensures.source at (c.has_line.ensures.text whole begins)),
      );
      went = went_on S.given S.coming S.at_end _ _ _ inv.went went;
      some = c.has_line.ensures.held (c.in_ok-has_line.was ∙ ap Ok c.if-not-branch.false);
      marks = search rules;
      unpulled = search rules;
      unchanged = λ some. absurd (none-ended (λ w. held w.feed) _ _ (inv.unchanged some) c.in_default.ensures some);
    }
