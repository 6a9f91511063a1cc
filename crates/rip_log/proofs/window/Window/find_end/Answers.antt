use Rattle.std.proofs.Common.{rules, length, arith, ap}
use Rattle.rip_log.specs.Feeds.{held}
use Rattle.rip_log.proofs.HeldLemmas.{none-among}
use Rattle.rip_log.proofs.ReadyLemmas.{none-before}
use Rattle.rip_log.proofs.WholeLemmas.{held_on, went_on}
use Rattle.rip_log.proofs.window.Window.find_end.Goals.{then-ended-via-then-ended, then-ended-via-else-ended+in_ok-refill+then-branch-eq0}
use Rattle.rip_log.proofs.window.Window.find_end.Goals as goal

pub returns-in_err-refill-clause-unchanged : goal.returns-in_err-refill-clause-unchanged
returns-in_err-refill-clause-unchanged g c = λ ready. absurd (none-before (λ w. held w.feed) _ _ (c.loop-at.invariant.unchanged ready) c.in_default.ensures (omega (arith, ap length c.held-seen.ensures)) ready)

pub returns-then-ended-clause-unchanged : goal.returns-then-ended-clause-unchanged
returns-then-ended-clause-unchanged g c = λ ready. absurd (none-before (λ w. held w.feed) _ _ (c.loop-at.invariant.unchanged ready) c.in_default.ensures (omega (arith, ap length c.held-seen.ensures)) ready)

pub returns-in_err-refill-clause-text : goal.returns-in_err-refill-clause-text
returns-in_err-refill-clause-text g c = let S = g.R.Source in held_on S.given S.coming S.at_end c.args.self.now.feed c.loop-at.self.feed c.refill.new.self c.refill.ensures.went c.loop-at.invariant.kept c.refill.ensures.pulled

pub returns-in_err-refill-clause-went : goal.returns-in_err-refill-clause-went
returns-in_err-refill-clause-went g c = let S = g.R.Source in went_on S.given S.coming S.at_end _ _ _ c.loop-at.invariant.went c.refill.ensures.went

pub returns-then-ended-clause-text : goal.returns-then-ended-clause-text
returns-then-ended-clause-text g c = let S = g.R.Source in elim c.then-ended.branch [
  | then-ended-via-then-ended w ↦ rw w.self-is c.loop-at.invariant.kept
  | then-ended-via-else-ended+in_ok-refill+then-branch-eq0 w ↦
      rw w.self-is (held_on S.given S.coming S.at_end c.args.self.now.feed c.loop-at.self.feed w.refill.new.self w.refill.ensures.went c.loop-at.invariant.kept w.refill.ensures.pulled)
]

pub loop-at-preserved : goal.loop-at-preserved
loop-at-preserved g c = let S = g.R.Source in record {
  kept = held_on S.given S.coming S.at_end c.args.self.now.feed c.loop-at.self.feed c.refill.new.self c.refill.ensures.went c.loop-at.invariant.kept c.refill.ensures.pulled;
  went = went_on S.given S.coming S.at_end _ _ _ c.loop-at.invariant.went c.refill.ensures.went;
  more = search rules;
  within = search rules;
  before = none-among _ _ _ _ (ap length c.held-seen.ensures) c.refill.ensures.pulled.2 c.in_default.ensures;
  marks = search rules;
  unpulled = search rules;
  unchanged = λ ready. absurd (none-before (λ w. held w.feed) _ _ (c.loop-at.invariant.unchanged ready) c.in_default.ensures (omega (arith, ap length c.held-seen.ensures)) ready);
}
