use Rattle.std.proofs.Common.{◌≡◌, ℕ, length, arith}
use Rattle.rip_check.specs.declared.aftermath.Change.TheVariants.{Other}
use Rattle.rip_check.specs.Impacts.{IsChange}
use Rattle.rip_check.specs.Losses.{IsLonger, IsLost}
use Rattle.rip_check.proofs.CountLemmas.{counts, passes_by}
use Rattle.rip_check.proofs.ImpactLemmas.{farther, lost_not_longer, none_farther}
use Rattle.rip_check.proofs.aftermath.Losses.part_of.Goals as goal
use Rattle.rip_check.proofs.aftermath.Losses.part_of.Goals.{in-Other, in-Lost, in-Longer}

pub loop-prefix-preserved : goal.loop-prefix-preserved
loop-prefix-preserved c =
    let n = c.args.self.now.plan.now in
    let f = c.args.self.now.failure in
    let r = c.args.router in
    let p = c.loop-prefix.prefix in
    let part = c.loop-prefix.part in
    let was = c.loop-prefix.invariant in
    let IsLostHere : ℕ → Type 0 = IsLost n f r in
    let IsLongerHere : ℕ → Type 0 = λ q. (w : ℕ) × IsLonger n f r q w in
    elim c.match-change.branch [
      | in-Other w ↦
          let is : IsChange n f r p Other = rw w.in-Other.is at c.change.ensures in
          rw w.part-is (record {
            lost = passes_by IsLostHere p part.lost is.0 was.lost;
            few_lost = omega (arith, was.few_lost);
            longer = passes_by IsLongerHere p part.longer (λ h. is.1 h.0 h.1) was.longer;
            few_longer = omega (arith, was.few_longer);
            farthest = none_farther n f r p part.farthest is.1 was.farthest;
          })
      | in-Lost w ↦
          let is : IsLost n f r p = rw w.in-Lost.is at c.change.ensures in
          rw w.part-is (record {
            lost = counts IsLostHere p part.lost is was.lost;
            few_lost = omega (arith, was.few_lost);
            longer = passes_by IsLongerHere p part.longer (λ h. lost_not_longer n f r p h.0 is h.1) was.longer;
            few_longer = omega (arith, was.few_longer);
            farthest = none_farther n f r p part.farthest (λ v. lost_not_longer n f r p v is) was.farthest;
          })
      | in-Longer w ↦
          let m = w.in-Longer.metric in
          let is : IsLonger n f r p m = rw w.in-Longer.is at c.change.ensures in
          rw w.part-is (record {
            lost = passes_by IsLostHere p part.lost (λ h. lost_not_longer n f r p m h is) was.lost;
            few_lost = omega (arith, was.few_lost);
            longer = counts IsLongerHere p part.longer (m, is) was.longer;
            few_longer = omega (arith, was.few_longer);
            farthest = farther n f r p part.farthest m w.max.result is w.max.ensures was.farthest;
          })
    ]

pub returns : goal.returns
returns c =
    let n = c.args.self.now.plan.now in
    let all : c.loop-prefix.prefix ≡ length n.prefixes = omega (arith, c.loop-prefix-test.false, c.loop-prefix.auto.prefix-end, c.prefixes-prefix-end.ensures) in
    let was = c.loop-prefix.invariant in
    let farthest = rw all at was.farthest in
    record {
      lost = rw all at was.lost;
      longer = rw all at was.longer;
      farthest = record { reached = farthest.reached; most = farthest.most };
    }
