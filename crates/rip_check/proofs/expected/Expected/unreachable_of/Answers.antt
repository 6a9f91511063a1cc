use Rattle.std.proofs.Common.{ℕ, arith}
use Rattle.rip_check.specs.Networks.{network_at}
use Rattle.rip_check.specs.Paths.{IsLeast}
use Rattle.rip_check.proofs.CountLemmas.{counts, passes_by}
use Rattle.rip_check.proofs.OverLemmas.{one_least}
use Rattle.rip_check.proofs.expected.Expected.unreachable_of.Goals as goal
use Rattle.rip_check.proofs.expected.Expected.unreachable_of.Goals.{then-number-eq16, else-number-eq16}

pub loop-prefix-preserved : goal.loop-prefix-preserved
loop-prefix-preserved c =
    let n = c.args.plan.now in
    let r = c.args.router in
    let p = c.loop-prefix.prefix in
    let is = c.loop-prefix.invariant in
    let IsFar : ℕ → Type 0 = λ q. IsLeast (network_at n n.prefixes q) q r 16 in
    let net = network_at n n.prefixes p in
    elim c.if-number-eq16.branch [
      | then-number-eq16 w ↦
          let far : IsLeast net p r 16 = rw w.if-number-eq16.true at c.number.ensures in
          rw w.count-is (record { counted = counts IsFar p c.loop-prefix.count far is.counted; few = omega (arith, is.few) })
      | else-number-eq16 w ↦
          let near : IsLeast net p r 16 → ⊥ = λ far. w.if-number-eq16.false (one_least net p r c.number.result 16 c.number.ensures far) in
          rw w.count-is (record { counted = passes_by IsFar p c.loop-prefix.count near is.counted; few = omega (arith, is.few) })
    ]
