use Rattle.std.proofs.Common.{◌≤◌, ◌≡◌, ℕ, ◌+◌, ◌*◌, inl, inr, List, take, drop, ◌++◌, get_or, length, ◌∙◌, ap, arith}
use Rattle.std.proofs.Math.Seq.{take-append_seam}
use Rattle.std.proofs.Math.Nat.{mul-le-mul_right}
use Rattle.std.proofs.lemmas.Bool.{cases_lt}
use Rattle.rip_check.proofs.NumberLemmas.{few_prefixes}
use Rattle.rip_check.proofs.expected.Expected.find.Goals as goal

pub overflow_mul-routers : goal.overflow_mul-routers
overflow_mul-routers c =
    let n = c.args.plan.now in
    let routers : c.routers.result ≤ 128 = omega (arith, c.routers.ensures, c.lawful.ensures.few_routers) in
    let prefixes : c.prefixes-count.result ≤ 1024 = omega (arith, c.prefixes-count.ensures, few_prefixes n c.lawful.ensures, c.lawful.ensures.few_places) in
    omega (arith, mul-le-mul_right c.prefixes-count.result routers, prefixes)

pub loop-prefix-preserved : goal.loop-prefix-preserved
loop-prefix-preserved c =
    let n = c.args.plan.now in
    let count = length n.prefixes in
    let is = c.loop-prefix.invariant in
    let new = c.keep.new.metrics in
    let e : c.loop-prefix.metrics.len ≡ length new = omega (arith, c.keep.auto.metrics, c.as_mut_slice.ensures.len, c.loop-prefix.metrics.ok.0) in
    let whole : take c.loop-prefix.metrics.len (new ++ drop (length new) c.loop-prefix.metrics.items) ≡ new =
    rw e (take-append_seam new (drop (length new) c.loop-prefix.metrics.items)) in
    rw whole (record {
      size = omega (arith, e, c.loop-prefix.metrics.ok.0, is.size);
      least = λ r p at lt. elim (cases_lt p c.loop-prefix.prefix) [
        | inl sooner ↦
            let kept : get_or new (r * count + p) 0 ≡ get_or c.loop-prefix.metrics.items (r * count + p) 0 =
            rw c.prefixes-count.ensures at (c.keep.ensures.others r p (omega (arith, sooner, c.loop-prefix-test.true)) (λ same. omega (arith, same, sooner)))
            ∙ ap (λ (xs : List ℕ). get_or xs (r * count + p) 0) c.as_mut_slice.ensures.value in
            rw kept (is.least r p at sooner)
        | inr late ↦
            let same : p ≡ c.loop-prefix.prefix = omega arith in
            let kept : get_or new (r * count + c.loop-prefix.prefix) 0 ≡ get_or c.find_least.new.metrics r 0 =
            rw c.prefixes-count.ensures at (c.keep.ensures.kept r (omega (arith, at, c.find_least.auto.metrics, is.row))) in
            rw same (rw kept (c.find_least.ensures r at))
      ];
      row = omega (arith, c.find_least.auto.metrics, is.row);
    })
