-- One more number below a bound, in a count and in a sum.
use Rattle.std.proofs.Common.{◌≡◌, ℕ, suc, ◌+◌, inl, inr, refl, arith}
use Rattle.rip_check.specs.Expected.{IsCount, IsTotal}

pub counts : (IsKind : ℕ → Type 0) (k count : ℕ) → IsKind k → IsCount IsKind k count → IsCount IsKind (k + 1) (count + 1)
counts IsKind k count is was =
    let e : k + 1 ≡ suc k = omega arith in
    rw e (inr (count, is, was, refl))

pub passes_by : (IsKind : ℕ → Type 0) (k count : ℕ) → (IsKind k → ⊥) → IsCount IsKind k count → IsCount IsKind (k + 1) count
passes_by IsKind k count other was =
    let e : k + 1 ≡ suc k = omega arith in
    rw e (inl (other, was))

pub adds : (IsPart : ℕ → ℕ → Type 0) (k total part : ℕ) → IsPart k part → IsTotal IsPart k total → IsTotal IsPart (k + 1) (total + part)
adds IsPart k total part is was =
    let e : k + 1 ≡ suc k = omega arith in
    rw e (total, part, was, is, refl)
