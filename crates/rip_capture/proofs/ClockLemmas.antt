-- Units of time that are finer than is reckoned with.
use Rattle.std.proofs.Common.{◌≡◌, ◌-◌, ◌*◌, ◌/◌, ◌%◌, ◌^◌, ◌<◌, ◌≤◌, ◌∙◌, ℕ, Bool, min, ap, arith, inl, inr, sym, subst}
use Rattle.std.specs.Prelude.{if◌then◌else◌}
use Rattle.std.proofs.lemmas.Bool.{cases_lt, le-ltb, lt-ltb}
use Rattle.std.proofs.Math.Nat.{div-eq_of_lt, mod-eq_of_lt, one-le-pow, pow-le-pow_right}
use Rattle.rip_capture.specs.Clocks.{coarse, unit_of}

-- a decimal and a binary unit
pub decimal : (r : ℕ) → r < 128 → unit_of r ≡ 10 ^ r
decimal r h = ap (λ (b : Bool). if b then 10 ^ r else 2 ^ (r - 128)) (lt-ltb r 128 h)

pub binary : (r : ℕ) → 128 ≤ r → unit_of r ≡ 2 ^ (r - 128)
binary r h = ap (λ (b : Bool). if b then 10 ^ r else 2 ^ (r - 128)) (le-ltb r 128 h)

pub coarse-decimal : (r : ℕ) → r < 128 → coarse r ≡ min r 38
coarse-decimal r h = ap (λ (b : Bool). if b then min r 38 else r) (lt-ltb r 128 h)

pub coarse-binary : (r : ℕ) → 128 ≤ r → coarse r ≡ r
coarse-binary r h = ap (λ (b : Bool). if b then min r 38 else r) (le-ltb r 128 h)

pub some-units : (r : ℕ) → 0 < unit_of r
some-units r =
    elim (cases_lt r 128) [
      | inl below ↦ subst (λ n. 0 < n) (sym (decimal r below)) (omega (arith, one-le-pow r 10 (omega arith)))
      | inr above ↦ subst (λ n. 0 < n) (sym (binary r (omega (arith, above)))) (omega (arith, one-le-pow (r - 128) 2 (omega arith)))
    ]

-- whole units, and the millionths in what is left
pub record Same (ticks m n : ℕ) : Type 0 where
  pub whole : ticks / m ≡ ticks / n
  pub rest : ticks % m * 1000000 / m ≡ ticks % n * 1000000 / n

-- of a unit that is as fine as that there are none
none : (ticks m : ℕ) → ticks < 2 ^ 64 → 10 ^ 38 ≤ m → (ticks / m ≡ 0) × (ticks % m * 1000000 / m ≡ 0)
none ticks m few fine =
    let less : ticks < m = omega (arith, few, fine) in
    (div-eq_of_lt less, ap (λ n. n * 1000000 / m) (mod-eq_of_lt less) ∙ div-eq_of_lt (omega (arith, few, fine)))

same-unit : (ticks r : ℕ) → coarse r ≡ r → Same ticks (unit_of (coarse r)) (unit_of r)
same-unit ticks r e = record { whole = ap (λ n. ticks / unit_of n) e; rest = ap (λ n. ticks % unit_of n * 1000000 / unit_of n) e }

pub coarse-parts : (ticks r : ℕ) → ticks < 2 ^ 64 → Same ticks (unit_of (coarse r)) (unit_of r)
coarse-parts ticks r few =
    elim (cases_lt r 128) [
      | inr above ↦ same-unit ticks r (coarse-binary r (omega (arith, above)))
      | inl below ↦
          elim (cases_lt 38 r) [
            | inr plain ↦ same-unit ticks r (coarse-decimal r below ∙ omega (arith, plain))
            | inl fine ↦
                let coarse-one : coarse r ≡ 38 = coarse-decimal r below ∙ omega (arith, fine) in
                let here : 10 ^ 38 ≤ unit_of (coarse r) = subst (λ n. 10 ^ 38 ≤ unit_of n) (sym coarse-one) (omega arith) in
                let there : 10 ^ 38 ≤ unit_of r = subst (λ n. 10 ^ 38 ≤ n) (sym (decimal r below)) (let more : 38 ≤ r = omega (arith, fine) in pow-le-pow_right (omega arith) more) in
                let a = none ticks (unit_of (coarse r)) few here in
                let b = none ticks (unit_of r) few there in
                record { whole = a.0 ∙ sym b.0; rest = a.1 ∙ sym b.1 }
          ]
    ]
