-- The seconds of a log run from that of its first line to that of its last, one by one.
use Rattle.std.proofs.Common.{◌⊎◌, inl, inr, ◌≡◌, ℕ, zero, suc, ◌+◌, ◌-◌, ◌<◌, ◌≤◌, nat_lt, Bool, true, false, cond, List, [], ◌∷◌, length, Option, Some, None, refl, sym, ap, ◌∙◌, arith, length-append}
use Rattle.std.specs.List.{slice_get}
use Rattle.std.proofs.lemmas.Bool.{ltb-true}
use Rattle.std.proofs.lemmas.Bool.Decides.{nat_tests}
use Rattle.rip_plan.specs.Network.{Network}
use Rattle.rip_log.specs.TimedText.{LineSaid}
use Rattle.rip_table.specs.Scenes.{View, after_said, closed_view, new_view, passed_view}
use Rattle.rip_table.specs.Seconds.{after_quiet, from_first, later_second, log_seconds, own_second, quiet, seconds_of}
use Rattle.rip_table.specs.Seen.{BeginsIn, EndsIn}
use Rattle.rip_table.proofs.MakesLemmas.{either_list}

-- ---- the second in which a line counts

pub later_least : (second : ℕ) (own : Option ℕ) → second ≤ later_second second own
later_least second None = omega arith
later_least second (Some x) = by (nat_lt second x) refl
  where
    by : (b : Bool) → nat_lt second x ≡ b → second ≤ cond b x second
    by true t = omega (arith, ltb-true second x t)
    by false t = omega arith

pub later_most : (second own : ℕ) → own ≤ later_second second (Some own)
later_most second own = by (nat_lt second own) refl
  where
    by : (b : Bool) → nat_lt second own ≡ b → own ≤ cond b own second
    by true t = omega arith
    by false t = let less : own ≤ second = grind (arith, nat_tests, t) in omega (arith, less)

-- a second before it, and not before the one of the lines before, is before the line's own
pub later_than : (second s : ℕ) (own : Option ℕ) → second ≤ s → s < later_second second own → (x : ℕ) × (own ≡ Some x) × (s < x)
later_than second s None low high = absurd (omega (arith, low, high))
later_than second s (Some x) low high = by (nat_lt second x) high
  where
    by : (b : Bool) → s < cond b x second → (y : ℕ) × (Some x ≡ Some y) × (s < y)
    by true h = (x, refl, h)
    by false h = absurd (omega (arith, low, h))

later_is : (second : ℕ) (own : Option ℕ) → (later_second second own ≡ second) ⊎ (own ≡ Some (later_second second own))
later_is second None = inl refl
later_is second (Some x) = by (nat_lt second x)
  where
    by : (b : Bool) → (cond b x second ≡ second) ⊎ (Some x ≡ Some (cond b x second))
    by true = inr refl
    by false = inl refl

-- the second in which the last of lines counts
abbrev last_of : ℕ → List LineSaid → ℕ
last_of second [] = second
last_of second (l ∷ lines) = last_of (later_second second (own_second l.said)) lines

last_least : (second : ℕ) (lines : List LineSaid) → second ≤ last_of second lines
last_least second [] = omega arith
last_least second (l ∷ lines) = omega (arith, later_least second (own_second l.said), last_least (later_second second (own_second l.said)) lines)

last_most : (second : ℕ) (lines : List LineSaid) (k own : ℕ) (l : LineSaid) → slice_get lines k ≡ Some l → own_second l.said ≡ Some own → own ≤ last_of second lines
last_most second [] k own l at is = absurd (cc at)
last_most second (q ∷ lines) zero own l at is =
    let same : q ≡ l = cc at in
    let here : own_second q.said ≡ Some own = ap (λ (x : LineSaid). own_second x.said) same ∙ is in
    let later = ap (later_second second) here in
    omega (arith, later, later_most second own, last_least (later_second second (own_second q.said)) lines)
last_most second (q ∷ lines) (suc k) own l at is = last_most (later_second second (own_second q.said)) lines k own l at is

-- it is that of the lines before, or a line's own
last_is : (second : ℕ) (lines : List LineSaid) → (last_of second lines ≡ second) ⊎ ((k : ℕ) × (l : LineSaid) × (slice_get lines k ≡ Some l) × (own_second l.said ≡ Some (last_of second lines)))
last_is second [] = inl refl
last_is second (q ∷ lines) = elim (last_is (later_second second (own_second q.said)) lines) [
  | inl same ↦ elim (later_is second (own_second q.said)) [
    | inl before ↦ inl (same ∙ before)
    | inr own ↦ inr (zero, q, refl, own ∙ ap (λ (x : ℕ). Some x) (sym same))
  ]
  | inr (k, l, at, own) ↦ inr (suc k, l, at, own)
]

-- ---- the seconds

quiet_length : (n : Network) (count second : ℕ) (v : View) → length (quiet n count second v) ≡ count
quiet_length n zero second v = refl
quiet_length n (suc count) second v = ap suc (quiet_length n count (second + 1) (passed_view (closed_view n v)))

quiet_number : (n : Network) (count second : ℕ) (v : View) (k : ℕ) (x : ℕ × View) → slice_get (quiet n count second v) k ≡ Some x → x.0 ≡ second + k
quiet_number n zero second v k x at = absurd (cc at)
quiet_number n (suc count) second v zero x at = let here : ◌≡◌ {A = ℕ × View} (second, closed_view n v) x = cc at in omega (arith, ap (λ (y : ℕ × View). y.0) here)
quiet_number n (suc count) second v (suc k) x at = omega (arith, quiet_number n count (second + 1) (passed_view (closed_view n v)) k x at)

seconds_number : (n : Network) (window second : ℕ) (v : View) (lines : List LineSaid) (k : ℕ) (x : ℕ × View) → slice_get (seconds_of n window second v lines) k ≡ Some x → x.0 ≡ second + k
seconds_number n window second v [] zero x at = let here : ◌≡◌ {A = ℕ × View} (second, closed_view n v) x = cc at in omega (arith, ap (λ (y : ℕ × View). y.0) here)
seconds_number n window second v [] (suc k) x at = absurd (cc at)
seconds_number n window second v (l ∷ lines) k x at =
    let later = later_second second (own_second l.said) in
    let after = after_said n window l.line l.said (after_quiet n (later - second) v) in
    elim (either_list (quiet n (later - second) second v) (seconds_of n window later after lines) k x at) [
      | inl early ↦ quiet_number n (later - second) second v k x early
      | inr (j, is, there) ↦
          omega (arith, is, quiet_length n (later - second) second v, later_least second (own_second l.said), seconds_number n window later after lines j x there)
    ]

seconds_length : (n : Network) (window second : ℕ) (v : View) (lines : List LineSaid) → second + length (seconds_of n window second v lines) ≡ last_of second lines + 1
seconds_length n window second v [] = omega arith
seconds_length n window second v (l ∷ lines) =
    let later = later_second second (own_second l.said) in
    let after = after_said n window l.line l.said (after_quiet n (later - second) v) in
    let both = length-append (quiet n (later - second) second v) (seconds_of n window later after lines) in
    omega (arith, both, quiet_length n (later - second) second v, later_least second (own_second l.said), seconds_length n window later after lines)

-- where the first line has a second, they begin in it
pub begun : (n : Network) (window first : ℕ) (said : List LineSaid) → BeginsIn said first → log_seconds n window said ≡ seconds_of n window first (new_view n) said
begun n window first [] (l, at, is) = absurd (cc at)
begun n window first (q ∷ said) (l, at, is) =
    let same : q ≡ l = cc at in
    let here : own_second q.said ≡ Some first = ap (λ (x : LineSaid). own_second x.said) same ∙ is in
    ap (λ (o : Option ℕ). from_first n window o (q ∷ said)) here

pub number-of-second : (n : Network) (window k first second : ℕ) (said : List LineSaid) (v : View) → BeginsIn said first
    → slice_get (log_seconds n window said) k ≡ Some (second, v) → second ≡ first + k
number-of-second n window k first second said v begins at =
    seconds_number n window first (new_view n) said k (second, v) (ap (λ (l : List (ℕ × View)). slice_get l k) (sym (begun n window first said begins)) ∙ at)

pub count-of-seconds : (n : Network) (window first last : ℕ) (said : List LineSaid) → BeginsIn said first → EndsIn said last → first + length (log_seconds n window said) ≡ last + 1
count-of-seconds n window first last said begins (ends, most) =
    let (l, at, is) = begins in
    let reached = last_most first said ends.0 last ends.1 ends.2 ends.3 in
    let within : last_of first said ≤ last = elim (last_is first said) [
      | inl same ↦ omega (arith, same, most 0 first l at is)
      | inr (k, q, there, own) ↦ most k (last_of first said) q there own
    ] in
    omega (arith, reached, within, ap (λ (x : List (ℕ × View)). length x) (begun n window first said begins), seconds_length n window first (new_view n) said)
