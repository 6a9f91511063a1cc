-- Times come one after the other as their texts do.
use Rattle.std.proofs.Common.{◌≡◌, ℕ, ◌+◌, ◌*◌, ◌/◌, ◌%◌, ◌<◌, ◌⊎◌, inl, inr, List, ◌∷◌, ◌++◌, drop, take, codes, refl, sym, ap, ◌∙◌, arith, pos, subst, Less, Equal, Greater}
use Rattle.std.specs.Cmp.{nat_cmp_is}
use Rattle.std.specs.Cmp.Lexicographic.{slice_cmp}
use Rattle.std.specs.Ordering.{nat_cmp, ordering_reverse}
use Rattle.std.specs.declared.cmp.Ordering.{Ordering}
use Rattle.std.proofs.lemmas.Bool.{cases_order}
use Rattle.std.proofs.lemmas.Cmp.{nat_list_cmp_total, ranked, tied_itself}
use Rattle.jiff_core.proofs.SignedLemmas.{signed_arith}
use Rattle.jiff_core.proofs.CalendarLemmas.{day_count-lt_year, day_count-lt_month}
use Rattle.rip_log.specs.Calendar.{days_before}
use Rattle.rip_log.specs.Times.{IsDateTime, IsSecondText, IsTimeText, fraction_text, micros_of, second_text, time_text, two_digits}
use Rattle.rip_log.specs.declared.time.date_time.DateTime.{DateTime}
use Rattle.rip_log.proofs.CalendarLemmas.{days_agree, IsDate-civil}

-- of two dates the first number that differs decides
abbrev pub IsEarlierDate : DateTime → DateTime → Type 0
IsEarlierDate t u =
    (t.year < u.year) ⊎ ((t.year ≡ u.year)
    × ((t.month < u.month) ⊎ ((t.month ≡ u.month) × (t.day < u.day))))

-- and of two times of day
abbrev pub IsEarlierClock : DateTime → DateTime → Type 0
IsEarlierClock t u =
    (t.hour < u.hour) ⊎ ((t.hour ≡ u.hour)
    × ((t.minute < u.minute) ⊎ ((t.minute ≡ u.minute)
    × ((t.second < u.second) ⊎ ((t.second ≡ u.second) × (t.micro < u.micro))))))

-- their dates are the same
abbrev pub IsSameDate : DateTime → DateTime → Type 0
IsSameDate t u = (t.year ≡ u.year) × (t.month ≡ u.month) × (t.day ≡ u.day)

-- one time is earlier than another
abbrev pub IsEarlier : DateTime → DateTime → Type 0
IsEarlier t u = IsEarlierDate t u ⊎ (IsSameDate t u × IsEarlierClock t u)

-- the days before the date of a time
abbrev days : DateTime → ℕ
days t = days_before t.year t.month t.day

-- fewer days come before an earlier date
days-lt : (t u : DateTime) → IsDateTime t → IsDateTime u → IsEarlierDate t u → days t < days u
days-lt t u h k (inl year) =
    let first = days_agree t.year t.month t.day h.0.0.0 h.0.2.0 in
    let second = days_agree u.year u.month u.day k.0.0.0 k.0.2.0 in
    let civil = IsDate-civil t.year t.month t.day h.0 in
    let less =
    day_count-lt_year (pos t.year) t.month t.day (pos u.year) u.month u.day civil k.0.2.0
    (omega (arith, signed_arith))
    in
    omega (arith, first, second, less)
days-lt t u h k (inr (year, inl month)) =
    let first = days_agree t.year t.month t.day h.0.0.0 h.0.2.0 in
    let second = days_agree t.year u.month u.day h.0.0.0 k.0.2.0 in
    let civil = IsDate-civil t.year t.month t.day h.0 in
    let less = day_count-lt_month (pos t.year) t.month t.day u.month u.day civil k.0.2.0 month in
    omega (arith, first, second, less, ap (λ y. days_before y u.month u.day) year)
days-lt t u h k (inr (year, inr (month, day))) = rw (← year, ← month) (omega (arith, h.0.2.0))

-- and fewer micros before an earlier time
micros-lt : (t u : DateTime) → IsDateTime t → IsDateTime u → IsEarlier t u → micros_of t < micros_of u
micros-lt t u h k (inl date) = omega (arith, days-lt t u h k date, h.1)
micros-lt t u h k (inr (date, clock)) = go clock (rw (date.0, date.1, date.2) refl)
  where
    go : IsEarlierClock t u → days t ≡ days u → micros_of t < micros_of u
    go (inl hour) same = omega (arith, h.1)
    go (inr (hour, inl minute)) same = omega (arith, h.1)
    go (inr (hour, inr (minute, inl second))) same = omega (arith, h.1)
    go (inr (hour, inr (minute, inr (second, micro)))) same = omega arith

-- one is earlier, or they are equal
cases_earlier : (t u : DateTime) → (t ≡ u) ⊎ (IsEarlier t u ⊎ IsEarlier u t)
cases_earlier t u =
    elim (cases_order t.year u.year) [
      | inr (inl lt) ↦ inr (inl (inl (inl lt)))
      | inr (inr gt) ↦ inr (inr (inl (inl gt)))
      | inl year ↦ elim (cases_order t.month u.month) [
        | inr (inl lt) ↦ inr (inl (inl (inr (year, inl lt))))
        | inr (inr gt) ↦ inr (inr (inl (inr (sym year, inl gt))))
        | inl month ↦ elim (cases_order t.day u.day) [
          | inr (inl lt) ↦ inr (inl (inl (inr (year, inr (month, lt)))))
          | inr (inr gt) ↦ inr (inr (inl (inr (sym year, inr (sym month, gt)))))
          | inl day ↦ clock (year, month, day)
        ]
      ]
    ]
  where
    clock : IsSameDate t u → (t ≡ u) ⊎ (IsEarlier t u ⊎ IsEarlier u t)
    clock date =
        let back : IsSameDate u t = (sym date.0, sym date.1, sym date.2) in
        elim (cases_order t.hour u.hour) [
          | inr (inl lt) ↦ inr (inl (inr (date, inl lt)))
          | inr (inr gt) ↦ inr (inr (inr (back, inl gt)))
          | inl hour ↦ elim (cases_order t.minute u.minute) [
            | inr (inl lt) ↦ inr (inl (inr (date, inr (hour, inl lt))))
            | inr (inr gt) ↦ inr (inr (inr (back, inr (sym hour, inl gt))))
            | inl minute ↦ elim (cases_order t.second u.second) [
              | inr (inl lt) ↦ inr (inl (inr (date, inr (hour, inr (minute, inl lt)))))
              | inr (inr gt) ↦ inr (inr (inr (back, inr (sym hour, inr (sym minute, inl gt)))))
              | inl second ↦ elim (cases_order t.micro u.micro) [
                | inr (inl lt) ↦ inr (inl (inr (date, inr (hour, inr (minute, inr (second, lt))))))
                | inr (inr gt) ↦
                    inr (inr (inr (back, inr (sym hour, inr (sym minute, inr (sym second, gt))))))
                | inl micro ↦ inl (λ i. record {
                  year = date.0 i;
                  month = date.1 i;
                  day = date.2 i;
                  hour = hour i;
                  minute = minute i;
                  second = second i;
                  micro = micro i;
                })
              ]
            ]
          ]
        ]

-- of two times the earlier by its micros is the earlier by its numbers
earlier : (t u : DateTime) → IsDateTime t → IsDateTime u → micros_of t < micros_of u → IsEarlier t u
earlier t u h k lt =
    elim (cases_earlier t u) [
      | inl same ↦ absurd (omega (arith, ap micros_of same))
      | inr (inl less) ↦ less
      | inr (inr more) ↦ absurd (omega (arith, micros-lt u t k h more))
    ]

-- so many micros are one time
micros_of-injective : (t u : DateTime) → IsDateTime t → IsDateTime u → micros_of t ≡ micros_of u → t ≡ u
micros_of-injective t u h k e =
    elim (cases_earlier t u) [
      | inl same ↦ same
      | inr (inl less) ↦ absurd (omega (arith, micros-lt t u h k less))
      | inr (inr more) ↦ absurd (omega (arith, micros-lt u t k h more))
    ]

-- a time has one text
pub one_text : (micros : ℕ) (a b : List ℕ) → IsTimeText micros a → IsTimeText micros b → a ≡ b
one_text micros a b h k =
    let same = micros_of-injective h.shown k.shown h.exists k.exists (h.counted ∙ sym k.counted) in
    sym h.spelled ∙ ap time_text same ∙ k.spelled

-- texts compare byte by byte
compared : List ℕ → List ℕ → Ordering
compared = slice_cmp nat_cmp

-- past a byte that is the same in both
one_same : (b : ℕ) (xs ys : List ℕ) → compared (b ∷ xs) (b ∷ ys) ≡ compared xs ys
unfolding compared
one_same b xs ys = rw (← nat_cmp_is b b Equal refl) refl

-- the first byte that differs decides
one_less : (b c : ℕ) (xs ys : List ℕ) → b < c → compared (b ∷ xs) (c ∷ ys) ≡ Less
unfolding compared
one_less b c xs ys lt = rw (← nat_cmp_is b c Less lt) refl

-- past two digits that are the same in both
two_same : (n k : ℕ) (xs ys : List ℕ) → n ≡ k →
    compared (two_digits n ++ xs) (two_digits k ++ ys) ≡ compared xs ys
two_same n k xs ys e =
    rw e (one_same (48 + k / 10) _ _ ∙ one_same (48 + k % 10) xs ys)

-- the lesser of two numbers has the digits that come first
two_less : (n k : ℕ) (xs ys : List ℕ) → n < k →
    compared (two_digits n ++ xs) (two_digits k ++ ys) ≡ Less
two_less n k xs ys lt =
    elim (cases_order (n / 10) (k / 10)) [
      | inl e ↦
          let last = one_less (48 + n % 10) (48 + k % 10) xs ys (omega arith) in
          rw e (one_same (48 + k / 10) _ _ ∙ last)
      | inr (inl less) ↦ one_less (48 + n / 10) (48 + k / 10) _ _ (omega arith)
      | inr (inr more) ↦ absurd (omega arith)
    ]

-- so it has four digits, as a year
four_less : (n k : ℕ) (xs ys : List ℕ) → n < k →
    compared (two_digits (n / 100) ++ two_digits (n % 100) ++ xs)
    (two_digits (k / 100) ++ two_digits (k % 100) ++ ys)
    ≡ Less
four_less n k xs ys lt =
    elim (cases_order (n / 100) (k / 100)) [
      | inl e ↦
          two_same (n / 100) (k / 100) _ _ e ∙ two_less (n % 100) (k % 100) xs ys (omega arith)
      | inr (inl less) ↦ two_less (n / 100) (k / 100) _ _ less
      | inr (inr more) ↦ absurd (omega arith)
    ]

-- and six, as a fraction
six_less : (n k : ℕ) (xs ys : List ℕ) → n < k →
    compared (fraction_text n ++ xs) (fraction_text k ++ ys) ≡ Less
six_less n k xs ys lt =
    one_same 46 _ _ ∙ elim (cases_order (n / 10_000) (k / 10_000)) [
      | inl first ↦
          two_same (n / 10_000) (k / 10_000) _ _ first
          ∙ elim (cases_order (n / 100 % 100) (k / 100 % 100)) [
            | inl middle ↦
                two_same (n / 100 % 100) (k / 100 % 100) _ _ middle
                ∙ two_less (n % 100) (k % 100) xs ys (omega arith)
            | inr (inl less) ↦ two_less (n / 100 % 100) (k / 100 % 100) _ _ less
            | inr (inr more) ↦ absurd (omega arith)
          ]
      | inr (inl less) ↦ two_less (n / 10_000) (k / 10_000) _ _ less
      | inr (inr more) ↦ absurd (omega arith)
    ]

-- how the texts of two times compare from this byte on
abbrev from : ℕ → DateTime → DateTime → Ordering
from n t u = compared (drop n (time_text t)) (drop n (time_text u))

-- past two digits that are the same in both, and the byte after them: 45 is -, 58 is :, 84 is T
past : (n k b : ℕ) (xs ys : List ℕ) → n ≡ k →
    compared (two_digits n ++ b ∷ xs) (two_digits k ++ b ∷ ys) ≡ compared xs ys
past n k b xs ys e = two_same n k _ _ e ∙ one_same b xs ys

-- past the same year
past_year : (t u : DateTime) → t.year ≡ u.year → from 0 t u ≡ from 5 t u
past_year t u e =
    two_same (t.year / 100) (u.year / 100) _ _ (ap (λ y. y / 100) e)
    ∙ past (t.year % 100) (u.year % 100) 45 _ _ (ap (λ y. y % 100) e)

-- the earlier date has the text that comes first
date_less : (t u : DateTime) → IsEarlierDate t u → from 0 t u ≡ Less
date_less t u (inl lt) = four_less t.year u.year _ _ lt
date_less t u (inr (year, inl lt)) = past_year t u year ∙ two_less t.month u.month _ _ lt
date_less t u (inr (year, inr (month, lt))) =
    past_year t u year ∙ past t.month u.month 45 _ _ month ∙ two_less t.day u.day _ _ lt

-- so does the earlier time of day, from the hour on
clock_less : (t u : DateTime) → IsEarlierClock t u → from 11 t u ≡ Less
clock_less t u (inl lt) = two_less t.hour u.hour _ _ lt
clock_less t u (inr (hour, inl lt)) =
    past t.hour u.hour 58 _ _ hour ∙ two_less t.minute u.minute _ _ lt
clock_less t u (inr (hour, inr (minute, inl lt))) =
    past t.hour u.hour 58 _ _ hour ∙ past t.minute u.minute 58 _ _ minute
    ∙ two_less t.second u.second _ _ lt
clock_less t u (inr (hour, inr (minute, inr (second, lt)))) =
    past t.hour u.hour 58 _ _ hour ∙ past t.minute u.minute 58 _ _ minute
    ∙ two_same t.second u.second _ _ second ∙ six_less t.micro u.micro _ _ lt

-- and the earlier time
text_less : (t u : DateTime) → IsEarlier t u → from 0 t u ≡ Less
text_less t u (inl date) = date_less t u date
text_less t u (inr (date, clock)) =
    past_year t u date.0 ∙ past t.month u.month 45 _ _ date.1 ∙ past t.day u.day 84 _ _ date.2
    ∙ clock_less t u clock

-- as it is counted by micros
texts_less : (m n : ℕ) (a b : List ℕ) → IsTimeText m a → IsTimeText n b → m < n →
    slice_cmp nat_cmp a b ≡ Less
unfolding compared
texts_less m n a b h k lt =
    let lower : micros_of h.shown < micros_of k.shown = omega (arith, h.counted, k.counted) in
    let first = earlier h.shown k.shown h.exists k.exists lower in
    ap (λ x. compared x b) (sym h.spelled) ∙ ap (compared (time_text h.shown)) (sym k.spelled)
    ∙ text_less h.shown k.shown first

-- so texts come in the order of their times
pub text_order : (m n : ℕ) (a b : List ℕ) → IsTimeText m a → IsTimeText n b →
    slice_cmp nat_cmp a b ≡ nat_cmp m n
text_order m n a b h k =
    elim (cases_order m n) [
      | inl same ↦
          let one = one_text n a b (subst (λ x. IsTimeText x a) same h) k in
          rw (same, one) (tied_itself nat_list_cmp_total b ∙ nat_cmp_is n n Equal refl)
      | inr (inl less) ↦ texts_less m n a b h k less ∙ nat_cmp_is m n Less less
      | inr (inr more) ↦
          nat_list_cmp_total.antisymm a b ∙ ap ordering_reverse (texts_less n m b a k h more)
          ∙ nat_cmp_is m n Greater more
    ]

-- and a text is that of one time
pub one_time : (m n : ℕ) (text : List ℕ) → IsTimeText m text → IsTimeText n text → m ≡ n
one_time m n text h k =
    ranked m n Equal (sym (tied_itself nat_list_cmp_total text) ∙ text_order m n text text h k)

-- the text of a time without its fraction is that of its second
pub second_front : (micros : ℕ) (text : List ℕ) → IsTimeText micros text →
    IsSecondText (micros / 1_000_000) (take 19 text ++ codes "Z")
second_front micros text h = record {
  shown = h.shown;
  exists = h.exists;
  counted = omega (arith, h.counted, h.exists.1);
  spelled = ap (λ x. take 19 x ++ codes "Z") h.spelled;
}

-- the time at which its second begins
abbrev whole : DateTime → DateTime
whole t = record t { micro = 0 }

-- it is one
IsDateTime-whole : (t : DateTime) → IsDateTime t → IsDateTime (whole t)
IsDateTime-whole t h = (h.0, (h.1.0, h.1.1, h.1.2, omega arith))

-- a second has one text
pub one_second_text : (second : ℕ) (a b : List ℕ) → IsSecondText second a → IsSecondText second b →
    a ≡ b
one_second_text second a b h k =
    let first = IsDateTime-whole h.shown h.exists in
    let last = IsDateTime-whole k.shown k.exists in
    let counted = ap (λ n. n * 1_000_000 + 0) (h.counted ∙ sym k.counted) in
    let same = micros_of-injective (whole h.shown) (whole k.shown) first last counted in
    sym h.spelled ∙ ap second_text same ∙ k.spelled
