-- Numbers: what is shown is a metric, direct costs are costs, and a plan has few prefixes.
use Rattle.std.proofs.Common.{◌≡◌, ℕ, zero, suc, ◌<◌, ◌≤◌, Bool, true, false, ◌||◌, List, [], ◌∷◌, length, Option, None, Some, slice_get, refl, sym, ◌∙◌, ap, arith, option_and_then}
use Rattle.std.specs.Prelude.{eqb}
use Rattle.std.specs.List.{AllByRecursion, IsDistinct, list_any}
use Rattle.std.proofs.lemmas.Bool.{eqb-true, false_from_ne_true}
use Rattle.std.proofs.lemmas.Map.Steps.{length-le_from_distinct_below}
use Rattle.std.proofs.lemmas.Option.{slice_get_within}
use Rattle.rip_wire.specs.Prefix.{Block}
use Rattle.rip_plan.specs.Network.{Network}
use Rattle.rip_plan.specs.declared.parts.Place.{Place}
use Rattle.rip_plan.specs.declared.parts.Seat.{Seat}
use Rattle.rip_plan.specs.Relations.{IsLawful, IsPlace}
use Rattle.rip_table.specs.State.{Fits, IsState, State}
use Rattle.rip_check.specs.Metrics.{IsInRange}

pub in_range : (n : Network) (s : State) → Fits n s → IsState s → IsInRange n s
in_range n s fits is i r l c p m its shows = go (slice_get s.prefixes p) shows
  where
    go : (o : Option Block) → option_and_then (λ b. s.shows i b) o ≡ Some m → (1 ≤ m) × (m ≤ 16)
    go None e = cc e
    go (Some b) e =
        let lt : i < s.interfaces = omega (arith, fits.interfaces, slice_get_within n.interfaces i _ its.listed) in
        let h = is.shown i m b lt e in
        (h.least, h.most)

-- ---- a plan has no more prefixes than places, since each has a place of its own

weaken : (P Q : ℕ → Type 0) → ((q : ℕ) → P q → Q q) → (xs : List ℕ) → AllByRecursion P xs → AllByRecursion Q xs
weaken P Q f [] all = all
weaken P Q f (x ∷ xs) all = (f x all.0, weaken P Q f xs all.1)

member : (P : ℕ → Type 0) (q : ℕ) (xs : List ℕ) → AllByRecursion P xs → list_any (eqb q) xs ≡ true → P q
member P q [] all h = absurd (cc h)
member P q (x ∷ xs) all h = go (λ t. member P q xs all.1 t) (eqb q x) refl h
  where
    go : (list_any (eqb q) xs ≡ true → P q) → (b : Bool) → eqb q x ≡ b → (b || list_any (eqb q) xs) ≡ true → P q
    go later true e t = rw (eqb-true q x e) all.0
    go later false e t = later t

-- place q is that of a prefix below k
abbrev IsOfBelow : Network → ℕ → ℕ → Type 0
IsOfBelow n k q = (p : ℕ) × (seat : Seat) × (p < k) × IsPlace n q p seat

one_prefix : (n : Network) (j k p q : ℕ) (s t : Seat) → IsPlace n j p s → IsPlace n k q t → j ≡ k → p ≡ q
one_prefix n j k p q s t a b same =
    let both : Some (record { prefix = p; seat = s }) ≡ Some (record { prefix = q; seat = t }) = sym a.listed ∙ ap (slice_get n.places) same ∙ b.listed in
    let is : ◌≡◌ {A = Place} (record { prefix = p; seat = s }) (record { prefix = q; seat = t }) = cc both in
    ap (λ (x : Place). x.prefix) is

module _ (n : Network) (plan : IsLawful n) where
  -- a place of each prefix below k
  places : (k : ℕ) → k ≤ length n.prefixes → (xs : List ℕ) × (length xs ≡ k) × AllByRecursion (IsOfBelow n k) xs × IsDistinct eqb xs
  unfolding IsDistinct
  places zero le = ([], refl, tt, tt)
  places (suc k) le =
      let rest = places k (omega (arith, le)) in
      let place = plan.one_place k (omega (arith, le)) in (
        place.0 ∷ rest.0,
        omega (arith, rest.1),
        ((k, place.1, omega arith, place.2), weaken (IsOfBelow n k) (IsOfBelow n (suc k)) (λ q h. (h.0, h.1, omega (arith, h.2), h.3)) rest.0 rest.2),
        (
          weaken (IsOfBelow n k) (λ q. eqb place.0 q ≡ false)
              (λ q h. false_from_ne_true (eqb place.0 q) (λ t.
              let same = one_prefix n place.0 q k h.0 place.1 h.1 place.2 h.3 (eqb-true place.0 q t) in
              omega (arith, same, h.2))) rest.0 rest.2,
          rest.3,
        ),
      )

  pub few_prefixes : length n.prefixes ≤ length n.places
  few_prefixes =
      let all = places (length n.prefixes) (omega arith) in
      let le = length-le_from_distinct_below all.0 (length n.places) all.3
      (λ q h. let of = member (IsOfBelow n (length n.prefixes)) q all.0 all.2 h in slice_get_within n.places q _ of.3.listed) in
      omega (arith, le, all.1)
