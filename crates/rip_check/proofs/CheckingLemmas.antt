-- Tests of a network that is written out, and what they tell: its laws, what is shown of it, and which places hold.
use Rattle.std.proofs.Common.{◌≡◌, ℕ, zero, suc, ◌+◌, ◌<◌, ◌≤◌, ◌^◌, ◌%◌, ◌/◌, ◌⊎◌, inl, inr, Bool, true, false, not, ◌&&◌, ◌||◌, ◌==◌, nat_le, nat_lt, List, [], ◌∷◌, length, map, sum, get_or, Option, None, Some, slice_get, unwrap_or, refl, sym, ◌∙◌, ap, arith}
use Rattle.std.specs.List.{Contains}
use Rattle.std.specs.Str.{bytes_eq}
use Rattle.std.proofs.lemmas.Bool.{and_parts, and_from, or_cases, or_left, or_right, not-true, both_ways, eqb-true, leb-true, ltb-true, eq-eqb}
use Rattle.std.proofs.lemmas.Bool.Decides.{nat_tests}
use Rattle.std.proofs.lemmas.Option.{same_Some}
use Rattle.std.proofs.lemmas.Slice.Eq.{bytes_eq-Decides}
use Rattle.rip_wire.specs.Name.{IsName, is_name}
use Rattle.rip_wire.specs.Prefix.{Block, IsBlock, size_of}
use Rattle.rip_plan.proofs.LookupLemmas.{own_inside}
use Rattle.rip_plan.specs.declared.parts.Interface.{Interface}
use Rattle.rip_plan.specs.declared.parts.Listed.{Listed}
use Rattle.rip_plan.specs.declared.parts.OwnPrefix.{OwnPrefix}
use Rattle.rip_plan.specs.declared.parts.Seat.{Seat}
use Rattle.rip_plan.specs.declared.parts.Seat.TheVariants.{Link, Own}
use Rattle.rip_plan.specs.declared.parts.Place.{Place}
use Rattle.rip_plan.specs.Network.{Network}
use Rattle.rip_plan.specs.Passes.{same_prefix}
use Rattle.rip_plan.specs.Relations.{Carries, HasAddress, HasAddresses, HasList, IsAttached, IsConnected, IsEachOnce, IsInside, IsInterface, IsLawful, IsListed, IsOn, IsPlace, IsPrefix, Touches}

-- ---- lists

-- each item passes, with its number counted from n
abbrev pub each_from : {A : Type 0} → (ℕ → A → Bool) → ℕ → List A → Bool
each_from test n [] = true
each_from test n (x ∷ xs) = test n x && each_from test (n + 1) xs

abbrev pub each : {A : Type 0} → (ℕ → A → Bool) → List A → Bool
each test xs = each_from test 0 xs

each_from_gives : {A : Type 0} (test : ℕ → A → Bool) (n : ℕ) (xs : List A) → each_from test n xs ≡ true → (i : ℕ) (x : A) → slice_get xs i ≡ Some x → test (n + i) x ≡ true
each_from_gives test n [] ok i x at = cc at
each_from_gives test n (y ∷ ys) ok zero x at =
    let h = (and_parts (test n y) (each_from test (n + 1) ys) ok).0 in
    let e : n + 0 ≡ n = omega arith in
    rw e (rw (same_Some y x at) at h)
each_from_gives test n (y ∷ ys) ok (suc i) x at =
    let h = each_from_gives test (n + 1) ys (and_parts (test n y) (each_from test (n + 1) ys) ok).1 i x at in
    let e : n + 1 + i ≡ n + suc i = omega arith in
    rw e at h

pub each_gives : {A : Type 0} (test : ℕ → A → Bool) (xs : List A) → each test xs ≡ true → (i : ℕ) (x : A) → slice_get xs i ≡ Some x → test i x ≡ true
each_gives test xs ok i x at =
    let h = each_from_gives test 0 xs ok i x at in
    let e : 0 + i ≡ i = omega arith in
    rw e at h

-- some item passes, with its number counted from n
abbrev pub some_from : {A : Type 0} → (ℕ → A → Bool) → ℕ → List A → Bool
some_from test n [] = false
some_from test n (x ∷ xs) = test n x || some_from test (n + 1) xs

abbrev pub some : {A : Type 0} → (ℕ → A → Bool) → List A → Bool
some test xs = some_from test 0 xs

some_from_gives : {A : Type 0} (test : ℕ → A → Bool) (n : ℕ) (xs : List A) → some_from test n xs ≡ true → (i : ℕ) × (x : A) × (slice_get xs i ≡ Some x) × (test (n + i) x ≡ true)
some_from_gives test n [] ok = cc ok
some_from_gives test n (y ∷ ys) ok =
    elim (or_cases (test n y) (some_from test (n + 1) ys) ok) [
      | inl h ↦ let e : n + 0 ≡ n = omega arith in (0, y, refl, rw e h)
      | inr h ↦
          let later = some_from_gives test (n + 1) ys h in
          let e : n + 1 + later.0 ≡ n + suc later.0 = omega arith in
          (suc later.0, later.1, later.2, rw e at later.3)
    ]

pub some_gives : {A : Type 0} (test : ℕ → A → Bool) (xs : List A) → some test xs ≡ true → (i : ℕ) × (x : A) × (slice_get xs i ≡ Some x) × (test i x ≡ true)
some_gives test xs ok =
    let h = some_from_gives test 0 xs ok in
    let e : 0 + h.0 ≡ h.0 = omega arith in
    (h.0, h.1, h.2, rw e at h.3)

some_from_holds : {A : Type 0} (test : ℕ → A → Bool) (n : ℕ) (xs : List A) (i : ℕ) (x : A) → slice_get xs i ≡ Some x → test (n + i) x ≡ true → some_from test n xs ≡ true
some_from_holds test n [] i x at is = cc at
some_from_holds test n (y ∷ ys) zero x at is =
    let e : n ≡ n + 0 = omega arith in
    or_left (test n y) _ (rw (e, same_Some y x at) is)
some_from_holds test n (y ∷ ys) (suc i) x at is =
    let e : n + suc i ≡ n + 1 + i = omega arith in
    or_right (test n y) _ (some_from_holds test (n + 1) ys i x at (rw e at is))

pub some_holds : {A : Type 0} (test : ℕ → A → Bool) (xs : List A) (i : ℕ) (x : A) → slice_get xs i ≡ Some x → test i x ≡ true → some test xs ≡ true
some_holds test xs i x at is =
    let e : i ≡ 0 + i = omega arith in
    some_from_holds test 0 xs i x at (rw e at is)

-- each number below n passes
abbrev pub below : (ℕ → Bool) → ℕ → Bool
below test zero = true
below test (suc n) = test n && below test n

pub below_gives : (test : ℕ → Bool) (n : ℕ) → below test n ≡ true → (k : ℕ) → k < n → test k ≡ true
below_gives test zero ok k lt = absurd (omega (arith, lt))
below_gives test (suc n) ok k lt =
    elim (or_cases (k == n) (nat_lt k n) (split k n lt)) [
      | inl e ↦ rw (eqb-true k n e) (and_parts (test n) (below test n) ok).0
      | inr less ↦ below_gives test n (and_parts (test n) (below test n) ok).1 k (ltb-true k n less)
    ]
  where
    split : (k n : ℕ) → k < suc n → ((k == n) || nat_lt k n) ≡ true
    split k n lt = grind (arith, nat_tests)

-- b wherever a
abbrev pub when : Bool → Bool → Bool
when a b = not a || b

pub when_gives : (a b : Bool) → when a b ≡ true → a ≡ true → b ≡ true
when_gives true b ok is = ok
when_gives false b ok is = cc is

-- ---- the laws of a plan

abbrev is_named_once : List (List ℕ) → ℕ → List ℕ → Bool
is_named_once names l name = is_name name && each (λ m other. when (bytes_eq name other) (l == m)) names

abbrev pub is_link : ℕ → Seat → Bool
is_link l (Link m) = m == l
is_link l (Own own) = false

pub link_of : (l : ℕ) (s : Seat) → is_link l s ≡ true → s ≡ Link l
link_of l (Link m) h = ap Link (eqb-true m l h)
link_of l (Own own) h = cc h

abbrev contains : Block → ℕ → Bool
contains b a = (a / size_of b.prefix_len) == (b.network / size_of b.prefix_len)

abbrev are_apart : ℕ → Interface → ℕ → Interface → Bool
are_apart i x j y = when ((x.link == y.link) && ((x.router == y.router) || (x.address == y.address))) (i == j)

abbrev is_fit_interface : Network → ℕ → Interface → Bool
is_fit_interface n i x =
    (nat_lt x.router (length n.routers) && nat_lt x.link (length n.links))
    && ((nat_le 1 x.cost && (nat_le x.cost 15 && (nat_le 1 x.direct && nat_le x.direct x.cost))) && (nat_lt x.address (2 ^ 32) && each (are_apart i x) n.interfaces))

abbrev is_inside : Network → Interface → Bool
is_inside n x = some (λ k q. is_link x.link q.seat && some (λ p b. (p == q.prefix) && contains b x.address) n.prefixes) n.places

abbrev is_inside_prefixes : Network → ℕ → Interface → Bool
is_inside_prefixes n i x = when (some (λ k q. is_link x.link q.seat) n.places) (is_inside n x)

abbrev is_block : Block → Bool
is_block b = nat_le b.prefix_len 32 && (nat_lt b.network (2 ^ 32) && ((b.network % size_of b.prefix_len) == 0))

block_is : (b : Block) → is_block b ≡ true → IsBlock b
block_is b ok =
    let h0 = and_parts _ _ ok in
    let h1 = and_parts _ _ h0.1 in
    (leb-true _ _ h0.0, ltb-true _ _ h1.0, eqb-true _ _ h1.1)

abbrev is_fit_prefix : Network → ℕ → Block → Bool
is_fit_prefix n p b =
    is_block b
    && each (λ q c. when (same_prefix b c) (p == q)) n.prefixes

-- the router is on the link to which its prefix is attached, if it is
abbrev is_there : Network → ℕ → Option ℕ → Bool
is_there n r None = true
is_there n r (Some l) = some (λ i x. (x.router == r) && (x.link == l)) n.interfaces

-- no gateway is told
abbrev tells_none : Option ℕ → Bool
tells_none None = true
tells_none (Some a) = false

abbrev is_fit_seat : Network → Seat → Bool
is_fit_seat n (Link l) = nat_lt l (length n.links)
is_fit_seat n (Own own) = (nat_lt own.router (length n.routers) && (nat_le 1 own.cost && nat_le own.cost 15)) && (is_there n own.router own.link && tells_none own.via)

abbrev touches : Network → ℕ → Seat → Bool
touches n r (Link l) = some (λ i x. (x.router == r) && (x.link == l)) n.interfaces
touches n r (Own own) = own.router == r

abbrev is_same_link : Seat → Seat → Bool
is_same_link s (Link l) = is_link l s
is_same_link s (Own own) = false

abbrev are_apart_seats : Network → Seat → Seat → Bool
are_apart_seats n s t = not (is_same_link s t) && below (λ r. not (touches n r s && touches n r t)) (length n.routers)

abbrev is_fit_place : Network → ℕ → Place → Bool
is_fit_place n k q =
    (nat_lt q.prefix (length n.prefixes) && is_fit_seat n q.seat)
    && each (λ j t. (k == j) || when (q.prefix == t.prefix) (are_apart_seats n q.seat t.seat)) n.places

abbrev has_counts : Network → Bool
has_counts n =
    ((nat_le 1 (length n.links) && nat_le (length n.links) 512) && (nat_le 1 (length n.routers) && nat_le (length n.routers) 128))
    && (nat_le (length n.interfaces) 1024 && nat_le (length n.places) 1024)

-- no interface has a further address
abbrev is_empty : {A : Type 0} → List A → Bool
is_empty [] = true
is_empty (x ∷ xs) = false

abbrev has_no_more : Network → Bool
has_no_more n = (length n.also == length n.interfaces) && (each (λ i also. is_empty also) n.also && nat_le (sum (map length n.also)) 1024)

-- what stands in the lists is of links that have one
abbrev is_fit_item : Network → Listed → Bool
is_fit_item n item = unwrap_or (slice_get n.lists item.link) false && is_block item.prefix

abbrev has_lists : Network → Bool
has_lists n = (length n.lists == length n.links) && (nat_le (length n.listed) 1024 && each (λ k item. is_fit_item n item) n.listed)

abbrev has_each : Network → Bool
has_each n =
    below (λ r. some (λ i x. x.router == r) n.interfaces) (length n.routers)
    && below (λ p. some (λ k q. q.prefix == p) n.places) (length n.prefixes)

-- the tests of each law
pub record Passes (n : Network) : Type 0 where
  pub counts : has_counts n ≡ true
  pub links : each (is_named_once n.links) n.links ≡ true
  pub lists : has_lists n ≡ true
  pub routers : each (is_named_once n.routers) n.routers ≡ true
  pub interfaces : each (is_fit_interface n) n.interfaces ≡ true
  pub inside : each (is_inside_prefixes n) n.interfaces ≡ true
  pub prefixes : each (is_fit_prefix n) n.prefixes ≡ true
  pub places : each (is_fit_place n) n.places ≡ true
  pub has : has_each n ≡ true
  pub also : has_no_more n ≡ true

-- the test of a name is a name (what `rip_wire` says of its test)
abbrev pub NamesTested : Type 0
NamesTested = (text : List ℕ) → (is_name text ≡ true) → IsName text

module _ (n : Network) (ok : Passes n) where
  -- an interface passes
  fit_parts : (i : ℕ) (x : Interface) → slice_get n.interfaces i ≡ Some x →
      (x.router < length n.routers) × (x.link < length n.links) × (1 ≤ x.cost) × (x.cost ≤ 15) × (x.address < 2 ^ 32) × (each (are_apart i x) n.interfaces ≡ true)
      × (1 ≤ x.direct) × (x.direct ≤ x.cost)
  fit_parts i x at =
      let h0 = and_parts _ _ (each_gives (is_fit_interface n) n.interfaces ok.interfaces i x at) in
      let h1 = and_parts _ _ h0.0 in
      let h2 = and_parts _ _ h0.1 in
      let h3 = and_parts _ _ h2.0 in
      let h4 = and_parts _ _ h2.1 in
      let h5 = and_parts _ _ h3.1 in
      let h6 = and_parts _ _ h5.1 in
      (ltb-true _ _ h1.0, ltb-true _ _ h1.1, leb-true _ _ h3.0, leb-true _ _ h5.0, ltb-true _ _ h4.0, h4.1, leb-true _ _ h6.0, leb-true _ _ h6.1)

  apart : (i j : ℕ) (x y : Interface) → slice_get n.interfaces i ≡ Some x → slice_get n.interfaces j ≡ Some y → x.link ≡ y.link → (x.router ≡ y.router) ⊎ (x.address ≡ y.address) → i ≡ j
  apart i j x y at there link same =
      let h = each_gives (are_apart i x) n.interfaces (fit_parts i x at).5 j y there in
      eqb-true i j (when_gives _ (i == j) h (test link same))
    where
      test : x.link ≡ y.link → (x.router ≡ y.router) ⊎ (x.address ≡ y.address) → ((x.link == y.link) && ((x.router == y.router) || (x.address == y.address))) ≡ true
      test link (inl e) = rw (eq-eqb x.link y.link link, eq-eqb x.router y.router e) refl
      test link (inr e) = and_from _ _ (eq-eqb x.link y.link link) (or_right _ _ (eq-eqb x.address y.address e))

  at_place : (k p : ℕ) (s : Seat) → IsPlace n k p s → is_fit_place n k (record { prefix = p; seat = s }) ≡ true
  at_place k p s h = each_gives (is_fit_place n) n.places ok.places k _ h.listed

  seat_fits : (k p : ℕ) (s : Seat) → IsPlace n k p s → is_fit_seat n s ≡ true
  seat_fits k p s h = (and_parts _ _ (and_parts _ _ (at_place k p s h)).0).1

  -- two places of a prefix that are not one are apart
  one_or_apart : (k j p : ℕ) (s t : Seat) → IsPlace n k p s → IsPlace n j p t → (k ≡ j) ⊎ (are_apart_seats n s t ≡ true)
  one_or_apart k j p s t a b =
      let h = each_gives _ n.places (and_parts _ _ (at_place k p s a)).1 j _ b.listed in
      elim (or_cases (k == j) _ h) [
        | inl e ↦ inl (eqb-true k j e)
        | inr far ↦ inr (when_gives (p == p) _ far (eq-eqb p p refl))
      ]

  -- what is a router's own passes
  own_fits : (k p : ℕ) (own : OwnPrefix) → IsPlace n k p (Own own) →
      (own.router < length n.routers) × (1 ≤ own.cost) × (own.cost ≤ 15) × (is_there n own.router own.link ≡ true) × (tells_none own.via ≡ true)
  own_fits k p own at =
      let h = and_parts (nat_lt own.router (length n.routers) && (nat_le 1 own.cost && nat_le own.cost 15)) _ (seat_fits k p (Own own) at) in
      let h0 = and_parts (nat_lt own.router (length n.routers)) _ h.0 in
      let h1 = and_parts (nat_le 1 own.cost) _ h0.1 in
      let h2 = and_parts (is_there n own.router own.link) _ h.1 in
      (ltb-true _ _ h0.0, leb-true _ _ h1.0, leb-true _ _ h1.1, h2.0, h2.1)

  -- an interface has its own address alone
  alone : (i : ℕ) (further : List ℕ) → slice_get n.also i ≡ Some further → further ≡ []
  alone i further at =
      let h = and_parts (length n.also == length n.interfaces) _ ok.also in
      empty further (each_gives (λ i also. is_empty also) n.also (and_parts _ _ h.1).0 i further at)
    where
      empty : (xs : List ℕ) → is_empty xs ≡ true → xs ≡ []
      empty [] e = refl
      empty (x ∷ xs) e = cc e

  one_address : (i l : ℕ) (all : List ℕ) → (h : HasAddresses n i l all) → (x : Interface) × (slice_get n.interfaces i ≡ Some x) × (x.link ≡ l) × (all ≡ x.address ∷ [])
  one_address i l all h = (h.interface, h.listed, h.link, h.all ∙ ap (λ xs. h.interface.address ∷ xs) (alone i h.also h.further))

  its_address : (i l a : ℕ) → HasAddress n i l a → (x : Interface) × (slice_get n.interfaces i ≡ Some x) × (x.link ≡ l) × (a ≡ x.address)
  its_address i l a h =
      let one = one_address i l h.0 h.1 in
      let in_one : Contains (one.0.address ∷ []) a = rw one.3 at h.2 in
      (one.0, one.1, one.2, the_one one.0.address a in_one)
    where
      the_one : (x a : ℕ) → Contains (x ∷ []) a → a ≡ x
      the_one x a c = go c.0 c.1 c.2
        where
          go : (k : ℕ) → k < 1 → get_or (x ∷ []) k a ≡ a → a ≡ x
          go zero lt e = sym e
          go (suc k) lt e = absurd (omega (arith, lt))

  -- a place that touches a router passes the test of that
  seat_touched : (k p r c : ℕ) → Touches n k p r c → (s : Seat) × IsPlace n k p s × (touches n r s ≡ true) × (r < length n.routers)
  seat_touched k p r c (inl h) =
      let i = h.2.0 in
      let its = h.2.1 in
      let test = some_holds (λ i x. (x.router == r) && (x.link == h.0)) n.interfaces i its.interface its.listed (and_from _ _ (eq-eqb _ r its.router) (eq-eqb _ h.0 its.link)) in
      (Link h.0, h.1, test, rw its.router at (fit_parts i its.interface its.listed).0)
  seat_touched k p r c (inr h) =
      (Own h.own, h.place, eq-eqb _ _ h.router, rw h.router at (own_fits k p h.own h.place).0)

  both_false : (a b : Bool) → not (a && b) ≡ true → a ≡ true → b ≡ true → ⊥
  both_false true true h a b = cc h
  both_false true false h a b = cc b
  both_false false b h a b' = cc a

  touched_once : (k j p r c d : ℕ) → Touches n k p r c → Touches n j p r d → k ≡ j
  touched_once k j p r c d a b =
      let s = seat_touched k p r c a in
      let t = seat_touched j p r d b in
      elim (one_or_apart k j p s.0 t.0 s.1 t.1) [
        | inl e ↦ e
        | inr far ↦
            let free = below_gives (λ q. not (touches n q s.0 && touches n q t.0)) (length n.routers) (and_parts _ _ far).1 r s.3 in
            absurd (both_false _ _ free s.2 t.2)
      ]

  carried_once : (k j p l : ℕ) → IsPlace n k p (Link l) → IsPlace n j p (Link l) → k ≡ j
  carried_once k j p l a b =
      elim (one_or_apart k j p (Link l) (Link l) a b) [
        | inl e ↦ e
        | inr far ↦
            let not_same : not (l == l) ≡ true = (and_parts _ _ far).0 in
            absurd (both_ways (l == l) (not-true (l == l) not_same) (eq-eqb l l refl))
      ]

  -- names
  named : (names : List (List ℕ)) → each (is_named_once names) names ≡ true → NamesTested → (l : ℕ) (name : List ℕ) → slice_get names l ≡ Some name → IsName name
  named names passes tested l name at = tested name (and_parts _ _ (each_gives (is_named_once names) names passes l name at)).0

  names_differ : (names : List (List ℕ)) → each (is_named_once names) names ≡ true → (l m : ℕ) (name : List ℕ) → slice_get names l ≡ Some name → slice_get names m ≡ Some name → l ≡ m
  names_differ names passes l m name a b =
      let h = each_gives (λ m other. when (bytes_eq name other) (l == m)) names (and_parts _ _ (each_gives (is_named_once names) names passes l name a)).1 m name b in
      eqb-true l m (when_gives (bytes_eq name name) (l == m) h ((bytes_eq-Decides name name).1 refl))

  -- prefixes
  block_parts : (p : ℕ) (b : Block) → IsPrefix n p b → IsBlock b × (each (λ q c. when (same_prefix b c) (p == q)) n.prefixes ≡ true)
  block_parts p b at =
      let h = and_parts (is_block b) _ (each_gives (is_fit_prefix n) n.prefixes ok.prefixes p b at) in
      (block_is b h.0, h.1)

  prefixes_differ : (p q : ℕ) (b : Block) → IsPrefix n p b → IsPrefix n q b → p ≡ q
  prefixes_differ p q b at there =
      let h = each_gives (λ q c. when (same_prefix b c) (p == q)) n.prefixes (block_parts p b at).1 q b there in
      eqb-true p q (when_gives _ (p == q) h (and_from _ _ (eq-eqb b.network b.network refl) (eq-eqb b.prefix_len b.prefix_len refl)))

  place_is : (k : ℕ) (q : Place) (s : Seat) → slice_get n.places k ≡ Some q → q.seat ≡ s → IsPlace n k q.prefix s
  place_is k q s at e = record { listed = at ∙ ap (λ (t : Seat). Some (record { prefix = q.prefix; seat = t })) e }

  -- the address of an interface is inside a prefix of its link
  inside : (i p : ℕ) (x : Interface) → slice_get n.interfaces i ≡ Some x → Carries n x.link p → IsInside n x.link x.address
  inside i p x at carries =
      let here = some_holds (λ k q. is_link x.link q.seat) n.places carries.0 _ carries.1.listed (eq-eqb x.link x.link refl) in
      let found = some_gives (λ k q. is_link x.link q.seat && some (λ p b. (p == q.prefix) && contains b x.address) n.prefixes) n.places
      (when_gives _ (is_inside n x) (each_gives (is_inside_prefixes n) n.interfaces ok.inside i x at) here) in
      let q = found.1 in
      let parts = and_parts _ _ found.3 in
      let prefix = some_gives (λ p b. (p == q.prefix) && contains b x.address) n.prefixes parts.1 in
      let both = and_parts _ _ prefix.3 in
      let e : prefix.0 ≡ q.prefix = eqb-true _ _ both.0 in
      let listed : IsPrefix n q.prefix prefix.1 = rw e at prefix.2 in
      (q.prefix, prefix.1, (found.0, place_is found.0 q (Link x.link) found.2 (link_of x.link q.seat parts.0)), listed, eqb-true _ _ both.1)

  one_interface : (r : ℕ) → r < length n.routers → (i l c : ℕ) × IsInterface n i r l c
  one_interface r lt =
      let h = some_gives (λ i x. x.router == r) n.interfaces (below_gives (λ r. some (λ i x. x.router == r) n.interfaces) (length n.routers) (and_parts _ _ ok.has).0 r lt) in
      (h.0, h.1.link, h.1.cost, record { interface = h.1; listed = h.2; router = eqb-true _ _ h.3; link = refl; cost = refl })

  one_place : (p : ℕ) → p < length n.prefixes → (k : ℕ) × (s : Seat) × IsPlace n k p s
  one_place p lt =
      let has = and_parts (below (λ r. some (λ i x. x.router == r) n.interfaces) (length n.routers)) _ ok.has in
      let h = some_gives (λ k q. q.prefix == p) n.places (below_gives (λ p. some (λ k q. q.prefix == p) n.places) (length n.prefixes) has.1 p lt) in
      let there : IsPlace n h.0 h.1.prefix h.1.seat = record { listed = h.2 } in
      (h.0, h.1.seat, rw (eqb-true _ _ h.3) at there)

  direct_most : (i r l c d : ℕ) → IsInterface n i r l c → IsConnected n i r l d → d ≤ c
  direct_most i r l c d its h =
      let same : h.interface.cost ≡ c = ap (λ (x : Interface). x.cost) (same_Some _ _ (sym h.listed ∙ its.listed)) ∙ its.cost in
      omega (arith, (fit_parts i h.interface h.listed).7, h.direct, same)

  attached_there : (r p l : ℕ) → IsAttached n r p l → IsOn n r l
  attached_there r p l h =
      let test : is_there n r (Some l) ≡ true = rw (h.1.router, h.1.says) at (own_fits h.0 p h.1.own h.1.place).3 in
      let found = some_gives (λ i x. (x.router == r) && (x.link == l)) n.interfaces test in
      let x = found.1 in
      let parts = and_parts (x.router == r) (x.link == l) found.3 in
      (x.cost, (found.0, record { interface = x; listed = found.2; router = eqb-true _ _ parts.0; link = eqb-true _ _ parts.1; cost = refl }))

  addresses_once : (i l : ℕ) (all : List ℕ) → HasAddresses n i l all → IsEachOnce all
  addresses_once i l all h = let one = one_address i l all h in rw one.3 (single one.0.address)
    where
      single : (x : ℕ) → IsEachOnce (x ∷ [])
      single x zero zero a f g = refl
      single x zero (suc k) a f g = cc g
      single x (suc j) k a f g = cc f

  list_parts : (length n.lists ≡ length n.links) × (length n.listed ≤ 1024) × (each (λ k item. is_fit_item n item) n.listed ≡ true)
  list_parts =
      let h = and_parts (length n.lists == length n.links) _ ok.lists in
      let g = and_parts (nat_le (length n.listed) 1024) _ h.1 in
      (eqb-true _ _ h.0, leb-true _ _ g.0, g.1)

  -- an item of a list
  its_list : (l : ℕ) (b : Block) → IsListed n l b → HasList n l × IsBlock b
  its_list l b h =
      let t = and_parts (unwrap_or (slice_get n.lists h.item.link) false) (is_block h.item.prefix) (each_gives (λ k item. is_fit_item n item) n.listed list_parts.2 h.number h.item h.listed) in
      let has : slice_get n.lists h.item.link ≡ Some true = flag (slice_get n.lists h.item.link) t.0 in
      let block = block_is h.item.prefix t.1 in
      (rw h.link at has, rw h.prefix at block)
    where
      flag : (o : Option Bool) → unwrap_or o false ≡ true → o ≡ Some true
      flag None e = cc e
      flag (Some true) e = refl
      flag (Some false) e = cc e

  pub lawful : NamesTested → IsLawful n
  lawful tested =
      let counts = and_parts _ _ ok.counts in
      let parts = and_parts _ _ counts.0 in
      let links = and_parts _ _ parts.0 in
      let routers = and_parts _ _ parts.1 in
      let others = and_parts _ _ counts.1 in
      record {
        some_link = leb-true _ _ links.0;
        few_links = leb-true _ _ links.1;
        some_router = leb-true _ _ routers.0;
        few_routers = leb-true _ _ routers.1;
        few_interfaces = leb-true _ _ others.0;
        few_also = leb-true _ _ (and_parts _ _ (and_parts _ _ ok.also).1).1;
        few_places = leb-true _ _ others.1;
        few_listed = list_parts.1;
        list_of_each = list_parts.0;
        listed_known = λ l b h. (its_list l b h).0;
        listed_is = λ l b h. (its_list l b h).1;
        link_named = named n.links ok.links tested;
        router_named = named n.routers ok.routers tested;
        link_names_differ = names_differ n.links ok.links;
        router_names_differ = names_differ n.routers ok.routers;
        router_known = λ i r l c h. rw h.router at (fit_parts i h.interface h.listed).0;
        link_known = λ i r l c h. rw h.link at (fit_parts i h.interface h.listed).1;
        cost_least = λ i r l c h. rw h.cost at (fit_parts i h.interface h.listed).2;
        cost_most = λ i r l c h. rw h.cost at (fit_parts i h.interface h.listed).3;
        one_interface = one_interface;
        one_on_link = λ i j r l c d a b. apart i j _ _ a.listed b.listed (a.link ∙ sym b.link) (inl (a.router ∙ sym b.router));
        direct_least = λ i r l d h. rw h.direct at (fit_parts i h.interface h.listed).6;
        direct_most = direct_most;
        also_listed = eqb-true _ _ (and_parts _ _ ok.also).0;
        address_known = λ i l a h. let x = its_address i l a h in rw x.3 (fit_parts i x.0 x.1).4;
        addresses_differ = λ i j l a h g.
            let x = its_address i l a h in
            let y = its_address j l a g in
            apart i j x.0 y.0 x.1 y.1 (x.2 ∙ sym y.2) (inr (sym x.3 ∙ y.3));
        addresses_once = addresses_once;
        inside = own_inside n inside;
        prefix_is = λ p b at. (block_parts p b at).0;
        prefixes_differ = prefixes_differ;
        one_place = one_place;
        prefix_known = λ k p s at. ltb-true p _ (and_parts _ _ (and_parts _ _ (at_place k p s at)).0).0;
        seat_known = λ k p l at. ltb-true l _ (seat_fits k p (Link l) at);
        owner_known = λ k p r c h. rw h.router at (own_fits k p h.own h.place).0;
        own_cost_least = λ k p r c h. rw h.says at (own_fits k p h.own h.place).1;
        own_cost_most = λ k p r c h. rw h.says at (own_fits k p h.own h.place).2;
        attached_there = attached_there;
        gateway_known = λ r p a h. absurd (let told : tells_none (Some a) ≡ true = rw h.1.says at (own_fits h.0 p h.1.own h.1.place).4 in cc told);
        gateway_no_neighbour = λ k g. absurd (let told : tells_none (Some g.gateway) ≡ true = rw g.own.says at (own_fits k g.prefix g.own.own g.own.place).4 in cc told);
        carried_once = carried_once;
        touched_once = touched_once;
      }
