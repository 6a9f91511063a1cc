-- What a lawful plan answers from its look-ups.
use Rattle.std.proofs.Common.{◌≡◌, ◌<◌, ◌≤◌, ◌↔◌, ◌⊎◌, inl, inr, arith, ℕ, Bool, true, false, Option, Some, None, List, [], ◌∷◌, length, refl, sym, ◌∙◌, ap, get_or}
use Rattle.std.specs.Prelude.{◌==◌, option_and_then, unwrap_or, Decides, IfSome, slice_get}
use Rattle.std.specs.List.{list_any, All}
use Rattle.std.specs.Option.{is_some, option_map_or}
use Rattle.std.proofs.lemmas.Bool.{and_parts, both_ways, eq-eqb, eqb-true, or_cases, or_left, or_right}
use Rattle.std.proofs.lemmas.Option.{none-some, slice_get_within, slice_get-get_or}
use Rattle.rip_plan.proofs.ItemLemmas.{any_at, any_finds, cases_option}
use Rattle.rip_plan.proofs.NumberingLemmas.{same_is, same_self}
use Rattle.rip_wire.specs.Prefix.{Block}
use Rattle.rip_plan.specs.declared.parts.OwnPrefix.{OwnPrefix}
use Rattle.rip_plan.specs.declared.parts.Place.{Place}
use Rattle.rip_plan.specs.declared.parts.Seat.{Seat}
use Rattle.rip_plan.specs.declared.parts.Seat.TheVariants as seats
use Rattle.rip_plan.specs.Seats.{gateway_of, is_kept, link_of}
use Rattle.rip_plan.specs.Network.{Network, own_seat, direct_at, first_carrying, found_at, is_item, number_of_prefix}
use Rattle.rip_plan.specs.Passes.{same_prefix}
use Rattle.rip_plan.specs.Relations.{Exchanges, HasList, IsAt, IsAttached, IsGateway, IsKept, IsOwnWith, IsPrefix, IsDirect, IsListed, Touches, Carries, IsLawful}
use Rattle.rip_plan.proofs.LookupLemmas.{interface_of, prefix_of_number, number_of_planned, HasOwnSeat, own_says, own_gives, own_finds, direct_gives, direct_finds, carrier_gives, carrier_finds, found_gives, found_finds}
use Rattle.rip_plan.specs.Rows.{IsLinkBelow, IsOwnerBelow}

pub found_exact : (n : Network) → IsLawful n → (name : List ℕ) (a : ℕ) (o : Option ℕ) → o ≡ found_at n name a → (i : ℕ) → (o ≡ Some i) ↔ IsAt n name a i
found_exact n laws name a o e i = (λ h. found_gives n name a i (sym e ∙ h), λ h. e ∙ found_finds n laws name a i h)

pub found_below : (n : Network) (name : List ℕ) (a : ℕ) (o : Option ℕ) → o ≡ found_at n name a → IfSome o (λ i. i < length n.interfaces)
found_below n name a None e = tt
found_below n name a (Some i) e = let (l, named, here) = found_gives n name a i (sym e) in slice_get_within n.interfaces i here.1.interface here.1.listed

pub direct_exact : (n : Network) → IsLawful n → (r k : ℕ) (o : Option ℕ) → o ≡ direct_at r k n.interfaces n.places → (c : ℕ) → (o ≡ Some c) ↔ IsDirect n r k c
direct_exact n laws r k o e c = (λ h. direct_gives n r k c (sym e ∙ h), λ h. e ∙ direct_finds n laws r k c h)

past_not : {a b r k : ℕ} → (a ≤ r) ⊎ (b ≤ k) → r < a → k < b → ⊥
past_not h g e = grind arith

-- a number that the plan does not have has no cost, and each cost is at least 1
pub direct_past : (n : Network) → IsLawful n → (r k : ℕ) → (length n.routers ≤ r) ⊎ (length n.prefixes ≤ k) → direct_at r k n.interfaces n.places ≡ None
direct_past n laws r k past =
    elim (cases_option (direct_at r k n.interfaces n.places)) [
      | inl e ↦ e
      | inr (c, e) ↦ let (j, touches) = direct_gives n r k c e in absurd (touched j c touches)
    ]
  where
    touched : (j c : ℕ) → Touches n j k r c → ⊥
    touched j c (inl (l, place, (i, is))) = past_not past (laws.router_known i r l is.interface.cost (interface_of n i r l c is)) (laws.prefix_known j k _ place)
    touched j c (inr own) = past_not past (laws.owner_known j k r c own) (laws.prefix_known j k _ own.place)

pub direct_zero : (n : Network) → IsLawful n → (r k : ℕ) → unwrap_or (direct_at r k n.interfaces n.places) 0 ≡ 0 → direct_at r k n.interfaces n.places ≡ None
direct_zero n laws r k zero =
    elim (cases_option (direct_at r k n.interfaces n.places)) [
      | inl e ↦ e
      | inr (c, e) ↦ let (j, touches) = direct_gives n r k c e in let some : c ≡ 0 = rw e at zero in absurd (omega (arith, least j c touches))
    ]
  where
    least : (j c : ℕ) → Touches n j k r c → 1 ≤ c
    least j c (inl (l, place, (i, is))) = laws.direct_least i r l c is
    least j c (inr own) = laws.own_cost_least j k r c own

-- ---- a router's own prefixes

-- where no seat is kept, no router keeps a prefix, and none is attached
pub none_kept : (r k : ℕ) (places : List Place) → list_any (λ (q : Place). is_kept q.seat) places ≡ false → option_map_or is_kept (own_seat r k places) false ≡ false
none_kept r k [] h = refl
none_kept r k (q ∷ qs) h = grind (arith, none_kept r k qs)

pub none_attached : (r k : ℕ) (places : List Place) → list_any (λ (q : Place). is_kept q.seat) places ≡ false → option_and_then link_of (own_seat r k places) ≡ None
none_attached r k places h = grind (arith, none_kept)

pub own_past : (n : Network) → IsLawful n → (r k : ℕ) → (length n.routers ≤ r) ⊎ (length n.prefixes ≤ k) → own_seat r k n.places ≡ None
own_past n laws r k past =
    elim (cases_option (own_seat r k n.places)) [
      | inl e ↦ e
      | inr (seat, e) ↦ let (j, has) = own_gives n r k seat e in grind (arith, laws.owner_known j k r has.own.cost (own_says has refl), laws.prefix_known j k _ has.place)
    ]

pub kept_exact : (n : Network) → IsLawful n → (r k : ℕ) (o : Option Seat) (b : Bool) → o ≡ own_seat r k n.places → b ≡ option_map_or is_kept o false → Decides b (IsKept n r k)
kept_exact n laws r k o b e f = (
  λ h. elim (cases_option o) [ inl g ↦ let clash = rw g at (sym f ∙ h) in absurd cc | inr (seat, g) ↦ of_own seat (own_gives n r k seat (sym e ∙ g)) (rw g at (sym f ∙ h)) ],
  from,
)
  where
    of_own : (seat : Seat) → HasOwnSeat n r k seat → is_kept seat ≡ true → IsKept n r k
    of_own seat (j, has) h =
        elim (or_cases has.own.kept (is_some has.own.link) (ap is_kept (sym has.says) ∙ h)) [
          | inl is ↦ inl (j, own_says has is)
          | inr some ↦ elim (cases_option has.own.link) [ inl g ↦ let clash = rw g at some in absurd cc | inr (l, g) ↦ inr (l, (j, own_says has g)) ]
        ]

    seen : (j : ℕ) {Says : OwnPrefix → Type 0} → (h : IsOwnWith n j k r Says) → b ≡ is_kept (seats.Own h.own)
    seen j h = f ∙ ap (λ (p : Option Seat). option_map_or is_kept p false) (e ∙ own_finds n laws j k r h)

    from : IsKept n r k → b ≡ true
    from (inl (j, its)) = seen j its ∙ or_left its.own.kept (is_some its.own.link) its.says
    from (inr (l, (j, its))) = seen j its ∙ or_right its.own.kept (is_some its.own.link) (ap is_some its.says)

-- what the seat of a router's own prefix has, if it has it
seat_exact : (see : Seat → Option ℕ) (field : OwnPrefix → Option ℕ) → ((own : OwnPrefix) → see (seats.Own own) ≡ field own) → (n : Network) → IsLawful n → (r k : ℕ) (o : Option ℕ)
    → o ≡ option_and_then see (own_seat r k n.places) → (l : ℕ) → (o ≡ Some l) ↔ ((j : ℕ) × IsOwnWith n j k r (λ own. field own ≡ Some l))
seat_exact see field same n laws r k o e l = (
  λ h.
      elim (cases_option (own_seat r k n.places)) [
        | inl g ↦ absurd (none-some l (rw g at (sym e ∙ h)))
        | inr (seat, g) ↦ let (j, has) = own_gives n r k seat g in (j, own_says has (sym (same has.own) ∙ ap see (sym has.says) ∙ rw g at (sym e ∙ h)))
      ],
  λ h. e ∙ ap (option_and_then see) (own_finds n laws h.0 k r h.1) ∙ same h.1.own ∙ h.1.says,
)

pub attached_exact : (n : Network) → IsLawful n → (r k : ℕ) (o : Option ℕ) → o ≡ option_and_then link_of (own_seat r k n.places) → (l : ℕ) → (o ≡ Some l) ↔ IsAttached n r k l
attached_exact n laws r k o e l = seat_exact link_of (λ own. own.link) (λ own. refl) n laws r k o e l

gateway_exact : (n : Network) → IsLawful n → (r k : ℕ) (o : Option ℕ) → o ≡ option_and_then gateway_of (own_seat r k n.places) → (a : ℕ) → (o ≡ Some a) ↔ IsGateway n r k a
gateway_exact n laws r k o e a = seat_exact gateway_of (λ own. own.via) (λ own. refl) n laws r k o e a

-- ---- carriers

pub carrier_past : (n : Network) → IsLawful n → (l k : ℕ) → (length n.links ≤ l) ⊎ (length n.prefixes ≤ k) → is_some (first_carrying l k 0 n.places) ≡ false
carrier_past n laws l k past = grind (arith, carrier_gives)

pub carries_exact : (n : Network) (l k : ℕ) (b : Bool) → b ≡ is_some (first_carrying l k 0 n.places) → Decides b (Carries n l k)
carries_exact n l k b e = grind (arith, carrier_finds, carrier_gives)

no_number : (n : Network) (p : Block) → ((k : ℕ) → IsPrefix n k p → ⊥) → number_of_prefix p n.prefixes ≡ None
no_number n p none = elim (cases_option (number_of_prefix p n.prefixes)) [ inl e ↦ e | inr (k, e) ↦ absurd (none k (prefix_of_number n p k e)) ]

abbrev cost_of : Network → ℕ → Block → Option ℕ
cost_of n r p = option_and_then (λ k. direct_at r k n.interfaces n.places) (number_of_prefix p n.prefixes)

pub direct_planned : (n : Network) → IsLawful n → (r : ℕ) (p : Block) (o : Option ℕ) → o ≡ cost_of n r p → (k c : ℕ) → IsPrefix n k p → (o ≡ Some c) ↔ IsDirect n r k c
direct_planned n laws r p o e k c planned =
    direct_exact n laws r k o (e ∙ ap (option_and_then (λ m. direct_at r m n.interfaces n.places)) (number_of_planned n laws p k planned)) c

pub direct_unplanned : (n : Network) (r : ℕ) (p : Block) (o : Option ℕ) → o ≡ cost_of n r p → ((k : ℕ) → IsPrefix n k p → ⊥) → o ≡ None
direct_unplanned n r p o e none = e ∙ ap (option_and_then (λ m. direct_at r m n.interfaces n.places)) (no_number n p none)

abbrev has_carrier : Network → ℕ → Block → Bool
has_carrier n l p = is_some (option_and_then (λ k. first_carrying l k 0 n.places) (number_of_prefix p n.prefixes))

pub carries_planned : (n : Network) → IsLawful n → (l : ℕ) (p : Block) (b : Bool) → b ≡ has_carrier n l p → (k : ℕ) → IsPrefix n k p → Decides b (Carries n l k)
carries_planned n laws l p b e k planned = grind (arith, carries_exact, number_of_planned)

pub carries_unplanned : (n : Network) (l : ℕ) (p : Block) (b : Bool) → b ≡ has_carrier n l p → ((k : ℕ) → IsPrefix n k p → ⊥) → b ≡ false
carries_unplanned n l p b e none = e ∙ ap (λ (o : Option ℕ). is_some (option_and_then (λ m. first_carrying l m 0 n.places) o)) (no_number n p none)

abbrev gateway_at : Network → ℕ → Block → Option ℕ
gateway_at n r p = option_and_then (λ k. option_and_then gateway_of (own_seat r k n.places)) (number_of_prefix p n.prefixes)

pub gateway_planned : (n : Network) → IsLawful n → (r : ℕ) (p : Block) (o : Option ℕ) → o ≡ gateway_at n r p → (k a : ℕ) → IsPrefix n k p → (o ≡ Some a) ↔ IsGateway n r k a
gateway_planned n laws r p o e k a planned =
    gateway_exact n laws r k o (e ∙ ap (option_and_then (λ m. option_and_then gateway_of (own_seat r m n.places))) (number_of_planned n laws p k planned)) a

pub gateway_unplanned : (n : Network) (r : ℕ) (p : Block) (o : Option ℕ) → o ≡ gateway_at n r p → ((k : ℕ) → IsPrefix n k p → ⊥) → o ≡ None
gateway_unplanned n r p o e none = e ∙ ap (option_and_then (λ m. option_and_then gateway_of (own_seat r m n.places))) (no_number n p none)

-- ---- the numbers that the parts of a plan give are numbers that the plan has

module _ (n : Network) (laws : IsLawful n) where
  pub interfaces_links : All (λ i. i.link < length n.links) n.interfaces
  interfaces_links k d h =
      let x = get_or n.interfaces k d in
      laws.link_known k x.router x.link x.cost (record { interface = x; listed = slice_get-get_or n.interfaces k d h; router = refl; link = refl; cost = refl })

  pub interfaces_routers : All (λ i. i.router < length n.routers) n.interfaces
  interfaces_routers k d h =
      let x = get_or n.interfaces k d in
      laws.router_known k x.router x.link x.cost (record { interface = x; listed = slice_get-get_or n.interfaces k d h; router = refl; link = refl; cost = refl })

  pub places_prefixes : All (λ q. q.prefix < length n.prefixes) n.places
  places_prefixes k d h = let q = get_or n.places k d in laws.prefix_known k q.prefix q.seat (grind (arith, slice_get-get_or n.places k d h))

  pub places_links : All (λ q. IsLinkBelow (length n.links) q.seat) n.places
  places_links k d h = grind (arith, slice_get-get_or)

  pub places_owners : All (λ q. IsOwnerBelow (length n.routers) q.seat) n.places
  places_owners k d h = by_seat (get_or n.places k d).seat (slice_get-get_or n.places k d h)
    where
      by_seat : (seat : Seat) → slice_get n.places k ≡ Some (record { prefix = (get_or n.places k d).prefix; seat = seat }) → IsOwnerBelow (length n.routers) seat
      by_seat (seats.Link l) e = tt
      by_seat (seats.Own own) e = laws.owner_known k (get_or n.places k d).prefix own.router own.cost (record { own = own; place = record { listed = e }; router = refl; says = refl })

-- ---- lists

pub listed_exact : (n : Network) (l : ℕ) (p : Block) (b : Bool) → b ≡ list_any (is_item l p) n.listed → Decides b (IsListed n l p)
listed_exact n l p b e = (
  λ h.
      let (k, x, at, test) = any_finds (is_item l p) n.listed (sym e ∙ h) in
      let (link, prefix) = and_parts (x.link == l) (same_prefix x.prefix p) test in
      record { number = k; item = x; listed = at; link = eqb-true x.link l link; prefix = same_is x.prefix p prefix },
  λ h. e ∙ any_at (is_item l p) n.listed h.number h.item h.listed (rw (h.link, h.prefix) (rw (eq-eqb l l refl, same_self p) refl)),
)

pub lists_exact : (n : Network) (b : Bool) → b ≡ list_any (λ x. x) n.lists → Decides b ((l : ℕ) × HasList n l)
lists_exact n b e = (
  λ h. let (l, x, at, test) = any_finds (λ (x : Bool). x) n.lists (sym e ∙ h) in (l, at ∙ ap (λ (x : Bool). Some x) test),
  λ (l, has). e ∙ any_at (λ (x : Bool). x) n.lists l true has refl,
)

pub exchanges_exact : (n : Network) → IsLawful n → (l : ℕ) (p : Block) (b : Bool) → HasList n l → (IsListed n l p → ⊥) → ((k : ℕ) → IsPrefix n k p → Decides b (Carries n l k)) → (((k : ℕ) → IsPrefix n k p → ⊥) → b ≡ false)
    → Decides b (Exchanges n l p)
exchanges_exact n laws l p b has none planned unplanned = (
  λ h.
      elim (cases_option (number_of_prefix p n.prefixes)) [
        | inl e ↦ absurd (both_ways b (unplanned (λ k is. none-some k (sym e ∙ number_of_planned n laws p k is))) h)
        | inr (k, e) ↦ let is = prefix_of_number n p k e in inr (inr (k, is, (planned k is).0 h))
      ],
  λ x. elim x [ inl free ↦ absurd (free has) | inr (inl is) ↦ absurd (none is) | inr (inr (k, is, on)) ↦ (planned k is).1 on ],
)
