-- The network of a prefix: its parts are those of the plan, and it keeps the plan's laws.
use Rattle.std.proofs.Common.{◌≡◌, ◌<◌, ◌≤◌, ◌⊎◌, inl, inr, arith, ℕ, ◌+◌, Bool, true, false, Option, Some, None, List, [], ◌∷◌, length, map, refl, sym, ◌∙◌, ap, subst}
use Rattle.std.specs.Prelude.{Decides, not, is_some, option_and_then, slice_get}
use Rattle.std.specs.List.{list_any}
use Rattle.std.specs.Option.{option_map_or}
use Rattle.std.proofs.lemmas.Bool.{both_ways, cases_Bool, or_cases, or_left, or_right}
use Rattle.std.proofs.lemmas.List.{length-map}
use Rattle.std.proofs.lemmas.Option.{none-some, same_Some}
use Rattle.rip_wire.specs.Prefix.{Block}
use Rattle.rip_plan.specs.declared.parts.Interface.{Interface}
use Rattle.rip_plan.specs.declared.parts.OwnPrefix.{OwnPrefix}
use Rattle.rip_plan.specs.declared.parts.Place.{Place}
use Rattle.rip_plan.specs.declared.parts.Seat.{Seat}
use Rattle.rip_plan.specs.declared.parts.Seat.TheVariants as seats
use Rattle.rip_plan.specs.Network.{Network, first_carrying, is_item, number_of_prefix}
use Rattle.rip_plan.specs.PrefixNetworks.{IsNetwork, exchanges, has_list, interface_where, network_for, network_where, own_where, place_where, seat_where}
use Rattle.rip_plan.specs.Relations.{Carries, Exchanges, HasList, IsAttached, IsConnected, IsDirect, IsInterface, IsKept, IsLawful, IsOn, IsOwnAt, IsOwnWith, IsPlace, IsPrefix, Touches}
use Rattle.rip_plan.proofs.ItemLemmas.{cases_option, get_seen, see_got}
use Rattle.rip_plan.proofs.LookupLemmas.{carrier_finds, carrier_gives, number_of_planned, prefix_of_number}
use Rattle.rip_plan.proofs.PlanAnswerLemmas.{listed_exact}

-- ---- what is exchanged

list_at : (n : Network) (l : ℕ) → has_list n l ≡ true → HasList n l
list_at n l h = grind arith

at_list : (n : Network) (l : ℕ) → HasList n l → has_list n l ≡ true
at_list n l h = grind arith

abbrev is_own : Network → Block → ℕ → Bool
is_own n b l = is_some (option_and_then (λ k. first_carrying l k 0 n.places) (number_of_prefix b n.prefixes))

own_gives : (n : Network) (b : Block) (l : ℕ) → is_own n b l ≡ true → (k : ℕ) × IsPrefix n k b × Carries n l k
own_gives n b l h =
    elim (cases_option (number_of_prefix b n.prefixes)) [
      | inl e ↦ let clash : false ≡ true = rw e at h in absurd cc
      | inr (k, e) ↦ (k, prefix_of_number n b k e, grind (arith, carrier_gives))
    ]

own_finds : (n : Network) → IsLawful n → (b : Block) (l k : ℕ) → IsPrefix n k b → Carries n l k → is_own n b l ≡ true
own_finds n laws b l k is on = let number = number_of_planned n laws b k is in rw number (grind (arith, carrier_finds))

pub exchange : (n : Network) → IsLawful n → (b : Block) (l : ℕ) → Decides (exchanges n b l) (Exchanges n l b)
exchange n laws b l = (gives, finds)
  where
    gives : exchanges n b l ≡ true → Exchanges n l b
    gives h =
        elim (cases_Bool (has_list n l)) [
          | inl has ↦
              elim (or_cases (list_any (is_item l b) n.listed) (is_own n b l) (rw has at h)) [
                | inl is ↦ inr (inl ((listed_exact n l b _ refl).0 is))
                | inr own ↦ inr (inr (own_gives n b l own))
              ]
          | inr none ↦ inl (λ has. both_ways (has_list n l) none (at_list n l has))
        ]

    finds : Exchanges n l b → exchanges n b l ≡ true
    finds (inl free) =
        elim (cases_Bool (has_list n l)) [
          | inl has ↦ absurd (free (list_at n l has))
          | inr none ↦ rw none refl
        ]
    finds (inr (inl is)) = or_right (not (has_list n l)) _ (or_left _ (is_own n b l) ((listed_exact n l b _ refl).1 is))
    finds (inr (inr (k, is, on))) = or_right (not (has_list n l)) _ (or_right (list_any (is_item l b) n.listed) _ (own_finds n laws b l k is on))

-- where no link has a list, each prefix is exchanged everywhere
all_exchanged : (n : Network) (b : Block) → ((l : ℕ) → HasList n l → ⊥) → (l : ℕ) → exchanges n b l ≡ true
all_exchanged n b free l =
    elim (cases_Bool (has_list n l)) [
      | inl has ↦ absurd (free l (list_at n l has))
      | inr none ↦ rw none refl
    ]

map_same : {A : Type 0} (f : A → A) → ((x : A) → f x ≡ x) → (xs : List A) → map f xs ≡ xs
map_same f same [] = refl
map_same f same (x ∷ xs) = rw (same x, map_same f same xs) refl

pub same_network : (n : Network) (b : Block) → ((l : ℕ) → HasList n l → ⊥) → network_for n b ≡ n
same_network n b free = rw (map_same (interface_where (exchanges n b) n) interfaces n.interfaces, map_same (place_where (exchanges n b)) places n.places) refl
  where
    interfaces : (x : Interface) → interface_where (exchanges n b) n x ≡ x
    interfaces x = rw (all_exchanged n b free x.link) refl

    owns : (own : OwnPrefix) → option_map_or (exchanges n b) own.link true ≡ true
    owns own = by_link own.link
      where
        by_link : (link : Option ℕ) → option_map_or (exchanges n b) link true ≡ true
        by_link None = refl
        by_link (Some l) = all_exchanged n b free l

    seats_same : (seat : Seat) → seat_where (exchanges n b) seat ≡ seat
    seats_same (seats.Link l) = refl
    seats_same (seats.Own own) = rw (owns own) refl

    places : (q : Place) → place_where (exchanges n b) q ≡ q
    places q = rw (seats_same q.seat) refl

module _ (n : Network) (free : ℕ → Bool) where
  -- ---- interfaces

  -- an interface of the network of the prefix is one of the plan: of the same router, or of none
  pub record WasInterface (i r l : ℕ) (x : Interface) : Type 0 where
    pub listed : slice_get n.interfaces i ≡ Some x
    pub link : x.link ≡ l
    pub whose : ((free l ≡ true) × (x.router ≡ r)) ⊎ ((free l ≡ false) × (r ≡ length n.routers + x.router))

  pub was : (i r l : ℕ) (y : Interface) → slice_get (network_where free n).interfaces i ≡ Some y → y.router ≡ r → y.link ≡ l
      → (x : Interface) × WasInterface i r l x × (x.cost ≡ y.cost) × (x.direct ≡ y.direct)
  was i r l y at router link =
      let (x, listed, same) = get_seen (interface_where free n) n.interfaces i y at in
      elim (cases_Bool (free x.link)) [
        | inl e ↦ let one : x ≡ y = rw e at same in (x, record { listed = listed; link = ap (λ (z : Interface). z.link) one ∙ link; whose = inl (cc, ap (λ (z : Interface). z.router) one ∙ router) }, cc, cc)
        | inr e ↦
            let one : record x { router = length n.routers + x.router } ≡ y = rw e at same in
            let here : x.link ≡ l = ap (λ (z : Interface). z.link) one ∙ link in (
              x,
              record { listed = listed; link = here; whose = inr (rw (← here) e, sym (ap (λ (z : Interface). z.router) one ∙ router)) },
              ap (λ (z : Interface). z.cost) one,
              ap (λ (z : Interface). z.direct) one,
            )
      ]

  pub was_interface : (i r l c : ℕ) → IsInterface (network_where free n) i r l c → (s : ℕ) × IsInterface n i s l c × (((free l ≡ true) × (s ≡ r)) ⊎ ((free l ≡ false) × (r ≡ length n.routers + s)))
  was_interface i r l c h =
      let (x, is, cost, direct) = was i r l h.interface h.listed h.router h.link in
      (x.router, record { interface = x; listed = is.listed; router = refl; link = is.link; cost = cost ∙ h.cost }, is.whose)

  pub was_connected : (i r l d : ℕ) → IsConnected (network_where free n) i r l d → (s : ℕ) × IsConnected n i s l d × (((free l ≡ true) × (s ≡ r)) ⊎ ((free l ≡ false) × (r ≡ length n.routers + s)))
  was_connected i r l d h =
      let (x, is, cost, direct) = was i r l h.interface h.listed h.router h.link in
      (x.router, record { interface = x; listed = is.listed; router = refl; link = is.link; direct = direct ∙ h.direct }, is.whose)

  pub stays_interface : (i r l c : ℕ) → IsInterface n i r l c → free l ≡ true → IsInterface (network_where free n) i r l c
  stays_interface i r l c h e =
      let on : free h.interface.link ≡ true = rw h.link e in
      let same : interface_where free n h.interface ≡ h.interface = rw on refl in
      record { interface = h.interface; listed = see_got (interface_where free n) n.interfaces i h.interface h.listed ∙ ap (λ (x : Interface). Some x) same; router = h.router; link = h.link; cost = h.cost }

  pub stays_connected : (i r l d : ℕ) → IsConnected n i r l d → free l ≡ true → IsConnected (network_where free n) i r l d
  stays_connected i r l d h e =
      let on : free h.interface.link ≡ true = rw h.link e in
      let same : interface_where free n h.interface ≡ h.interface = rw on refl in
      record { interface = h.interface; listed = see_got (interface_where free n) n.interfaces i h.interface h.listed ∙ ap (λ (x : Interface). Some x) same; router = h.router; link = h.link; direct = h.direct }

  -- a router of the plan has the interfaces on links that exchange the prefix
  pub its_own : (i r l c : ℕ) → r < length n.routers → IsInterface (network_where free n) i r l c → IsInterface n i r l c × (free l ≡ true)
  its_own i r l c lt h =
      let (s, is, whose) = was_interface i r l c h in
      elim whose [ inl (e, same) ↦ (subst (λ (q : ℕ). IsInterface n i q l c) same is, e) | inr (e, past) ↦ absurd (omega (arith, lt, past)) ]

  -- ---- places

  -- a place of the network of the prefix is one of the plan
  pub was_place : (k p : ℕ) (seat : Seat) → IsPlace (network_where free n) k p seat → (old : Seat) × IsPlace n k p old × (seat_where free old ≡ seat)
  was_place k p seat h =
      let (q, at, same) = get_seen (place_where free) n.places k _ h.listed in
      let prefix : q.prefix ≡ p = ap (λ (x : Place). x.prefix) same in
      (q.seat, record { listed = at ∙ ap (λ (m : ℕ). Some (record { prefix = m; seat = q.seat })) prefix }, ap (λ (x : Place). x.seat) same)

  pub stays_place : (k p : ℕ) (seat : Seat) → IsPlace n k p seat → IsPlace (network_where free n) k p (seat_where free seat)
  stays_place k p seat h = record { listed = see_got (place_where free) n.places k _ h.listed }

  link_seat : (seat : Seat) (l : ℕ) → seat_where free seat ≡ seats.Link l → seat ≡ seats.Link l
  link_seat (seats.Link m) l h = h
  link_seat (seats.Own own) l h = absurd cc

  pub was_carried : (k p l : ℕ) → IsPlace (network_where free n) k p (seats.Link l) → IsPlace n k p (seats.Link l)
  was_carried k p l h = let (old, is, same) = was_place k p (seats.Link l) h in subst (IsPlace n k p) (link_seat old l same) is

  pub stays_carried : (k p l : ℕ) → IsPlace n k p (seats.Link l) → IsPlace (network_where free n) k p (seats.Link l)
  stays_carried k p l h = stays_place k p (seats.Link l) h

  -- an own prefix is kept without its link, where that does not exchange the prefix
  own_seat : (seat : Seat) (own : OwnPrefix) → seat_where free seat ≡ seats.Own own → (old : OwnPrefix) × (seat ≡ seats.Own old) × (own_where free old ≡ own)
  own_seat (seats.Link m) own h = absurd cc
  own_seat (seats.Own old) own h = (old, refl, cc)

  pub record WasOwn (k p : ℕ) (own old : OwnPrefix) : Type 0 where
    pub place : IsPlace n k p (seats.Own old)
    pub router : old.router ≡ own.router
    pub cost : old.cost ≡ own.cost
    pub via : old.via ≡ own.via
    pub how : own_where free old ≡ own

  pub was_own : (k p : ℕ) (own : OwnPrefix) → IsPlace (network_where free n) k p (seats.Own own) → (old : OwnPrefix) × WasOwn k p own old
  was_own k p own h =
      let (seat, is, same) = was_place k p (seats.Own own) h in
      let (old, at, how) = own_seat seat own same in
      (old, record { place = subst (IsPlace n k p) at is; router = kept_part (λ o. o.router) (λ o. refl) old how; cost = kept_part (λ o. o.cost) (λ o. refl) old how; via = grind arith; how = how })
    where
      kept_part : (see : OwnPrefix → ℕ) → ((o : OwnPrefix) → see (record o { kept = true; link = None }) ≡ see o) → (old : OwnPrefix) → own_where free old ≡ own → see old ≡ see own
      kept_part see part old how =
          elim (cases_Bool (option_map_or free old.link true)) [
            | inl e ↦ ap see (rw e at how)
            | inr e ↦ sym (part old) ∙ ap see (rw e at how)
          ]

  -- ---- what is attached, and what is kept

  pub was_attached : (r p l : ℕ) → IsAttached (network_where free n) r p l → IsAttached n r p l × (free l ≡ true)
  was_attached r p l (k, h) =
      let (old, is) = was_own k p h.own h.place in
      elim (cases_Bool (option_map_or free old.link true)) [
        | inl e ↦
            let same : old ≡ h.own = rw e at is.how in
            let link : old.link ≡ Some l = ap (λ (o : OwnPrefix). o.link) same ∙ h.says in
            ((k, record { own = old; place = is.place; router = is.router ∙ h.router; says = link }), rw link at e)
        | inr e ↦
            let same : record old { kept = true; link = None } ≡ h.own = rw e at is.how in
            absurd (none-some l (ap (λ (o : OwnPrefix). o.link) same ∙ h.says))
      ]

  pub stays_attached : (r p l : ℕ) → IsAttached n r p l → free l ≡ true → IsAttached (network_where free n) r p l
  stays_attached r p l (k, h) e =
      let is_free : option_map_or free h.own.link true ≡ true = rw h.says e in
      let same : own_where free h.own ≡ h.own = rw is_free refl in
      (k, record { own = h.own; place = subst (λ (o : OwnPrefix). IsPlace (network_where free n) k p (seats.Own o)) same (stays_place k p (seats.Own h.own) h.place); router = h.router; says = h.says })

  pub was_kept : (r p : ℕ) → IsKept (network_where free n) r p → IsKept n r p
  was_kept r p (inr (l, at)) = inr (l, (was_attached r p l at).0)
  was_kept r p (inl (k, h)) =
      let (old, is) = was_own k p h.own h.place in
      elim (cases_Bool (option_map_or free old.link true)) [
        | inl e ↦
            let same : old ≡ h.own = rw e at is.how in
            inl (k, record { own = old; place = is.place; router = is.router ∙ h.router; says = ap (λ (o : OwnPrefix). o.kept) same ∙ h.says })
        | inr e ↦ by_link old is.place (is.router ∙ h.router) old.link refl e
      ]
    where
      by_link : (old : OwnPrefix) → IsPlace n k p (seats.Own old) → old.router ≡ r → (link : Option ℕ) → old.link ≡ link → option_map_or free link true ≡ false → IsKept n r p
      by_link old place router None is e = absurd cc
      by_link old place router (Some l) is e = inr (l, (k, record { own = old; place = place; router = router; says = is }))

  pub stays_kept : (r p : ℕ) → IsKept n r p → IsKept (network_where free n) r p
  stays_kept r p (inl (k, h)) =
      elim (cases_Bool (option_map_or free h.own.link true)) [
        | inl e ↦ let same : own_where free h.own ≡ h.own = rw e refl in inl (k, own_at k h.own h.own same h.place h.router h.says)
        | inr e ↦ let same : own_where free h.own ≡ record h.own { kept = true; link = None } = rw e refl in inl (k, own_at k h.own _ same h.place h.router refl)
      ]
    where
      own_at : (k : ℕ) (old own : OwnPrefix) → own_where free old ≡ own → IsPlace n k p (seats.Own old) → own.router ≡ r → own.kept ≡ true → IsOwnWith (network_where free n) k p r (λ o. o.kept ≡ true)
      own_at k old own same place router kept =
          record { own = own; place = subst (λ (o : OwnPrefix). IsPlace (network_where free n) k p (seats.Own o)) same (stays_place k p (seats.Own old) place); router = router; says = kept }
  stays_kept r p (inr (l, (k, h))) =
      elim (cases_Bool (free l)) [
        | inl e ↦ inr (l, stays_attached r p l (k, h) e)
        | inr e ↦
            let shut : option_map_or free h.own.link true ≡ false = rw h.says e in
            let same : own_where free h.own ≡ record h.own { kept = true; link = None } = rw shut refl in
            inl (k, record { own = record h.own { kept = true; link = None }; place = subst (λ (o : OwnPrefix). IsPlace (network_where free n) k p (seats.Own o)) same (stays_place k p (seats.Own h.own) h.place); router = h.router; says = refl })
      ]

  -- ---- who has a prefix itself

  pub was_owned : (k p r c : ℕ) → IsOwnAt (network_where free n) k p r c → IsOwnAt n k p r c
  was_owned k p r c h = let (old, is) = was_own k p h.own h.place in record { own = old; place = is.place; router = is.router ∙ h.router; says = is.cost ∙ h.says }

  pub stays_owned : (k p r c : ℕ) → IsOwnAt n k p r c → IsOwnAt (network_where free n) k p r c
  stays_owned k p r c h =
      elim (cases_Bool (option_map_or free h.own.link true)) [
        | inl e ↦ let same : own_where free h.own ≡ h.own = rw e refl in owned_at h.own same h.router h.says
        | inr e ↦ let same : own_where free h.own ≡ record h.own { kept = true; link = None } = rw e refl in owned_at _ same h.router h.says
      ]
    where
      owned_at : (own : OwnPrefix) → own_where free h.own ≡ own → own.router ≡ r → own.cost ≡ c → IsOwnAt (network_where free n) k p r c
      owned_at own same router cost =
          record { own = own; place = subst (λ (o : OwnPrefix). IsPlace (network_where free n) k p (seats.Own o)) same (stays_place k p (seats.Own h.own) h.place); router = router; says = cost }

-- a router of the plan touches what it touched
pub was_touched : (n : Network) (free : ℕ → Bool) (k p r c : ℕ) → r < length n.routers → Touches (network_where free n) k p r c → Touches n k p r c
was_touched n free k p r c lt (inr own) = inr (was_owned n free k p r c own)
was_touched n free k p r c lt (inl (l, place, (i, is))) =
    let (s, its, whose) = was_connected n free i r l c is in
    elim whose [
      | inl (e, same) ↦ inl (l, was_carried n free k p l place, (i, subst (λ (q : ℕ). IsConnected n i q l c) same its))
      | inr (e, past) ↦ absurd (omega (arith, lt, past))
    ]

pub was_direct : (n : Network) (free : ℕ → Bool) (r p c : ℕ) → r < length n.routers → IsDirect (network_where free n) r p c → IsDirect n r p c
was_direct n free r p c lt (k, touch) = (k, was_touched n free k p r c lt touch)

-- what is left of a network of which each interface has a router
module _ (n : Network) (laws : IsNetwork n) (router_known : (i r l c : ℕ) → IsInterface n i r l c → r < length n.routers) (free : ℕ → Bool) where
  pub kept_direct : (r p c : ℕ) → ((l : ℕ) → Carries n l p → free l ≡ true) → IsDirect n r p c → IsDirect (network_where free n) r p c
  kept_direct r p c carrier (k, inr own) = (k, inr (stays_owned n free k p r c own))
  kept_direct r p c carrier (k, inl (l, place, (i, at))) =
      (k, inl (l, stays_carried n free k p l place, (i, stays_connected n free i r l c at (carrier l (k, place)))))

  on_known : (r l : ℕ) → IsOn (network_where free n) r l → free l ≡ true → r < length n.routers
  on_known r l (c, (i, h)) e =
      let (s, is, whose) = was_interface n free i r l c h in
      elim whose [ inl (e, same) ↦ let lt = router_known i s l c is in omega (arith, lt, same) | inr (shut, past) ↦ absurd (both_ways (free l) shut e) ]

  on_open : (r l : ℕ) → r < length n.routers → IsOn (network_where free n) r l → free l ≡ true
  on_open r l lt (c, (i, h)) = (its_own n free i r l c lt h).1

  attached_there : (r p l : ℕ) → IsAttached (network_where free n) r p l → IsOn (network_where free n) r l
  attached_there r p l at =
      let (was, e) = was_attached n free r p l at in
      let (c, (i, is)) = laws.attached_there r p l was in
      (c, (i, stays_interface n free i r l c is e))

  one_on_link : (i j r l c d : ℕ) → IsInterface (network_where free n) i r l c → IsInterface (network_where free n) j r l d → i ≡ j
  one_on_link i j r l c d h g =
      let (s, is, whose) = was_interface n free i r l c h in
      let (t, its, others) = was_interface n free j r l d g in
      let same : s ≡ t = elim whose [
        | inl (e, one) ↦ elim others [ inl (f, two) ↦ one ∙ sym two | inr (f, two) ↦ absurd (both_ways (free l) f e) ]
        | inr (e, one) ↦ elim others [ inl (f, two) ↦ absurd (both_ways (free l) e f) | inr (f, two) ↦ omega (arith, one, two) ]
      ] in
      laws.one_on_link i j t l c d (subst (λ (q : ℕ). IsInterface n i q l c) same is) its

  direct_most : (i r l c d : ℕ) → IsInterface (network_where free n) i r l c → IsConnected (network_where free n) i r l d → d ≤ c
  direct_most i r l c d h g =
      let (s, is, whose) = was_interface n free i r l c h in
      let (t, its, others) = was_connected n free i r l d g in
      let same : its.interface ≡ is.interface = same_Some _ _ (sym its.listed ∙ is.listed) in
      laws.direct_most i s l c d is (record { interface = its.interface; listed = its.listed; router = ap (λ (x : Interface). x.router) same ∙ is.router; link = its.link; direct = its.direct })

  touched_once : (k j p r c d : ℕ) → Touches (network_where free n) k p r c → Touches (network_where free n) j p r d → k ≡ j
  touched_once k j p r c d h g = by_place (touched k c h) (touched j d g)
    where
      -- a place that is touched by a router of the plan, or by none, is touched by that router or by the one that had the interface
      touched : (k c : ℕ) → Touches (network_where free n) k p r c → ((r < length n.routers) × Touches n k p r c) ⊎ ((s : ℕ) × (r ≡ length n.routers + s) × Touches n k p s c)
      touched k c (inr own) = let was = was_owned n free k p r c own in inl (laws.owner_known k p r c was, inr was)
      touched k c (inl (l, place, (i, is))) =
          let (s, its, whose) = was_connected n free i r l c is in
          let on : Touches n k p s c = inl (l, was_carried n free k p l place, (i, its)) in
          let lt : s < length n.routers = router_known i s l its.interface.cost (record { interface = its.interface; listed = its.listed; router = its.router; link = its.link; cost = refl }) in
          elim whose [
            | inl (e, same) ↦ inl (omega (arith, lt, same), subst (λ (q : ℕ). Touches n k p q c) same on)
            | inr (e, past) ↦ inr (s, past, on)
          ]

      by_place : ((r < length n.routers) × Touches n k p r c) ⊎ ((s : ℕ) × (r ≡ length n.routers + s) × Touches n k p s c)
          → ((r < length n.routers) × Touches n j p r d) ⊎ ((s : ℕ) × (r ≡ length n.routers + s) × Touches n j p s d) → k ≡ j
      by_place (inl (lt, a)) (inl (le, e)) = laws.touched_once k j p r c d a e
      by_place (inl (lt, a)) (inr (s, past, e)) = absurd (omega (arith, lt, past))
      by_place (inr (s, past, a)) (inl (lt, e)) = absurd (omega (arith, lt, past))
      by_place (inr (s, past, a)) (inr (t, beyond, e)) =
          let same : s ≡ t = omega (arith, past, beyond) in
          laws.touched_once k j p t c d (subst (λ (q : ℕ). Touches n k p q c) same a) e

  pub network_kept : IsNetwork (network_where free n)
  network_kept = record {
    few_links = laws.few_links;
    few_routers = laws.few_routers;
    few_places = let same : length (map (place_where free) n.places) ≡ length n.places = length-map n.places (place_where free) in omega (arith, same, laws.few_places);
    neighbour_known = λ r l s lt near. on_known s l near.there (on_open r l lt near.here);
    link_known = λ i r l c h. let (s, is, whose) = was_interface n free i r l c h in laws.link_known i s l c is;
    cost_least = λ i r l c h. let (s, is, whose) = was_interface n free i r l c h in laws.cost_least i s l c is;
    cost_most = λ i r l c h. let (s, is, whose) = was_interface n free i r l c h in laws.cost_most i s l c is;
    one_on_link = one_on_link;
    direct_least = λ i r l d h. let (s, is, whose) = was_connected n free i r l d h in laws.direct_least i s l d is;
    direct_most = direct_most;
    prefix_known = λ k p seat h. let (old, is, same) = was_place n free k p seat h in laws.prefix_known k p old is;
    owner_known = λ k p r c h. laws.owner_known k p r c (was_owned n free k p r c h);
    own_cost_least = λ k p r c h. laws.own_cost_least k p r c (was_owned n free k p r c h);
    own_cost_most = λ k p r c h. laws.own_cost_most k p r c (was_owned n free k p r c h);
    attached_there = attached_there;
    touched_once = touched_once;
  }

-- the network of the plan
pub plan_network : (n : Network) → IsLawful n → IsNetwork n
plan_network n laws = record {
  few_links = laws.few_links;
  few_routers = laws.few_routers;
  few_places = laws.few_places;
  neighbour_known = λ r l s lt near. laws.router_known near.there.1.0 s l near.there.0 near.there.1.1;
  link_known = laws.link_known;
  cost_least = laws.cost_least;
  cost_most = laws.cost_most;
  one_on_link = laws.one_on_link;
  direct_least = laws.direct_least;
  direct_most = laws.direct_most;
  prefix_known = laws.prefix_known;
  owner_known = laws.owner_known;
  own_cost_least = laws.own_cost_least;
  own_cost_most = laws.own_cost_most;
  attached_there = laws.attached_there;
  touched_once = laws.touched_once;
}

module _ (n : Network) (laws : IsLawful n) (b : Block) where
  -- a link of the prefix exchanges it
  pub carrier_open : (l p : ℕ) → IsPrefix n p b → Carries n l p → exchanges n b l ≡ true
  carrier_open l p is on = (exchange n laws b l).1 (inr (inr (p, is, on)))

  pub stays_direct : (r p c : ℕ) → IsPrefix n p b → IsDirect n r p c → IsDirect (network_for n b) r p c
  stays_direct r p c is direct = kept_direct n (plan_network n laws) laws.router_known (exchanges n b) r p c (λ l on. carrier_open l p is on) direct

  pub prefix_network : IsNetwork (network_for n b)
  prefix_network = network_kept n (plan_network n laws) laws.router_known (exchanges n b)
