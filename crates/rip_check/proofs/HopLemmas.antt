-- Who has an address of a next hop.
use Rattle.std.proofs.Common.{◌≡◌, ◌↔◌, ℕ, ◌+◌, ◌<◌, ◌≤◌, ◌⊎◌, inl, inr, true, List, ◌∷◌, Option, None, Some, IfSome, Contains, get_or, length, refl, sym, subst, ap, ◌∙◌, arith}
use Rattle.std.proofs.lemmas.Bool.{cases_Bool, cases_lt}
use Rattle.std.specs.List.Sorted.{IsStrictlyIncreasing}
use Rattle.std.proofs.lemmas.List.{get_or_default}
use Rattle.std.proofs.lemmas.List.Elements.{Contains-get_or}
use Rattle.std.proofs.lemmas.Option.{none-some, same_Some, slice_get_within}
use Rattle.std.specs.Option.{option_map_or}
use Rattle.rip_wire.specs.Prefix.{Block}
use Rattle.rip_plan.specs.Network.{Network}
use Rattle.rip_plan.specs.PrefixNetworks.{IsNetwork, exchanges, interface_where, network_for, own_where}
use Rattle.rip_plan.specs.Relations.{Exchanges, HasAddress, HasCost, IsGateway, IsGatewayAt, IsInterface, IsLawful, IsNeighbour, IsOn, IsPlace}
use Rattle.rip_plan.specs.declared.parts.Interface.{Interface}
use Rattle.rip_plan.specs.declared.parts.OwnPrefix.{OwnPrefix}
use Rattle.rip_plan.specs.declared.parts.Place.{Place}
use Rattle.rip_plan.specs.declared.parts.Seat.TheVariants.{Own}
use Rattle.rip_plan.proofs.ItemLemmas.{get_seen, see_got}
use Rattle.rip_plan.proofs.PrefixNetworkLemmas.{stays_place, was_own}
use Rattle.rip_table.specs.State.{State}
use Rattle.rip_check.specs.Tables.{Offers}
use Rattle.rip_check.proofs.AcrossLemmas.{heard_from}
use Rattle.rip_check.specs.OwnTells.{HasHop, HasHopAt, IsHadOn}
use Rattle.rip_check.specs.Firsts.{IsLeastOf}
use Rattle.rip_check.specs.ToldCells.{HasAddressAcross, HasGatewayAcross, HasHopAcross}
use Rattle.rip_check.proofs.NetLemmas.{here, its_on, on_here, on_known, open_interface}
use Rattle.rip_check.proofs.OwnedLemmas.{ascends_below, each_more, every, its_link, its_own, within}

-- the least number of a kind
known : (Is : ℕ → Type 0) (o : Option ℕ) → IsLeastOf Is o → (j : ℕ) → Is j → (k : ℕ) × (o ≡ Some k) × (k ≤ j)
known Is None least j is = absurd (least j is)
known Is (Some k) least j is = (k, refl, least.1 j is)

least_is : (Is : ℕ → Type 0) (o : Option ℕ) → IsLeastOf Is o → (j : ℕ) → o ≡ Some j → Is j
least_is Is None least j e = absurd (none-some j e)
least_is Is (Some k) least j e = subst Is (same_Some k j e) least.0

only_least : {Is : ℕ → Type 0} (o : Option ℕ) → ((j : ℕ) → (o ≡ Some j) ↔ Is j) → IsLeastOf Is o
only_least None exact = λ j is. none-some j ((exact j).1 is)
only_least (Some k) exact = ((exact k).0 refl, λ i is. let e : k ≡ i = same_Some k i ((exact i).1 is) in omega (arith, e))

least_where : {Is Same : ℕ → Type 0} (o : Option ℕ) → IsLeastOf Is o → ((j : ℕ) → Is j → Same j) → ((j : ℕ) → Same j → Is j) → IsLeastOf Same o
least_where None least to from = λ j same. least j (from j same)
least_where (Some k) least to from = (to k least.0, λ i same. least.1 i (from i same))

-- the lesser of the least of a kind and of the one of another is the least of both
least_more : {Is Other Both : ℕ → Type 0} (o b first : Option ℕ) → IsLeastOf Is o → ((j : ℕ) → (b ≡ Some j) ↔ Other j) → IsLeastOf (λ j. (o ≡ Some j) ⊎ (b ≡ Some j)) first
    → ((j : ℕ) → Both j → Is j ⊎ Other j) → ((j : ℕ) → Is j ⊎ Other j → Both j) → IsLeastOf Both first
least_more o b None least exact lesser from to = λ j both.
    elim (from j both) [
      | inl is ↦ let (k, e, le) = known _ o least j is in lesser k (inl e)
      | inr other ↦ lesser j (inr ((exact j).1 other))
    ]
least_more o b (Some m) least exact lesser from to = (
  to m (elim lesser.0 [ inl e ↦ inl (least_is _ o least m e) | inr e ↦ inr ((exact m).0 e) ]),
  λ i both.
      elim (from i both) [
        | inl is ↦ let (k, e, le) = known _ o least i is in omega (arith, lesser.1 k (inl e), le)
        | inr other ↦ lesser.1 i (inr ((exact i).1 other))
      ],
)

pub holder_is_across : (n : Network) (r l p a j : ℕ) → HasAddressAcross n r l a j → HasHopAcross n r l p a j
holder_is_across n r l p a j h = (h.router, h.other, ((h.cost, h.its), inl h.has))

-- the interface has the address itself, or its router has it as gateway at one of the first k of these places
abbrev pub IsAcrossBefore : Network → ℕ → ℕ → ℕ → List ℕ → ℕ → ℕ → Type 0
IsAcrossBefore n r l a numbers k j = HasAddressAcross n r l a j ⊎ ((m : ℕ) × (m < k) × HasGatewayAcross n r l a (get_or numbers m 0) j)

-- the number that an exact look-up of interfaces finds is one of the plan
pub found_within : {Is : ℕ → Type 0} (n : Network) (o : Option ℕ) → ((j : ℕ) → (o ≡ Some j) ↔ Is j) → ((j : ℕ) → Is j → (s l c : ℕ) × IsInterface n j s l c) → IfSome o (λ j. j < length n.interfaces)
found_within n None exact its = tt
found_within n (Some j) exact its = let (s, l, c, is) = its j ((exact j).0 refl) in within n j s l c is

-- the numbers of the places that have a gateway for a prefix
module _ (n : Network) (r l p a : ℕ) (numbers : List ℕ) (exact : (k : ℕ) → Contains numbers k ↔ ((s b : ℕ) × IsGatewayAt n k p s b)) where
  abbrev Before : ℕ → ℕ → Type 0
  Before = IsAcrossBefore n r l a numbers

  pub place_within : (k : ℕ) → k < length numbers → get_or numbers k 0 < length n.places
  place_within k lt =
      let (s, b, has) = (exact (get_or numbers k 0)).0 (Contains-get_or numbers k 0 lt) in
      slice_get_within n.places (get_or numbers k 0) (record { prefix = p; seat = Own has.own }) has.place.listed

  pub gateway_listed : (k j : ℕ) → k < length numbers → HasGatewayAcross n r l a (get_or numbers k 0) j → HasHopAcross n r l p a j
  gateway_listed k j lt h =
      let (s, b, has) = (exact (get_or numbers k 0)).0 (Contains-get_or numbers k 0 lt) in
      let same : h.prefix ≡ p = ap (λ (q : Place). q.prefix) (same_Some _ _ (sym h.has.place.listed ∙ has.place.listed)) in
      (h.router, h.other, ((h.cost, h.its), inr (get_or numbers k 0, rw same at h.has)))

  pub across_listed : (k j : ℕ) → length numbers ≤ k → HasHopAcross n r l p a j → Before k j
  across_listed k j end (s, other, ((c, its), inl has)) = inl (record { router = s; cost = c; other = other; its = its; has = has })
  across_listed k j end (s, other, ((c, its), inr (place, has))) =
      let there : Contains numbers place = (exact place).1 (s, a, has) in
      let at : get_or numbers there.0 0 ≡ place = get_or_default numbers there.0 0 place there.1 ∙ there.2 in
      let gateway : HasGatewayAcross n r l a place j = record { router = s; cost = c; prefix = p; other = other; its = its; has = has } in
      inr (there.0, omega (arith, there.1, end), rw (sym at) at gateway)

  -- the least so far: before the first place, with one more, and of all
  pub first_holder : (o : Option ℕ) → ((j : ℕ) → (o ≡ Some j) ↔ HasAddressAcross n r l a j) → IsLeastOf (Before 0) o
  first_holder o is = least_where o (only_least o is) (λ j h. inl h) (λ j h. elim h [ inl holder ↦ holder | inr g ↦ absurd (omega (arith, g.1)) ])

  pub first_more : (k : ℕ) (o b first : Option ℕ) → IsLeastOf (Before k) o → ((j : ℕ) → (b ≡ Some j) ↔ HasGatewayAcross n r l a (get_or numbers k 0) j)
      → IsLeastOf (λ j. (o ≡ Some j) ⊎ (b ≡ Some j)) first → IsLeastOf (Before (k + 1)) first
  first_more k o b first least is lesser = least_more o b first least is lesser from to
    where
      from : (j : ℕ) → Before (k + 1) j → Before k j ⊎ HasGatewayAcross n r l a (get_or numbers k 0) j
      from j (inl holder) = inl (inl holder)
      from j (inr (m, lt, gateway)) =
          elim (cases_lt m k) [
            | inl less ↦ inl (inr (m, less, gateway))
            | inr big ↦ let e : m ≡ k = omega (arith, lt, big) in inr (rw e at gateway)
          ]

      to : (j : ℕ) → Before k j ⊎ HasGatewayAcross n r l a (get_or numbers k 0) j → Before (k + 1) j
      to j (inl (inl holder)) = inl holder
      to j (inl (inr (m, lt, gateway))) = inr (m, omega (arith, lt), gateway)
      to j (inr gateway) = inr (k, omega arith, gateway)

  pub first_of_all : (k : ℕ) (o : Option ℕ) → length numbers ≤ k → k ≤ length numbers → IsLeastOf (Before k) o → IsLeastOf (HasHopAcross n r l p a) o
  first_of_all k o end within least =
      least_where o least
      (λ j h. elim h [ inl holder ↦ holder_is_across n r l p a j holder | inr g ↦ gateway_listed g.0 j (omega (arith, g.1, within)) g.2 ])
      (λ j h. across_listed k j end h)

-- whose an interface is that has the address
pub hop_router : (n : Network) (j s t l m p a c : ℕ) → IsInterface n j s m c → HasHopAt n j t l p a → t ≡ s
hop_router n j s t l m p a c its has = (its_link n j t l has.0.0 s m c has.0.1 its).0

-- a neighbour has it where an interface across does
pub had_across : (n : Network) (r l c p a j : ℕ) → HasCost n r l c → HasHopAcross n r l p a j → IsHadOn n r p a l
had_across n r l c p a j own (s, other, has) = (s, record { neighbour = record { other = other; here = (c, own); there = (has.0.0, (j, has.0.1)) }; has = (j, has) })

pub not_had : (n : Network) (r l p a : ℕ) → ((j : ℕ) → HasHopAcross n r l p a j → ⊥) → IsHadOn n r p a l → ⊥
not_had n r l p a none (s, hop) = none hop.has.0 (s, hop.neighbour.other, hop.has.1)

-- Of the links of router r's interfaces at the places before k: this is the one on which the address is had, or it is had on none.
pub record IsOneSoFar (n : Network) (r : ℕ) (Had : ℕ → Type 0) (numbers : List ℕ) (k : ℕ) (found : Option ℕ) : Type 0 where
  pub none : found ≡ None → (j l c : ℕ) → j < k → IsInterface n (get_or numbers j 0) r l c → Had l → ⊥
  pub some : (l : ℕ) → found ≡ Some l → ((j c : ℕ) × (j < k) × IsInterface n (get_or numbers j 0) r l c) × Had l
  pub one : (m : ℕ) → found ≡ Some m → (j l c : ℕ) → j < k → IsInterface n (get_or numbers j 0) r l c → Had l → l ≡ m

-- the numbers of the interfaces of a router, and the links on which neighbours have the address
module _ (n : Network) (r : ℕ) (Had : ℕ → Type 0) (numbers : List ℕ) (exact : (i : ℕ) → Contains numbers i ↔ ((l c : ℕ) × IsInterface n i r l c)) where
  -- one more on which it is not had
  pub one_without : (k : ℕ) (own : Interface) (found : Option ℕ) → IsInterface n (get_or numbers k 0) own.router own.link own.cost → IsOneSoFar n r Had numbers k found →
      (Had own.link → ⊥) → IsOneSoFar n r Had numbers (k + 1) found
  one_without k own found is was not = record {
    none = λ e. each_more n r numbers exact (λ j l. Had l → ⊥) k own is (was.none e) not;
    some = λ l e. let h = was.some l e in ((h.0.0, h.0.1, omega (arith, h.0.2), h.0.3), h.1);
    one = λ m e. each_more n r numbers exact (λ j l. Had l → l ≡ m) k own is (was.one m e) (λ had. absurd (not had));
  }

  -- the first on which it is had
  pub one_with : (k : ℕ) (own : Interface) → k < length numbers → IsInterface n (get_or numbers k 0) own.router own.link own.cost → IsOneSoFar n r Had numbers k None →
      Had own.link → IsOneSoFar n r Had numbers (k + 1) (Some own.link)
  one_with k own lt is was had = record {
    none = λ e. cc e;
    some = λ l e.
        let e' : own.link ≡ l = cc e in
        ((k, own.cost, omega arith, rw e' at (its_own n r numbers exact k own lt is)), subst Had e' had);
    one = λ m e.
        let e' : own.link ≡ m = cc e in
        each_more n r numbers exact (λ j l. Had l → l ≡ m) k own is (λ j l c lt its other. absurd (was.none refl j l c lt its other)) (λ here. e');
  }

  -- a second one
  pub not_one : IsLawful n → IsStrictlyIncreasing numbers → (k m l : ℕ) (own : Interface) → k < length numbers → IsInterface n (get_or numbers k 0) own.router own.link own.cost →
      IsOneSoFar n r Had numbers k (Some m) → Had own.link → ((q : ℕ) → Had q → q ≡ l) → ⊥
  not_one plan ascending k m l own lt is was had only =
      let first = was.some m refl in
      let e : own.link ≡ m = only own.link had ∙ sym (only m first.1) in
      let its : IsInterface n (get_or numbers k 0) r m own.cost = rw e at (its_own n r numbers exact k own lt is) in
      let same = plan.one_on_link (get_or numbers first.0.0 0) (get_or numbers k 0) r m first.0.1 own.cost first.0.3 its in
      omega (arith, ascends_below numbers ascending first.0.0 k first.0.2 lt, same)

  -- of all links
  pub one_of_all : ((q : ℕ) → Had q → IsOn n r q) → (k : ℕ) (found : Option ℕ) → length numbers ≤ k → IsOneSoFar n r Had numbers k found → (l : ℕ) →
      (found ≡ Some l) ↔ (Had l × ((q : ℕ) → Had q → q ≡ l))
  one_of_all on k found end was l = (
    λ e. ((was.some l e).1, λ q had. every n r numbers exact (λ j q. Had q → q ≡ l) k end (was.one l e) (on q had).1.0 q (on q had).0 (on q had).1.1 had),
    λ h. back found was h,
  )
    where
      back : (found : Option ℕ) → IsOneSoFar n r Had numbers k found → Had l × ((q : ℕ) → Had q → q ≡ l) → found ≡ Some l
      back None was h = absurd (every n r numbers exact (λ j q. Had q → ⊥) k end (was.none refl) (on l h.0).1.0 l (on l h.0).0 (on l h.0).1.1 h.0)
      back (Some m) was h = ap Some (h.1 m (was.some m refl).1)

-- who has an address in the network of a prefix
module _ (n : Network) (laws : IsLawful n) (b : Block) where
  gateway_was : (r p a : ℕ) → IsGateway (network_for n b) r p a → IsGateway n r p a
  gateway_was r p a (k, h) =
      let (old, is) = was_own n (exchanges n b) k p h.own h.place in
      (k, record { own = old; place = is.place; router = is.router ∙ h.router; says = is.via ∙ h.says })

  gateway_stays : (r p a : ℕ) → IsGateway n r p a → IsGateway (network_for n b) r p a
  gateway_stays r p a (k, h) =
      elim (cases_Bool (option_map_or (exchanges n b) h.own.link true)) [
        | inl e ↦ let same : own_where (exchanges n b) h.own ≡ h.own = rw e refl in at h.own same h.router h.says
        | inr e ↦ let same : own_where (exchanges n b) h.own ≡ record h.own { kept = true; link = None } = rw e refl in at _ same h.router h.says
      ]
    where
      at : (own : OwnPrefix) → own_where (exchanges n b) h.own ≡ own → own.router ≡ r → own.via ≡ Some a → IsGateway (network_for n b) r p a
      at own same router via =
          (k, record { own = own; place = subst (λ (o : OwnPrefix). IsPlace (network_for n b) k p (Own o)) same (stays_place n (exchanges n b) k p (Own h.own) h.place); router = router; says = via })

  same_parts : (x y : Interface) → interface_where (exchanges n b) n x ≡ y → (x.link ≡ y.link) × (x.address ≡ y.address)
  same_parts x y e =
      elim (cases_Bool (exchanges n b x.link)) [
        | inl f ↦ let one : x ≡ y = rw f at e in (ap (λ (z : Interface). z.link) one, ap (λ (z : Interface). z.address) one)
        | inr f ↦
            let one : record x { router = length n.routers + x.router } ≡ y = rw f at e in
            (ap (λ (z : Interface). z.link) one, ap (λ (z : Interface). z.address) one)
      ]

  pub address_was : (j l a : ℕ) → HasAddress (network_for n b) j l a → HasAddress n j l a
  address_was j l a (addresses, h, listed) =
      let (x, at, same) = get_seen (interface_where (exchanges n b) n) n.interfaces j _ h.listed in
      let parts = same_parts x h.interface same in
      (addresses, record { interface = x; listed = at; link = parts.0 ∙ h.link; also = h.also; further = h.further; all = h.all ∙ ap (λ (y : ℕ). y ∷ h.also) (sym parts.1) }, listed)

  pub address_stays : (j l a : ℕ) → HasAddress n j l a → HasAddress (network_for n b) j l a
  address_stays j l a (addresses, h, listed) =
      let moved = interface_where (exchanges n b) n h.interface in
      let parts = same_parts h.interface moved refl in
      let at = see_got (interface_where (exchanges n b) n) n.interfaces j _ h.listed in
      (addresses, record { interface = moved; listed = at; link = sym parts.0 ∙ h.link; also = h.also; further = h.further; all = h.all ∙ ap (λ (y : ℕ). y ∷ h.also) parts.1 }, listed)

  pub hop_was : (j s l p a : ℕ) → Exchanges n l b → HasHopAt (network_for n b) j s l p a → HasHopAt n j s l p a
  hop_was j s l p a is ((c, at), how) =
      ((c, open_interface n laws b j s l c is at), elim how [ inl address ↦ inl (address_was j l a address) | inr gateway ↦ inr (gateway_was s p a gateway) ])

  pub hop_stays : (j s l p a : ℕ) → Exchanges n l b → HasHopAt n j s l p a → HasHopAt (network_for n b) j s l p a
  hop_stays j s l p a is ((c, at), how) =
      ((c, here n laws b j s l c at is), elim how [ inl address ↦ inl (address_stays j l a address) | inr gateway ↦ inr (gateway_stays s p a gateway) ])

  -- a router of the plan has such neighbours on links that exchange the prefix
  pub had_was : (r p a l : ℕ) → r < length n.routers → IsHadOn (network_for n b) r p a l → IsHadOn n r p a l × Exchanges n l b
  had_was r p a l lt (s, hop) =
      let (on, is) = its_on n laws b r l lt hop.neighbour.here in (
        (s, record { neighbour = record { other = hop.neighbour.other; here = on; there = on_known n laws b s l is hop.neighbour.there }; has = (hop.has.0, hop_was hop.has.0 s l p a is hop.has.1) }),
        is,
      )

  pub had_stays : (r p a l : ℕ) → Exchanges n l b → IsHadOn n r p a l → IsHadOn (network_for n b) r p a l
  had_stays r p a l is (s, hop) = (
    s,
    record {
      neighbour = record { other = hop.neighbour.other; here = on_here n laws b r l hop.neighbour.here is; there = on_here n laws b s l hop.neighbour.there is };
      has = (hop.has.0, hop_stays hop.has.0 s l p a is hop.has.1);
    },
  )

-- a neighbour of router r that has the address offers the metric exactly where an interface across gives it
module _ (n : Network) (laws : IsLawful n) (b : Block) (told : State) (r l p a m cost : ℕ) (net : IsNetwork (network_for n b)) (there : Exchanges n l b) (own : HasCost (network_for n b) r l cost) where
  pub across_offers : (j : ℕ) → HasHopAcross n r l p a j → m ≡ heard_from told cost j p → (s : ℕ) × HasHop (network_for n b) r l s p a × Offers (network_for n b) told r l s p m
  across_offers j (s, other, was) value =
      let has = hop_stays n laws b j s l p a there was in
      let neighbour : IsNeighbour (network_for n b) r l s = record { other = other; here = (cost, own); there = (has.0.0, (j, has.0.1)) } in (
        s,
        record { neighbour = neighbour; has = (j, has) },
        record { neighbour = neighbour; cost = cost; here = own; interface = j; its_cost = has.0.0; there = has.0.1; value = value },
      )

  pub offers_across : (s : ℕ) → HasHop (network_for n b) r l s p a → Offers (network_for n b) told r l s p m → (j : ℕ) × HasHopAcross n r l p a j × (m ≡ heard_from told cost j p)
  offers_across s hop o =
      let mine = net.one_on_link own.0 o.here.0 r l cost o.cost own.1 o.here.1 in
      let here : IsInterface (network_for n b) own.0 r l o.cost = rw (sym mine) at o.here.1 in
      let cost_is : o.cost ≡ cost = (its_link (network_for n b) own.0 r l o.cost r l cost here own.1).2 in
      let its = net.one_on_link hop.has.0 o.interface s l hop.has.1.0.0 o.its_cost hop.has.1.0.1 o.there in
      let has : HasHopAt (network_for n b) o.interface s l p a = rw its at hop.has.1 in
      (o.interface, (s, hop.neighbour.other, hop_was n laws b o.interface s l p a there has), rw cost_is at o.value)
