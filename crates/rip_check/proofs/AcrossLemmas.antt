-- Loops over the interfaces on one link: what the neighbours there offer.
use Rattle.std.proofs.Common.{◌≡◌, ◌≢◌, ℕ, ◌+◌, ◌<◌, ◌≤◌, ◌⊎◌, ◌↔◌, zero, suc, inl, inr, List, Option, None, Some, get_or, length, min, slice_get, unwrap_or, refl, sym, ◌∙◌, ap, arith}
use Rattle.std.specs.List.{Contains}
use Rattle.std.proofs.lemmas.Bool.{cases_eq, cases_lt}
use Rattle.std.proofs.lemmas.List.{get_or_default}
use Rattle.std.proofs.lemmas.List.Elements.{Contains-get_or}
use Rattle.rip_plan.specs.declared.parts.Interface.{Interface}
use Rattle.rip_plan.specs.Network.{Network}
use Rattle.rip_plan.specs.Relations.{IsInterface, IsKept, HasCost, IsDirect}
use Rattle.rip_plan.specs.PrefixNetworks.{IsNetwork}
use Rattle.rip_table.specs.State.{State}
use Rattle.rip_check.specs.Settled.{IsChoice}
use Rattle.rip_check.specs.Tables.{Offers}
use Rattle.rip_check.specs.declared.links.TwoLeast.{TwoLeast}
use Rattle.rip_check.specs.TwoLeasts.{IsSeen, IsTwoLeast, shown_of}
use Rattle.rip_check.proofs.OwnedLemmas.{its_link, within}
use Rattle.rip_check.specs.Metrics.{metric_at}

-- what interface j offers over a link of this cost
abbrev pub heard_from : State → ℕ → ℕ → ℕ → ℕ
heard_from shown c j p = min 16 (c + unwrap_or (metric_at shown j p) 16)

module _ (n : Network) (l : ℕ) (numbers : List ℕ) (exact : (i : ℕ) → Contains numbers i ↔ ((r c : ℕ) × IsInterface n i r l c)) where
  across_at : (k : ℕ) → k < length numbers → (r c : ℕ) × IsInterface n (get_or numbers k 0) r l c
  across_at k lt = (exact (get_or numbers k 0)).0 (Contains-get_or numbers k 0 lt)

  pub across_number : (k : ℕ) → k < length numbers → get_or numbers k 0 < length n.interfaces
  across_number k lt = let h = across_at k lt in within n (get_or numbers k 0) h.0 l h.1 h.2

  -- what was read at a place
  pub across_own : (k : ℕ) (x : Interface) → k < length numbers → IsInterface n (get_or numbers k 0) x.router x.link x.cost → IsInterface n (get_or numbers k 0) x.router l x.cost
  across_own k x lt is =
      let h = across_at k lt in
      let same = its_link n (get_or numbers k 0) x.router x.link x.cost h.0 l h.1 is h.2 in
      rw same.1 at is

  pub across_place : (i r c : ℕ) → IsInterface n i r l c → (k : ℕ) × (k < length numbers) × (get_or numbers k 0 ≡ i)
  across_place i r c its =
      let h = (exact i).1 (r, c, its) in
      (h.0, h.1, get_or_default numbers h.0 0 i h.1 ∙ h.2)

  module _ (shown : State) (r cost p : ℕ) where
    -- no more than what the interfaces at the places before k offer to router r
    abbrev pub IsBelowBefore : ℕ → ℕ → Type 0
    IsBelowBefore best k =
        (j s d : ℕ) → j < k → IsInterface n (get_or numbers j 0) s l d → s ≢ r → best ≤ heard_from shown cost (get_or numbers j 0) p

    pub one_more : (k best next : ℕ) (x : Interface) → IsInterface n (get_or numbers k 0) x.router x.link x.cost → next ≤ best →
        (x.router ≢ r → next ≤ heard_from shown cost (get_or numbers k 0) p) → IsBelowBefore best k → IsBelowBefore next (k + 1)
    one_more k best next x is less here before j s d lt at other =
        elim (cases_lt j k) [
          | inl sooner ↦ omega (arith, less, before j s d sooner at other)
          | inr big ↦
              let e : j ≡ k = omega arith in
              let at' : IsInterface n (get_or numbers k 0) s l d = rw e at at in
              let same = its_link n (get_or numbers k 0) x.router x.link x.cost s l d is at' in
              let le : next ≤ heard_from shown cost (get_or numbers k 0) p = here (λ mine. other (sym same.0 ∙ mine)) in
              rw e le
        ]

    -- what the interface at place k offers is an offer
    pub is_offer : (k : ℕ) (x : Interface) (v : ℕ) → k < length numbers → IsInterface n (get_or numbers k 0) x.router x.link x.cost → x.router ≢ r → HasCost n r l cost →
        v ≡ heard_from shown cost (get_or numbers k 0) p → (s : ℕ) × Offers n shown r l s p v
    is_offer k x v lt is other own e =
        let there = across_own k x lt is in (
          x.router,
          record {
            neighbour = record { other = other; here = (cost, own); there = (x.cost, (get_or numbers k 0, there)) };
            cost = cost;
            here = own;
            interface = get_or numbers k 0;
            its_cost = x.cost;
            there = there;
            value = e;
          },
        )

    -- and there are no other offers
    pub below_offers : IsNetwork n → (k best : ℕ) → length numbers ≤ k → HasCost n r l cost → IsBelowBefore best k → (s v : ℕ) → Offers n shown r l s p v → best ≤ v
    below_offers plan k best end own below s v o =
        let place = across_place o.interface s o.its_cost o.there in
        let number = plan.one_on_link o.here.0 own.0 r l o.cost cost o.here.1 own.1 in
        let mine : IsInterface n own.0 r l o.cost = rw number at o.here.1 in
        let same = (its_link n own.0 r l o.cost r l cost mine own.1).2 in
        let there : IsInterface n (get_or numbers place.0 0) s l o.its_cost = rw place.2 o.there in
        let le = below place.0 s o.its_cost (omega (arith, place.1, end)) there o.neighbour.other in
        let le' : best ≤ heard_from shown cost o.interface p = rw place.2 at le in
        omega (arith, le', o.value, same)

-- the best so far stays a choice
pub still_chosen : (n : Network) (shown : State) (r p l best next : ℕ) → (IsKept n r p → ⊥) → IsChoice n shown r p best → (next ≡ best) ⊎ ((s : ℕ) × Offers n shown r l s p next) →
    IsChoice n shown r p next
still_chosen n shown r p l best next takes chosen (inl e) = rw e chosen
still_chosen n shown r p l best next takes chosen (inr o) = inr (inr (takes, (l, o.0, o.1)))

-- what is no more than 16, the direct cost and the offers over each link is no more than any choice
pub least_of : (n : Network) (shown : State) (r p best : ℕ) → best ≤ 16 → ((c : ℕ) → IsDirect n r p c → best ≤ c) →
    ((i l c : ℕ) → IsInterface n i r l c → (s v : ℕ) → Offers n shown r l s p v → best ≤ v) → (v : ℕ) → IsChoice n shown r p v → best ≤ v
least_of n shown r p best most direct offers v (inl e) = omega (arith, e, most)
least_of n shown r p best most direct offers v (inr (inl d)) = direct v d
least_of n shown r p best most direct offers v (inr (inr (takes, h))) = offers h.2.here.0 h.0 h.2.cost h.2.here.1 h.1 v h.2

-- and where the router keeps the prefix, what is no more than 16 and the direct cost
pub least_kept : (n : Network) (shown : State) (r p best : ℕ) → best ≤ 16 → ((c : ℕ) → IsDirect n r p c → best ≤ c) → IsKept n r p → (v : ℕ) → IsChoice n shown r p v → best ≤ v
least_kept n shown r p best most direct kept v (inl e) = omega (arith, e, most)
least_kept n shown r p best most direct kept v (inr (inl d)) = direct v d
least_kept n shown r p best most direct kept v (inr (inr h)) = absurd (h.0 kept)

-- ---- the two least metrics of a link

-- what counts for router r: the next one where the least is its own
abbrev pub IsFor : TwoLeast → ℕ → ℕ → Type 0
IsFor two r v = ((r ≡ two.by) × (v ≡ two.next)) ⊎ ((r ≡ two.by → ⊥) × (v ≡ two.least))

module _ (n : Network) (seen : ℕ → ℕ → ℕ → ℕ) (r l : ℕ) (two : TwoLeast) (is : IsTwoLeast n seen l (length n.interfaces) two) where
  -- no neighbour has less
  pub told_below : (v : ℕ) → IsFor two r v → (j s w : ℕ) → IsSeen n seen l j s w → s ≢ r → v ≤ w
  told_below v (inl h) j s w has other = omega (arith, h.1, is.others j s w (within n j s l has.cost has.its) has (λ e. other (e ∙ sym h.0)))
  told_below v (inr h) j s w has other = omega (arith, h.1, is.below j s w (within n j s l has.cost has.its) has)

  -- and one has it, if it is below 16
  pub told_seen : (v : ℕ) → IsFor two r v → v < 16 → (j s : ℕ) × IsSeen n seen l j s v × (s ≢ r)
  told_seen v for small = go for
    where
      next_one : r ≡ two.by → v ≡ two.next → (two.next ≡ 16) ⊎ ((j s : ℕ) × IsSeen n seen l j s two.next × (s ≢ two.by)) → (j s : ℕ) × IsSeen n seen l j s v × (s ≢ r)
      next_one mine is_next (inl big) = absurd (omega (arith, is_next, big, small))
      next_one mine is_next (inr h) = (h.0, h.1, rw is_next h.2, λ same. h.3 (same ∙ mine))

      least_one : (r ≡ two.by → ⊥) → v ≡ two.least → (two.least ≡ 16) ⊎ ((j : ℕ) × IsSeen n seen l j two.by two.least) → (j s : ℕ) × IsSeen n seen l j s v × (s ≢ r)
      least_one not_mine is_least (inl big) = absurd (omega (arith, is_least, big, small))
      least_one not_mine is_least (inr h) = (h.0, two.by, rw is_least h.1, λ same. not_mine (sym same))

      go : IsFor two r v → (j s : ℕ) × IsSeen n seen l j s v × (s ≢ r)
      go (inl h) = next_one h.0 h.1 is.next_is
      go (inr h) = least_one h.0 h.1 is.least_is

module _ (n : Network) (shown : State) (r l p cost : ℕ) (own : HasCost n r l cost) where
  -- what a neighbour offers is seen there
  pub offer_seen : IsNetwork n → (s w : ℕ) → (o : Offers n shown r l s p w) →
      (v : ℕ) × IsSeen n (shown_of shown p) l o.interface s v × (w ≡ min 16 (cost + v))
  offer_seen plan s w o =
      let number = plan.one_on_link o.here.0 own.0 r l o.cost cost o.here.1 own.1 in
      let mine : IsInterface n own.0 r l o.cost = rw number at o.here.1 in
      let same : o.cost ≡ cost = (its_link n own.0 r l o.cost r l cost mine own.1).2 in
      (unwrap_or (metric_at shown o.interface p) 16, record { cost = o.its_cost; its = o.there; value = refl }, rw same at o.value)

  -- and what is seen there is offered
  pub seen_offer : (j s v w : ℕ) → IsSeen n (shown_of shown p) l j s v → s ≢ r → w ≡ min 16 (cost + v) → (t : ℕ) × Offers n shown r l t p w
  seen_offer j s v w has other e = (
    s,
    record {
      neighbour = record { other = other; here = (cost, own); there = (has.cost, (j, has.its)) };
      cost = cost;
      here = own;
      interface = j;
      its_cost = has.cost;
      there = has.its;
      value = rw has.value at e;
    },
  )

  -- interface j offers v, or does not
  offered_by : (v j : ℕ) (o : Option Interface) → slice_get n.interfaces j ≡ o →
      ((s : ℕ) × Offers n shown r l s p v) ⊎ ((s d : ℕ) → IsInterface n j s l d → s ≢ r → v ≡ heard_from shown cost j p → ⊥)
  offered_by v j None at = inr (λ s d is other e. cc (at, is.listed))
  offered_by v j (Some x) at =
      let this : IsInterface n j x.router x.link x.cost = record { interface = x; listed = at; router = refl; link = refl; cost = refl } in
      elim (cases_eq x.link l) [
        | inr off ↦ inr (λ s d is other e. off (its_link n j x.router x.link x.cost s l d this is).1)
        | inl on ↦ elim (cases_eq x.router r) [
          | inl mine ↦ inr (λ s d is other e. other (sym (its_link n j x.router x.link x.cost s l d this is).0 ∙ mine))
          | inr other ↦ elim (cases_eq v (heard_from shown cost j p)) [
            | inr more ↦ inr (λ s d is not_mine e. more e)
            | inl e ↦ inl (seen_offer j x.router (unwrap_or (metric_at shown j p) 16) v (record { cost = x.cost; its = rw on at this; value = refl }) other e)
          ]
        ]
      ]

  -- some neighbour offers v, or none does
  pub offered_or_not : IsNetwork n → (v : ℕ) → ((s : ℕ) × Offers n shown r l s p v) ⊎ (((s : ℕ) × Offers n shown r l s p v) → ⊥)
  offered_or_not plan v = elim (below (length n.interfaces)) [
    | inl o ↦ inl o
    | inr none ↦ inr (λ o.
        let h = offer_seen plan o.0 v o.1 in
        none o.1.interface o.0 o.1.its_cost (within n o.1.interface o.0 l o.1.its_cost o.1.there) o.1.there o.1.neighbour.other (h.2 ∙ ap (λ (w : ℕ). min 16 (cost + w)) h.1.value))
  ]
    where
      below : (k : ℕ) → ((s : ℕ) × Offers n shown r l s p v)
          ⊎ ((j s d : ℕ) → j < k → IsInterface n j s l d → s ≢ r → v ≡ heard_from shown cost j p → ⊥)
      below zero = inr (λ j s d lt. absurd (omega (arith, lt)))
      below (suc k) = elim (below k) [
        | inl o ↦ inl o
        | inr none ↦ elim (offered_by v k (slice_get n.interfaces k) refl) [
          | inl o ↦ inl o
          | inr here ↦ inr (λ j s d lt is other e. elim (cases_lt j k) [
            | inl less ↦ none j s d less is other e
            | inr big ↦
                let same : j ≡ k = omega arith in
                here s d (rw same at is) other (rw same at e)
          ])
        ]
      ]
