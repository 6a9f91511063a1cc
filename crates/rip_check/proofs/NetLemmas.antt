-- What a router of a plan has in the network of a prefix.
use Rattle.std.proofs.Common.{◌≡◌, ℕ, ◌+◌, ◌<◌, ◌↔◌, zero, suc, inl, inr, false, length, List, [], ◌∷◌, ◌++◌, Some, slice_get, refl, arith, ◌∙◌, ap, subst}
use Rattle.std.specs.List.{Contains}
use Rattle.std.proofs.lemmas.Bool.{both_ways, cases_Bool}
use Rattle.rip_wire.specs.Prefix.{Block}
use Rattle.rip_plan.specs.declared.parts.Interface.{Interface}
use Rattle.rip_plan.specs.Network.{Network}
use Rattle.rip_plan.specs.PrefixNetworks.{exchanges, interface_where, network_for}
use Rattle.rip_plan.proofs.ItemLemmas.{see_got}
use Rattle.rip_plan.specs.Relations.{Carries, Exchanges, HasCost, IsAttached, IsDirect, IsInterface, IsKept, IsLawful, IsLeaf, IsOn, IsPrefix}
use Rattle.rip_plan.proofs.PrefixNetworkLemmas.{exchange, its_own, kept_direct, plan_network, stays_attached, stays_carried, stays_interface, stays_kept, was_attached, was_carried, was_direct, was_interface, was_kept}
use Rattle.rip_table.specs.State.{Fits, State}
use Rattle.rip_check.specs.Networks.{block_at, network_at}
use Rattle.rip_check.specs.Tables.{MayHoldBack}
use Rattle.rip_check.proofs.OwnedLemmas.{its_link}

module _ (n : Network) (b : Block) where
  pub carried : (l p : ℕ) → Carries (network_for n b) l p ↔ Carries n l p
  carried l p = (λ h. (h.0, was_carried n (exchanges n b) h.0 p l h.1), λ h. (h.0, stays_carried n (exchanges n b) h.0 p l h.1))

  pub kept : (r p : ℕ) → IsKept (network_for n b) r p ↔ IsKept n r p
  kept r p = (was_kept n (exchanges n b) r p, stays_kept n (exchanges n b) r p)

module _ (n : Network) (laws : IsLawful n) (b : Block) where
  -- an interface is there, whosever it is
  pub some_here : (i r l c : ℕ) → IsInterface n i r l c → (s : ℕ) × IsInterface (network_for n b) i s l c
  some_here i r l c at =
      elim (cases_Bool (exchanges n b l)) [
        | inl e ↦ (r, stays_interface n (exchanges n b) i r l c at e)
        | inr e ↦ (length n.routers + r, past e)
      ]
    where
      past : exchanges n b l ≡ false → IsInterface (network_for n b) i (length n.routers + r) l c
      past e =
          let moved : interface_where (exchanges n b) n at.interface ≡ record at.interface { router = length n.routers + at.interface.router } = rw (ap (exchanges n b) at.link ∙ e) refl in
          record {
            interface = record at.interface { router = length n.routers + at.interface.router };
            listed = see_got (interface_where (exchanges n b) n) n.interfaces i _ at.listed ∙ ap Some moved;
            router = ap (λ (x : ℕ). length n.routers + x) at.router;
            link = at.link;
            cost = at.cost;
          }

  -- an interface on a link that exchanges the prefix stays
  pub here : (i r l c : ℕ) → IsInterface n i r l c → Exchanges n l b → IsInterface (network_for n b) i r l c
  here i r l c at is = stays_interface n (exchanges n b) i r l c at ((exchange n laws b l).1 is)

  -- and a router of the plan has no other
  pub its : (i r l c : ℕ) → r < length n.routers → IsInterface (network_for n b) i r l c → IsInterface n i r l c × Exchanges n l b
  its i r l c lt at = let was = its_own n (exchanges n b) i r l c lt at in (was.0, (exchange n laws b l).0 was.1)

  pub known : (i r l c : ℕ) → IsInterface n i r l c → r < length n.routers
  known i r l c at = laws.router_known i r l c at

  -- one that was the router's of the plan, by its number
  pub same_here : (i r l c s k d : ℕ) → IsInterface n i r l c → IsInterface (network_for n b) i s k d → l ≡ k
  same_here i r l c s k d at is =
      let (q, was, whose) = was_interface n (exchanges n b) i s k d is in
      (its_link n i r l c q k d at was).1

  pub on_here : (r l : ℕ) → IsOn n r l → Exchanges n l b → IsOn (network_for n b) r l
  on_here r l (c, (i, at)) is = (c, (i, here i r l c at is))

  pub its_on : (r l : ℕ) → r < length n.routers → IsOn (network_for n b) r l → IsOn n r l × Exchanges n l b
  its_on r l lt (c, (i, at)) = let was = its i r l c lt at in ((c, (i, was.0)), was.1)

  pub cost_here : (r l c : ℕ) → HasCost n r l c → Exchanges n l b → HasCost (network_for n b) r l c
  cost_here r l c (i, at) is = (i, here i r l c at is)

  pub its_cost : (r l c : ℕ) → r < length n.routers → HasCost (network_for n b) r l c → HasCost n r l c × Exchanges n l b
  its_cost r l c lt (i, at) = let was = its i r l c lt at in ((i, was.0), was.1)

  -- whoever is on a link that exchanges the prefix is a router of the plan
  pub on_known : (r l : ℕ) → Exchanges n l b → IsOn (network_for n b) r l → IsOn n r l
  on_known r l is (c, (i, at)) =
      let (s, was, whose) = was_interface n (exchanges n b) i r l c at in
      elim whose [
        | inl (e, same) ↦ (c, (i, subst (λ (q : ℕ). IsInterface n i q l c) same was))
        | inr (e, past) ↦ absurd (both_ways (exchanges n b l) e ((exchange n laws b l).1 is))
      ]

  pub open_interface : (i r l c : ℕ) → Exchanges n l b → IsInterface (network_for n b) i r l c → IsInterface n i r l c
  open_interface i r l c is at =
      let (s, was, whose) = was_interface n (exchanges n b) i r l c at in
      elim whose [
        | inl (e, same) ↦ subst (λ (q : ℕ). IsInterface n i q l c) same was
        | inr (e, past) ↦ absurd (both_ways (exchanges n b l) e ((exchange n laws b l).1 is))
      ]

  pub attached : (r p l : ℕ) → IsAttached (network_for n b) r p l ↔ (IsAttached n r p l × Exchanges n l b)
  attached r p l = (
    λ h. let was = was_attached n (exchanges n b) r p l h in (was.0, (exchange n laws b l).0 was.1),
    λ h. stays_attached n (exchanges n b) r p l h.0 ((exchange n laws b l).1 h.1),
  )

  -- a prefix that is carried is exchanged where it is
  pub direct : (r p c : ℕ) → r < length n.routers → ((l : ℕ) → Carries n l p → Exchanges n l b) → IsDirect (network_for n b) r p c ↔ IsDirect n r p c
  direct r p c lt free = (
    was_direct n (exchanges n b) r p c lt,
    kept_direct n (plan_network n laws) laws.router_known (exchanges n b) r p c (λ l on. (exchange n laws b l).1 (free l on)),
  )

  -- the interfaces of a link that exchanges the prefix are all there
  pub across_here : (l : ℕ) (numbers : List ℕ) → Exchanges n l b → ((i : ℕ) → Contains numbers i ↔ ((r c : ℕ) × IsInterface n i r l c)) →
      (i : ℕ) → Contains numbers i ↔ ((r c : ℕ) × IsInterface (network_for n b) i r l c)
  across_here l numbers is exact i = (
    λ h. let (r, c, at) = (exact i).0 h in (r, c, here i r l c at is),
    λ h. (exact i).1 (h.0, h.1, open_interface i h.0 l h.1 is h.2),
  )

  -- the one interface of a router, as it stands in the plan
  pub leaf_own : (i r l c : ℕ) (own : Interface) → r < length n.routers → IsLeaf (network_for n b) r i l c → IsInterface n i own.router own.link own.cost →
      (own.router ≡ r) × IsLeaf (network_for n b) r i own.link own.cost
  leaf_own i r l c own lt leaf at =
      let (router, link, cost) : (own.router ≡ r) × (own.link ≡ l) × (own.cost ≡ c) = its_link n i own.router own.link own.cost r l c at (its i r l c lt leaf.has).0 in
      (router, rw link (rw cost leaf))

-- the first prefixes of a table's list are the plan's
first_ones : (xs ys : List Block) (p : ℕ) → p < length xs → slice_get xs p ≡ Some (block_at (xs ++ ys) p)
first_ones [] ys p lt = absurd (omega (arith, lt))
first_ones (x ∷ xs) ys zero lt = refl
first_ones (x ∷ xs) ys (suc p) lt = first_ones xs ys p (omega (arith, lt))

module _ (n : Network) (laws : IsLawful n) (s : State) (fits : Fits n s) where
  pub planned : (p : ℕ) → p < length n.prefixes → IsPrefix n p (block_at s.prefixes p)
  planned p lt = rw fits.prefixes (first_ones n.prefixes fits.others p lt)

  -- a link of a prefix exchanges it
  pub carrier_open : (l p : ℕ) → Carries n l p → Exchanges n l (block_at s.prefixes p)
  carrier_open l p (k, place) = inr (inr (p, planned p (laws.prefix_known k p _ place), (k, place)))

  pub direct_at : (r p c : ℕ) → r < length n.routers → IsDirect (network_at n s.prefixes p) r p c ↔ IsDirect n r p c
  direct_at r p c lt = direct n laws (block_at s.prefixes p) r p c lt (λ l on. carrier_open l p on)

  pub hold_back_at : (r p l : ℕ) → MayHoldBack (network_at n s.prefixes p) r p l → Exchanges n l (block_at s.prefixes p)
  hold_back_at r p l (inl on) = carrier_open l p ((carried n (block_at s.prefixes p) l p).0 on)
  hold_back_at r p l (inr at) = ((attached n laws (block_at s.prefixes p) r p l).0 at).1

-- the prefix that is asked of a link is that of the number
pub exchanged : (n : Network) (p l : ℕ) (b : Block) → IsPrefix n p b → Exchanges n l b ↔ Exchanges n l (block_at n.prefixes p)
exchanged n p l b is = let same : block_at n.prefixes p ≡ b = rw is refl in (λ h. rw same h, λ h. rw same at h)
