-- Neighbours whose own address a next hop is, and what they offer.
use Rattle.std.proofs.Common.{◌≡◌, ℕ, ◌+◌, ◌<◌, ◌≤◌, ◌⊎◌, ◌↔◌, inl, inr, true, false, List, Contains, get_or, length, replicate, refl, sym, ◌∙◌, arith}
use Rattle.std.proofs.lemmas.Bool.{cases_lt}
use Rattle.rip_wire.specs.Prefix.{Block}
use Rattle.rip_plan.specs.Network.{Network}
use Rattle.rip_plan.specs.PrefixNetworks.{IsNetwork, network_for}
use Rattle.rip_plan.specs.Relations.{Exchanges, HasCost, IsInterface, IsLawful, IsNeighbour}
use Rattle.rip_plan.specs.declared.parts.Interface.{Interface}
use Rattle.rip_table.specs.State.{State}
use Rattle.rip_check.specs.OwnSettled.{OffersAsHolder}
use Rattle.rip_check.specs.OwnTells.{IsHolder}
use Rattle.rip_check.specs.Tables.{Offers}
use Rattle.rip_check.specs.ToldCells.{AreMarks, HasAddressAcross, IsOneHolder}
use Rattle.rip_check.proofs.AcrossLemmas.{heard_from}
use Rattle.rip_check.proofs.HopLemmas.{address_stays, address_was}
use Rattle.rip_check.proofs.NetLemmas.{here, its, its_on, on_here, open_interface}
use Rattle.rip_check.proofs.OwnedLemmas.{at_place, its_link, its_own}
use Rattle.rip_check.proofs.ToldCellLemmas.{none_marked}

-- in the network of a prefix
module _ (n : Network) (laws : IsLawful n) (b : Block) (r l a : ℕ) where
  -- on a link that exchanges the prefix the interface across that has the address is a holder's
  holder_here : (c j : ℕ) (h : HasAddressAcross n r l a j) → HasCost n r l c → Exchanges n l b → IsHolder (network_for n b) r l h.router a
  holder_here c j h own is = record {
    neighbour = record { other = h.other; here = on_here n laws b r l (c, own) is; there = on_here n laws b h.router l (h.cost, (j, h.its)) is };
    interface = j;
    cost = h.cost;
    there = here n laws b j h.router l h.cost h.its is;
    has = address_stays n laws b j l a h.has;
  }

  -- and there are no other holders
  pub holder_was : (s : ℕ) → r < length n.routers → IsHolder (network_for n b) r l s a → Exchanges n l b × ((j : ℕ) × (h : HasAddressAcross n r l a j) × (h.router ≡ s))
  holder_was s lt h =
      let (on, is) = its_on n laws b r l lt h.neighbour.here in (
        is,
        (
          h.interface,
          record { router = s; cost = h.cost; other = h.neighbour.other; its = open_interface n laws b h.interface s l h.cost is h.there; has = address_was n laws b h.interface l a h.has },
          refl,
        ),
      )

  pub holder_known : (s : ℕ) → r < length n.routers → IsHolder (network_for n b) r l s a → s < length n.routers
  holder_known s lt h =
      let (exchanged, (j, was, same)) = holder_was s lt h in
      rw same at (laws.router_known j was.router l was.cost was.its)

  -- an address is on one interface of a link
  one_router : (i j : ℕ) (g : HasAddressAcross n r l a i) (h : HasAddressAcross n r l a j) → g.router ≡ h.router
  one_router i j g h =
      let same : i ≡ j = laws.addresses_differ i j l a g.has h.has in
      let its : IsInterface n j g.router l g.cost = rw same at g.its in
      (its_link n j g.router l g.cost h.router l h.cost its h.its).0

  pub one_holder : (c j : ℕ) (h : HasAddressAcross n r l a j) → HasCost n r l c → Exchanges n l b → r < length n.routers → IsOneHolder (network_for n b) r l a h.router
  one_holder c j h own is lt = (
    holder_here c j h own is,
    λ u holder.
        let (exchanged, (i, g, same)) = holder_was u lt holder in
        sym same ∙ one_router i j g h,
  )

-- what a holder offers is what its interface tells
module _ (net : Network) (plan : IsNetwork net) (told : State) (r l p m cost : ℕ) (own : HasCost net r l cost) where
  pub holder_offers : (s j d : ℕ) → IsNeighbour net r l s → IsInterface net j s l d → m ≡ heard_from told cost j p → Offers net told r l s p m
  holder_offers s j d neighbour there value = record { neighbour = neighbour; cost = cost; here = own; interface = j; its_cost = d; there = there; value = value }

  pub offers_heard : (s j d : ℕ) → IsInterface net j s l d → Offers net told r l s p m → m ≡ heard_from told cost j p
  offers_heard s j d there o =
      let mine = plan.one_on_link own.0 o.here.0 r l cost o.cost own.1 o.here.1 in
      let here : IsInterface net own.0 r l o.cost = rw (sym mine) at o.here.1 in
      let cost_is : o.cost ≡ cost = (its_link net own.0 r l o.cost r l cost here own.1).2 in
      let its : o.interface ≡ j = plan.one_on_link o.interface j s l o.its_cost d o.there there in
      rw (cost_is, its) at o.value

-- neighbour s offers router r the metric on the link of one of its first k interfaces, where it is a holder
abbrev pub OffersBefore : Network → Network → State → ℕ → ℕ → ℕ → ℕ → List ℕ → ℕ → ℕ → Type 0
OffersBefore n net told r p m a numbers k s = (j l c : ℕ) × (j < k) × (j < length numbers) × IsInterface n (get_or numbers j 0) r l c × IsHolder net r l s a × Offers net told r l s p m

-- the links of the interfaces of a router, one after the other
module _ (n : Network) (net : Network) (told : State) (r p m a : ℕ) (numbers : List ℕ) (exact : (i : ℕ) → Contains numbers i ↔ ((l c : ℕ) × IsInterface n i r l c)) where
  abbrev Before : ℕ → ℕ → Type 0
  Before = OffersBefore n net told r p m a numbers

  pub offers_later : (k s : ℕ) → Before k s → Before (k + 1) s
  offers_later k s (j, l, c, less, lt, its, holder, offer) = (j, l, c, omega (arith, less), lt, its, holder, offer)

  pub offers_here : (k s : ℕ) (own : Interface) → k < length numbers → IsInterface n (get_or numbers k 0) own.router own.link own.cost → IsHolder net r own.link s a → Offers net told r own.link s p m
      → Before (k + 1) s
  offers_here k s own lt is holder offer = (k, own.link, own.cost, omega arith, lt, its_own n r numbers exact k own lt is, holder, offer)

  pub offers_by : (k s : ℕ) (own : Interface) → k < length numbers → IsInterface n (get_or numbers k 0) own.router own.link own.cost → Before (k + 1) s
      → (IsHolder net r own.link s a × Offers net told r own.link s p m) ⊎ Before k s
  offers_by k s own lt is (j, l, c, less, within, its, holder, offer) =
      elim (cases_lt j k) [
        | inl sooner ↦ inr (j, l, c, sooner, within, its, holder, offer)
        | inr big ↦
            let e : j ≡ k = omega (arith, less, big) in
            let at : IsInterface n (get_or numbers k 0) r l c = rw e at its in
            let link : l ≡ own.link = (its_link n (get_or numbers k 0) r l c r own.link own.cost at (its_own n r numbers exact k own lt is)).1 in
            inl (rw link at holder, rw link at offer)
      ]

  -- of all links
  pub offers_all : (k s : ℕ) → length numbers ≤ k → ((l : ℕ) → IsHolder net r l s a → (i c : ℕ) × IsInterface n i r l c) → OffersAsHolder net told r s p m a → Before k s
  offers_all k s end on (l, holder, offer) =
      let (i, c, its) = on l holder in
      let (j, lt, same) = at_place n r numbers exact i l c its in
      let at : IsInterface n (get_or numbers j 0) r l c = rw same its in
      (j, l, c, omega (arith, lt, end), lt, at, holder, offer)

-- a router of the plan has the interface over which it has a holder
pub holder_on : (n : Network) (laws : IsLawful n) (b : Block) (r l s a : ℕ) → r < length n.routers → IsHolder (network_for n b) r l s a → (i c : ℕ) × IsInterface n i r l c
holder_on n laws b r l s a lt holder = let (on, is) = its_on n laws b r l lt holder.neighbour.here in (on.1.0, on.0, on.1.1)

-- nobody is marked
pub no_marks : (k : ℕ) → AreMarks (λ s. ⊥) (replicate k false)
no_marks k s lt = (λ t. let e : true ≡ false = sym t ∙ none_marked k s in cc e, λ h. absurd h)
