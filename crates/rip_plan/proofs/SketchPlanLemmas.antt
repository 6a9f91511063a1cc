-- The plan of what was read: its parts, the routers that a seat of it touches, and those on a link.
use Rattle.std.proofs.Common.{◌≡◌, ℕ, inl, inr, List, true, ◌&&◌, Some, refl, sym, ◌∙◌, arith}
use Rattle.std.specs.Prelude.{slice_get, ◌==◌}
use Rattle.std.specs.List.{list_any}
use Rattle.std.proofs.lemmas.Bool.{and_parts, eqb-true}
use Rattle.std.proofs.lemmas.Bool.Decides.{nat_tests}
use Rattle.rip_plan.specs.declared.draft.DraftInterface.{DraftInterface}
use Rattle.rip_plan.specs.declared.draft.DraftPlace.{DraftPlace}
use Rattle.rip_plan.specs.declared.parts.Interface.{Interface}
use Rattle.rip_plan.specs.declared.parts.Seat.{Seat}
use Rattle.rip_plan.specs.declared.parts.Seat.TheVariants as seats
use Rattle.rip_plan.specs.Draft.{Sketch}
use Rattle.rip_plan.specs.Network.{network_of_sketch}
use Rattle.rip_plan.specs.Passes.{is_there, touched}
use Rattle.rip_plan.specs.Relations.{IsInterface, IsOn, IsPlace, IsPrefix, Touches}
use Rattle.rip_plan.proofs.ClashLemmas.{any_listed}
use Rattle.rip_plan.proofs.ItemLemmas.{any_at, any_finds, get_seen, see_got}
use Rattle.rip_plan.proofs.NumberingLemmas.{IsNumbered, numbers}
use Rattle.rip_plan.proofs.MatchingLemmas.{matched_left, matched_right}

-- the routers with an interface on a link
link_touched : (is : List DraftInterface) (l r : ℕ) → list_any (λ m. m == r) (touched is (seats.Link l)) ≡ list_any (λ i. i.interface.link == l && i.interface.router == r) is
link_touched is l r = any_listed (λ (i : DraftInterface). i.interface.router) (λ i. i.interface.link == l) (λ m. m == r) is

module _ (s : Sketch) where
  -- ---- its parts

  pub interface_in : (i : ℕ) (v : Interface) → slice_get (network_of_sketch s).interfaces i ≡ Some v → (x : DraftInterface) × (slice_get s.interfaces i ≡ Some x) × (x.interface ≡ v)
  interface_in i v h = get_seen (λ (x : DraftInterface). x.interface) s.interfaces i v h

  pub interface_as : (i : ℕ) (x : DraftInterface) (r l : ℕ) → slice_get s.interfaces i ≡ Some x → x.interface.router ≡ r → x.interface.link ≡ l
      → IsInterface (network_of_sketch s) i r l x.interface.cost
  interface_as i x r l at router link =
      record { interface = x.interface; listed = see_got (λ (y : DraftInterface). y.interface) s.interfaces i x at; router = router; link = link; cost = refl }

  pub as_interface : (i r l c : ℕ) → IsInterface (network_of_sketch s) i r l c → (x : DraftInterface) × (slice_get s.interfaces i ≡ Some x) × (x.interface.router ≡ r) × (x.interface.link ≡ l)
  as_interface i r l c is = grind (arith, interface_in)

  pub place_in : (k p : ℕ) (seat : Seat) → IsPlace (network_of_sketch s) k p seat
      → (d : DraftPlace) × (slice_get s.places k ≡ Some d) × (slice_get (network_of_sketch s).prefixes p ≡ Some d.prefix) × (seat ≡ d.seat)
  place_in k p seat h = grind (arith, matched_left (IsNumbered (network_of_sketch s).prefixes) (network_of_sketch s).places s.places k (record { prefix = p; seat = seat }) (numbers s.places) h.listed)

  pub place_from : (k : ℕ) (d : DraftPlace) → slice_get s.places k ≡ Some d → (p : ℕ) × IsPlace (network_of_sketch s) k p d.seat × IsPrefix (network_of_sketch s) p d.prefix
  place_from k d h = grind (arith, matched_right (IsNumbered (network_of_sketch s).prefixes) (network_of_sketch s).places s.places k d (numbers s.places) h)

  -- ---- the routers that a seat touches

  pub touch : (k p r c : ℕ) → Touches (network_of_sketch s) k p r c → (seat : Seat) × IsPlace (network_of_sketch s) k p seat × (list_any (λ m. m == r) (touched s.interfaces seat) ≡ true)
  touch k p r c (inl (l, place, (i, is))) = grind (arith, interface_in, any_at, link_touched)
  touch k p r c (inr h) = let same : (h.own.router == r) ≡ true = grind (arith, nat_tests, h.router) in (seats.Own h.own, h.place, rw same refl)

  pub touches : (k p r : ℕ) (seat : Seat) → IsPlace (network_of_sketch s) k p seat → list_any (λ m. m == r) (touched s.interfaces seat) ≡ true → (c : ℕ) × Touches (network_of_sketch s) k p r c
  touches k p r (seats.Link l) place h =
      let (i, x, at, test) = any_finds (λ (y : DraftInterface). y.interface.link == l && y.interface.router == r) s.interfaces (sym (link_touched s.interfaces l r) ∙ h) in
      let (on, of) = and_parts (x.interface.link == l) (x.interface.router == r) test in
      let listed = see_got (λ (y : DraftInterface). y.interface) s.interfaces i x at in
      let router = eqb-true x.interface.router r of in
      let link = eqb-true x.interface.link l on in
      (x.interface.direct, inl (l, place, (i, record { interface = x.interface; listed = listed; router = router; link = link; direct = refl })))
  touches k p r (seats.Own own) place h = (own.cost, inr (grind arith))

  -- ---- the routers on a link

  pub there_on : (r l : ℕ) → is_there s.interfaces r l ≡ true → IsOn (network_of_sketch s) r l
  there_on r l h =
      let (i, x, at, test) = any_finds (λ (y : DraftInterface). y.interface.router == r && y.interface.link == l) s.interfaces h in
      (x.interface.cost, (i, interface_as i x r l at (grind arith) (grind arith)))

  pub on_there : (r l : ℕ) → IsOn (network_of_sketch s) r l → is_there s.interfaces r l ≡ true
  on_there r l (c, (i, is)) =
      let (x, at, router, link) = as_interface i r l c is in
      any_at (λ (y : DraftInterface). y.interface.router == r && y.interface.link == l) s.interfaces i x at (grind (arith, nat_tests))
