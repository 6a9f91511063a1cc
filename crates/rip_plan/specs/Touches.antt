-- The routers and the seats that the passes keep by link and by prefix.
use Rattle.std.specs.Prelude.{ℕ, List, [], ◌∷◌, Bool, ◌||◌, nat_eq, Vec}
use Rattle.std.specs.Option.{option_map_or}
use Rattle.std.specs.HashMap.{HashMap, get}
use Rattle.rip_plan.specs.declared.parts.Seat.{Seat}
use Rattle.rip_plan.specs.declared.parts.Seat.TheVariants as seats
use Rattle.rip_plan.specs.Passes.{have_common, is_same_link}

-- the list at a key, and none where nothing is there
abbrev pub listed : {K A S G : Type 0} → (K → K → Bool) → HashMap K (Vec A G) S → K → List A
listed eq m k = option_map_or (λ v. v.items) (get eq m k) []

-- the routers that a seat touches, by the routers on each link
abbrev pub touched_by : {S G : Type 0} → HashMap ℕ (Vec ℕ G) S → Seat → List ℕ
touched_by on_links (seats.Link l) = listed nat_eq on_links l
touched_by on_links (seats.Own own) = own.router ∷ []

-- two places of one prefix meet at these seats
abbrev pub seats_meet : (Seat → List ℕ) → Seat → Seat → Bool
seats_meet routers s t = is_same_link s t || have_common (routers s) (routers t)
