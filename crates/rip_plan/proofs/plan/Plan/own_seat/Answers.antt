use Rattle.std.proofs.Common.{◌≡◌, ◌<◌, ◌+◌, ◌*◌, ℕ, List, Option, length, get_or, arith, sym, ◌∙◌}
use Rattle.std.proofs.lemmas.List.{get_or_read, length-map}
use Rattle.std.proofs.lemmas.Option.{slice_get_within, slice_get-get_or}
use Rattle.rip_plan.specs.declared.parts.Place.{Place}
use Rattle.rip_plan.specs.Network.{first_owned, is_owned}
use Rattle.rip_plan.specs.Rows.{AreOwners}
use Rattle.rip_plan.proofs.LookupLemmas.{at_first, find_at, find_past}
use Rattle.rip_plan.proofs.PlanAnswerLemmas.{own_past}
use Rattle.rip_plan.proofs.plan.Plan.own_seat.Goals as goal

-- the number that the rows have for a router and a prefix
number_at : (cells : List (Option ℕ)) (places : List Place) (rows w r k row : ℕ) (o : Option ℕ) → AreOwners w places cells → length cells ≡ rows * w → r < rows → k < w → row ≡ w
    → o ≡ get_or cells (r * row + k) o → o ≡ first_owned r k 0 places
number_at cells places rows w r k row o are room router column same is = grind (arith, get_or_read)

pub returns-then-len-router : goal.returns-then-len-router
returns-then-len-router c = grind (arith, length-map, own_past)

pub index-requires-in-Some : goal.index-requires-in-Some
index-requires-in-Some c =
    let inside = c.self.inside in
    let number = number_at inside.owners.items inside.places.items (length inside.routers.items) (length inside.prefixes.items) c.args.router c.args.prefix c.len-2.result c.index.result.now
    c.self.invariant.owners c.self.invariant.owners_room (omega arith) (omega (arith, c.len-else-len-router.ensures)) (omega arith) c.index.ensures in
    let (q, at, owned) = at_first (is_owned c.args.router c.args.prefix) inside.places.items c.in-Some.place (sym number ∙ c.in-Some.is) in
    omega (arith, slice_get_within inside.places.items c.in-Some.place q at, c.from.ensures)

pub returns-in-Some : goal.returns-in-Some
returns-in-Some c = grind (arith, at_first, slice_get_within, slice_get-get_or, find_at)

pub returns-in-None : goal.returns-in-None
returns-in-None c = grind (arith, find_past)
