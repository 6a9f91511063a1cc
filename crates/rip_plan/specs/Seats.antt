-- The seats of prefixes.
use Rattle.std.specs.Prelude.{ℕ, Bool, false, ◌||◌, ◌==◌, Option, None, is_some}
use Rattle.rip_plan.specs.declared.parts.Seat.{Seat}
use Rattle.rip_plan.specs.declared.parts.Seat.TheVariants as seats

-- the seat is the link
abbrev pub is_on : ℕ → Seat → Bool
is_on l (seats.Link m) = m == l
is_on l (seats.Own own) = false

-- the seat is with the router
abbrev pub is_with : ℕ → Seat → Bool
is_with r (seats.Link l) = false
is_with r (seats.Own own) = own.router == r

-- the router never gives the prefix up
abbrev pub is_kept : Seat → Bool
is_kept (seats.Link l) = false
is_kept (seats.Own own) = own.kept || is_some own.link

-- the link to which the prefix is attached, if it is
abbrev pub link_of : Seat → Option ℕ
link_of (seats.Link l) = None
link_of (seats.Own own) = own.link

-- the gateway of the prefix, if it has one
abbrev pub gateway_of : Seat → Option ℕ
gateway_of (seats.Link l) = None
gateway_of (seats.Own own) = own.via
