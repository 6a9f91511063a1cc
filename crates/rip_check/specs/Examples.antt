-- Worked examples: small networks, what their routers show, and the tables that this shows.
use Rattle.std.specs.Prelude.{ℕ, zero, suc, ◌+◌, ◌*◌, ◌/◌, ◌%◌, ◌==◌, nat_lt, min, true, false, if◌then◌else◌, List, [], ◌∷◌, ◌++◌, Option, None, Some, option_and_then, unwrap_or, length, replicate, slice_get, slice_index_or, codes}
use Rattle.rip_wire.specs.Prefix.{Block, block}
use Rattle.rip_plan.specs.declared.parts.Interface.{Interface}
use Rattle.rip_plan.specs.declared.parts.Listed.{Listed}
use Rattle.rip_plan.specs.declared.parts.OwnPrefix.{OwnPrefix}
use Rattle.rip_plan.specs.declared.parts.Seat.{Seat}
use Rattle.rip_plan.specs.declared.parts.Seat.TheVariants.{Link, Own}
use Rattle.rip_plan.specs.declared.parts.Place.{Place}
use Rattle.rip_plan.specs.Network.{Network, each_below, number_of_prefix}
use Rattle.rip_table.specs.State.{State}
use Rattle.rip_check.specs.declared.way.Way.{Way}
use Rattle.rip_check.specs.declared.way.Way.TheVariants.{Unreachable, Here, Over}
use Rattle.rip_plan.specs.Relations.{IsLawful}
use Rattle.rip_check.specs.Tables.{Tables, Route, Shows}
use Rattle.rip_check.specs.Settled.{HoldsAll, AllRight}

-- ---- How they are written

-- the address a.b.c.d
abbrev pub octets : ℕ → ℕ → ℕ → ℕ → ℕ
octets a b c d = ((a * 256 + b) * 256 + c) * 256 + d

-- the prefix 10.x.0.0/16
abbrev pub ten : ℕ → Block
ten x = block (octets 10 x 0 0) 16

-- router r on link l, with address a, at cost c, at which it has the link's prefixes too
abbrev pub interface : ℕ → ℕ → ℕ → ℕ → Interface
interface r l a c = record {
  router = r;
  link = l;
  address = a;
  cost = c;
  direct = c;
  poison = true;
}

-- so many interfaces have no further address
abbrev pub one_each : ℕ → List (List ℕ)
one_each n = replicate n []

-- an own prefix of router r, at cost c
abbrev pub plain_own : ℕ → ℕ → OwnPrefix
plain_own r c = record { router = r; cost = c; kept = false; link = None; via = None }

abbrev pub own : ℕ → ℕ → Seat
own r c = Own (plain_own r c)

abbrev pub place : ℕ → Seat → Place
place p seat = record { prefix = p; seat = seat }

abbrev pub route : ℕ → Way → Route
route m w = record { metric = m; way = w }

-- what is shown of these prefixes, with a row of them for each interface; every interface was heard
abbrev pub showing : List Block → List (List (Option ℕ)) → State
showing prefixes rows = record {
  interfaces = length rows;
  prefixes = prefixes;
  shows = λ i p. option_and_then
      (λ row. option_and_then (λ k. slice_index_or row k None) (number_of_prefix p prefixes))
      (slice_get rows i);
  heard = λ i. true;
}

-- tables, with a row of prefixes for each router
abbrev pub tables : List (List Route) → Tables
tables rows r p =
    unwrap_or (option_and_then (λ row. slice_get row p) (slice_get rows r)) (route 16 Unreachable)

-- ---- What is said of them

-- the plan keeps its laws, the log shows the tables, and every place holds: the tables are right
pub record IsSettledNetwork (n : Network) (shown : State) (T : Tables) : Type 0 where
  pub lawful : IsLawful n
  pub shows : Shows n shown T
  pub holds : HoldsAll n shown T
  pub right : AllRight n shown.prefixes T

-- the plan keeps its laws and the log shows the tables, but some place does not hold, and the
-- tables are not right
pub record IsUnsettledNetwork
    (n : Network) (shown : State) (T : Tables)
    : Type 0 where
  pub lawful : IsLawful n
  pub shows : Shows n shown T
  pub fails : HoldsAll n shown T → ⊥
  pub wrong : AllRight n shown.prefixes T → ⊥

-- ---- The triangle: three routers, and a link with a prefix between any two

abbrev pub triangle : Network
triangle = record {
  links = codes "a" ∷ codes "b" ∷ codes "c" ∷ [];
  lists = replicate 3 false;
  listed = [];
  routers = codes "r1" ∷ codes "r2" ∷ codes "r3" ∷ [];
  interfaces =
      interface 0 0 (octets 10 1 0 1) 1 ∷ interface 0 2 (octets 10 3 0 1) 1
      ∷ interface 1 0 (octets 10 1 0 2) 1 ∷ interface 1 1 (octets 10 2 0 2) 1
      ∷ interface 2 1 (octets 10 2 0 3) 1 ∷ interface 2 2 (octets 10 3 0 3) 1 ∷ [];
  also = one_each 6;
  prefixes = ten 1 ∷ ten 2 ∷ ten 3 ∷ [];
  places = place 0 (Link 0) ∷ place 1 (Link 1) ∷ place 2 (Link 2) ∷ [];
}

abbrev pub triangle_tables : Tables
triangle_tables = tables (
    (route 1 Here ∷ route 2 (Over 0) ∷ route 1 Here ∷ [])
    ∷ (route 1 Here ∷ route 1 Here ∷ route 2 (Over 1) ∷ [])
    ∷ (route 2 (Over 2) ∷ route 1 Here ∷ route 1 Here ∷ []) ∷ []
    )

-- ---- The same with a fourth prefix that nobody has: each router has it from the next one, round
-- in a circle

abbrev pub phantom_shown : State
phantom_shown = showing (ten 1 ∷ ten 2 ∷ ten 3 ∷ ten 4 ∷ []) (
    (None ∷ Some 16 ∷ Some 1 ∷ Some 16 ∷ []) ∷ (Some 1 ∷ Some 2 ∷ None ∷ Some 2 ∷ [])
    ∷ (None ∷ Some 1 ∷ Some 2 ∷ Some 2 ∷ []) ∷ (Some 1 ∷ None ∷ Some 16 ∷ Some 16 ∷ [])
    ∷ (Some 2 ∷ None ∷ Some 1 ∷ Some 2 ∷ []) ∷ (Some 16 ∷ Some 1 ∷ None ∷ Some 16 ∷ []) ∷ []
    )

abbrev pub phantom_tables : Tables
phantom_tables = tables (
    (route 1 Here ∷ route 2 (Over 0) ∷ route 1 Here ∷ route 2 (Over 0) ∷ [])
    ∷ (route 1 Here ∷ route 1 Here ∷ route 2 (Over 1) ∷ route 2 (Over 1) ∷ [])
    ∷ (route 2 (Over 2) ∷ route 1 Here ∷ route 1 Here ∷ route 2 (Over 2) ∷ []) ∷ []
    )

-- what should be shown of it: nobody can reach it
abbrev pub nowhere_shown : State
nowhere_shown = showing (ten 1 ∷ ten 2 ∷ ten 3 ∷ ten 4 ∷ []) (
    (None ∷ Some 16 ∷ Some 1 ∷ Some 16 ∷ []) ∷ (Some 1 ∷ Some 2 ∷ None ∷ None ∷ [])
    ∷ (None ∷ Some 1 ∷ Some 2 ∷ None ∷ []) ∷ (Some 1 ∷ None ∷ Some 16 ∷ None ∷ [])
    ∷ (Some 2 ∷ None ∷ Some 1 ∷ None ∷ []) ∷ (Some 16 ∷ Some 1 ∷ None ∷ None ∷ []) ∷ []
    )

-- ---- Two exits: the triangle, whose first and third router have the default route

abbrev pub two_exits : Network
two_exits = record triangle {
  prefixes = ten 1 ∷ ten 2 ∷ ten 3 ∷ block 0 0 ∷ [];
  places = place 0 (Link 0) ∷ place 1 (Link 1) ∷ place 2 (Link 2)
      ∷ place 3 (own 0 1) ∷ place 3 (own 2 1) ∷ [];
}

abbrev pub two_exits_shown : State
two_exits_shown = showing two_exits.prefixes (
    (None ∷ Some 16 ∷ Some 1 ∷ Some 1 ∷ []) ∷ (Some 1 ∷ Some 2 ∷ None ∷ Some 1 ∷ [])
    ∷ (None ∷ Some 1 ∷ Some 2 ∷ Some 16 ∷ []) ∷ (Some 1 ∷ None ∷ Some 16 ∷ Some 2 ∷ [])
    ∷ (Some 2 ∷ None ∷ Some 1 ∷ Some 1 ∷ []) ∷ (Some 16 ∷ Some 1 ∷ None ∷ Some 1 ∷ []) ∷ []
    )

abbrev pub two_exits_tables : Tables
two_exits_tables = tables (
    (route 1 Here ∷ route 2 (Over 0) ∷ route 1 Here ∷ route 1 Here ∷ [])
    ∷ (route 1 Here ∷ route 1 Here ∷ route 2 (Over 1) ∷ route 2 (Over 0) ∷ [])
    ∷ (route 2 (Over 2) ∷ route 1 Here ∷ route 1 Here ∷ route 1 Here ∷ []) ∷ []
    )

-- ---- A keeper: the same, but the first router has the default route at 5 and keeps it, though it
-- is offered for less

abbrev pub keeper : Network
keeper = record two_exits {
  places = place 0 (Link 0) ∷ place 1 (Link 1) ∷ place 2 (Link 2)
      ∷ place 3 (Own (record (plain_own 0 5) { kept = true })) ∷ place 3 (own 2 1) ∷ [];
}

-- the first router shows a and c of the default route on its two links
abbrev pub keeper_shown : ℕ → ℕ → State
keeper_shown a c = showing keeper.prefixes (
    (None ∷ Some 16 ∷ Some 1 ∷ Some a ∷ []) ∷ (Some 1 ∷ Some 2 ∷ None ∷ Some c ∷ [])
    ∷ (None ∷ Some 1 ∷ Some 2 ∷ Some 2 ∷ []) ∷ (Some 1 ∷ None ∷ Some 16 ∷ Some 16 ∷ [])
    ∷ (Some 2 ∷ None ∷ Some 1 ∷ Some 1 ∷ []) ∷ (Some 16 ∷ Some 1 ∷ None ∷ Some 1 ∷ []) ∷ []
    )

-- and this is its route
abbrev pub keeper_tables : Route → Tables
keeper_tables t = tables (
    (route 1 Here ∷ route 2 (Over 0) ∷ route 1 Here ∷ t ∷ [])
    ∷ (route 1 Here ∷ route 1 Here ∷ route 2 (Over 1) ∷ route 2 (Over 1) ∷ [])
    ∷ (route 2 (Over 2) ∷ route 1 Here ∷ route 1 Here ∷ route 1 Here ∷ []) ∷ []
    )

-- ---- A second prefix on a wire: the triangle, whose first router alone has a fourth prefix on
-- link a, and does not tell of it there

abbrev pub second_prefix : Network
second_prefix = record triangle {
  prefixes = ten 1 ∷ ten 2 ∷ ten 3 ∷ ten 4 ∷ [];
  places = place 0 (Link 0) ∷ place 1 (Link 1) ∷ place 2 (Link 2)
      ∷ place 3 (Own (record (plain_own 0 1) { link = Some 0 })) ∷ [];
}

-- the first router shows x of it on link a, and the second goes round over the third
abbrev pub second_shown : Option ℕ → State
second_shown x = showing second_prefix.prefixes (
    (None ∷ Some 16 ∷ Some 1 ∷ x ∷ []) ∷ (Some 1 ∷ Some 2 ∷ None ∷ Some 1 ∷ [])
    ∷ (None ∷ Some 1 ∷ Some 2 ∷ Some 3 ∷ []) ∷ (Some 1 ∷ None ∷ Some 16 ∷ Some 16 ∷ [])
    ∷ (Some 2 ∷ None ∷ Some 1 ∷ Some 2 ∷ []) ∷ (Some 16 ∷ Some 1 ∷ None ∷ Some 16 ∷ []) ∷ []
    )

abbrev pub second_tables : Tables
second_tables = tables (
    (route 1 Here ∷ route 2 (Over 0) ∷ route 1 Here ∷ route 1 Here ∷ [])
    ∷ (route 1 Here ∷ route 1 Here ∷ route 2 (Over 1) ∷ route 3 (Over 1) ∷ [])
    ∷ (route 2 (Over 2) ∷ route 1 Here ∷ route 1 Here ∷ route 2 (Over 2) ∷ []) ∷ []
    )

-- ---- A leaf: the triangle, and a fourth router on link b alone, which can show nothing that it
-- learned

abbrev pub with_leaf : Network
with_leaf = record triangle {
  routers = codes "r1" ∷ codes "r2" ∷ codes "r3" ∷ codes "r4" ∷ [];
  interfaces = triangle.interfaces ++ interface 3 1 (octets 10 2 0 4) 1 ∷ [];
  also = one_each 7;
}

abbrev pub leaf_shown : State
leaf_shown = showing with_leaf.prefixes (
    (None ∷ Some 16 ∷ Some 1 ∷ []) ∷ (Some 1 ∷ Some 2 ∷ None ∷ [])
    ∷ (None ∷ Some 1 ∷ Some 2 ∷ []) ∷ (Some 1 ∷ None ∷ Some 16 ∷ [])
    ∷ (Some 2 ∷ None ∷ Some 1 ∷ []) ∷ (Some 16 ∷ Some 1 ∷ None ∷ [])
    ∷ (Some 16 ∷ None ∷ Some 16 ∷ []) ∷ []
    )

abbrev pub leaf_tables : Tables
leaf_tables = tables (
    (route 1 Here ∷ route 2 (Over 0) ∷ route 1 Here ∷ [])
    ∷ (route 1 Here ∷ route 1 Here ∷ route 2 (Over 1) ∷ [])
    ∷ (route 2 (Over 2) ∷ route 1 Here ∷ route 1 Here ∷ [])
    ∷ (route 2 (Over 1) ∷ route 1 Here ∷ route 2 (Over 1) ∷ []) ∷ []
    )

-- ---- The slope: the link between two routers costs the one 5 and the other 1

abbrev pub slope : Network
slope = record {
  links = codes "p" ∷ codes "m" ∷ codes "q" ∷ [];
  lists = replicate 3 false;
  listed = [];
  routers = codes "x" ∷ codes "y" ∷ [];
  interfaces =
      interface 0 0 (octets 10 1 0 1) 1 ∷ interface 0 1 (octets 192 168 0 1) 5
      ∷ interface 1 1 (octets 192 168 0 2) 1 ∷ interface 1 2 (octets 10 2 0 1) 1 ∷ [];
  also = one_each 4;
  prefixes = ten 1 ∷ ten 2 ∷ [];
  places = place 0 (Link 0) ∷ place 1 (Link 2) ∷ [];
}

-- the first router has the second prefix for m
abbrev pub slope_shown : ℕ → State
slope_shown m =
    showing slope.prefixes ((None ∷ Some m ∷ []) ∷ (Some 1 ∷ Some 16 ∷ [])
    ∷ (Some 16 ∷ Some 1 ∷ []) ∷ (Some 2 ∷ None ∷ []) ∷ [])

abbrev pub slope_tables : ℕ → Tables
slope_tables m =
    tables ((route 1 Here ∷ route m (Over 1) ∷ []) ∷ (route 2 (Over 1) ∷ route 1 Here ∷ []) ∷ [])

-- ---- Chains: n routers in a row, the first of which has a prefix

-- a letter and a number of two digits
abbrev pub numbered_name : ℕ → ℕ → List ℕ
numbered_name letter n = letter ∷ (48 + n / 10) ∷ (48 + n % 10) ∷ []

abbrev pub chain_interfaces : ℕ → List Interface
chain_interfaces zero = []
chain_interfaces (suc n) =
    chain_interfaces n
    ++ interface n n (octets 192 168 n 2) 1 ∷ interface n (n + 1) (octets 192 168 (n + 1) 1) 1 ∷ []

abbrev pub chain : ℕ → Network
chain n = record {
  links = each_below (n + 1) (numbered_name 108);
  lists = replicate (n + 1) false;
  listed = [];
  routers = each_below n (λ r. numbered_name 107 (r + 1));
  interfaces = chain_interfaces n;
  also = one_each (2 * n);
  prefixes = ten 200 ∷ [];
  places = place 0 (own 0 1) ∷ [];
}

-- the first shows its metric on both links; the others show theirs ahead, and 16 behind
abbrev pub chain_rows : ℕ → List (List (Option ℕ))
chain_rows zero = []
chain_rows (suc n) =
    chain_rows n ++ (Some (if n == 0 then 1 else 16) ∷ []) ∷ (Some (min 16 (n + 1)) ∷ []) ∷ []

abbrev pub chain_shown : ℕ → State
chain_shown n = showing (chain n).prefixes (chain_rows n)

abbrev pub chain_route : ℕ → Route
chain_route r =
    if r == 0 then route 1 Here else if nat_lt r 15 then route (r + 1) (Over r)
    else route 16 Unreachable

abbrev pub chain_tables : Tables
chain_tables r p = chain_route r

-- the routers of a row from the one of this number to the first
abbrev pub down_from : ℕ → List ℕ
down_from zero = zero ∷ []
down_from (suc n) = suc n ∷ down_from n

-- ---- Two holders of one address: a router on two links, on each of which another router has the
-- same address; only the second of these has the prefix

abbrev pub two_holders : Network
two_holders = record {
  links = codes "m" ∷ codes "n" ∷ [];
  lists = replicate 2 false;
  listed = [];
  routers = codes "f" ∷ codes "g1" ∷ codes "g2" ∷ [];
  interfaces =
      interface 0 0 (octets 10 6 0 1) 1 ∷ interface 0 1 (octets 10 6 0 1) 1
      ∷ interface 1 0 (octets 10 5 0 1) 1 ∷ interface 2 1 (octets 10 5 0 1) 1 ∷ [];
  also = one_each 4;
  prefixes = ten 9 ∷ [];
  places = place 0 (own 2 1) ∷ [];
}

-- what they advertise by their own tables, where f has the prefix at metric 2 by that address, and
-- g1 at metric 3 by the address of f
abbrev pub two_holders_told : State
two_holders_told = showing two_holders.prefixes
    ((Some 2 ∷ []) ∷ (Some 2 ∷ []) ∷ (None ∷ []) ∷ (Some 1 ∷ []) ∷ [])

-- ---- A hub with two branches: over each link the default route and the branch's own prefix alone
-- are exchanged, beside the link's own

-- the prefix stands in the list of link l
abbrev pub listing : ℕ → Block → Listed
listing l b = record { link = l; prefix = b }

abbrev pub hub : Network
hub = record {
  links = codes "s1" ∷ codes "s2" ∷ [];
  lists = true ∷ true ∷ [];
  listed =
      listing 0 (block 0 0) ∷ listing 0 (ten 11) ∷ listing 1 (block 0 0) ∷ listing 1 (ten 12) ∷ [];
  routers = codes "h" ∷ codes "b1" ∷ codes "b2" ∷ [];
  interfaces =
      interface 0 0 (octets 10 1 0 1) 1 ∷ interface 0 1 (octets 10 2 0 1) 1
      ∷ interface 1 0 (octets 10 1 0 2) 1 ∷ interface 2 1 (octets 10 2 0 2) 1 ∷ [];
  also = one_each 4;
  prefixes = ten 1 ∷ ten 2 ∷ block 0 0 ∷ ten 11 ∷ ten 12 ∷ [];
  places = place 0 (Link 0) ∷ place 1 (Link 1) ∷ place 2 (own 0 1) ∷ place 3 (own 1 1)
      ∷ place 4 (own 2 1) ∷ [];
}

-- the hub tells each branch the default route, and hears the branch's prefix
abbrev pub hub_shown : State
hub_shown = showing hub.prefixes (
    (None ∷ None ∷ Some 1 ∷ Some 16 ∷ None ∷ []) ∷ (None ∷ None ∷ Some 1 ∷ None ∷ Some 16 ∷ [])
    ∷ (None ∷ None ∷ Some 16 ∷ Some 1 ∷ None ∷ [])
    ∷ (None ∷ None ∷ Some 16 ∷ None ∷ Some 1 ∷ []) ∷ []
    )

-- no branch has the other one's prefixes
abbrev pub hub_tables : Tables
hub_tables = tables (
    (route 1 Here ∷ route 1 Here ∷ route 1 Here ∷ route 2 (Over 0) ∷ route 2 (Over 1) ∷ [])
    ∷ (route 1 Here ∷ route 16 Unreachable ∷ route 2 (Over 0) ∷ route 1 Here
    ∷ route 16 Unreachable ∷ [])
    ∷ (route 16 Unreachable ∷ route 1 Here ∷ route 2 (Over 1) ∷ route 16 Unreachable
    ∷ route 1 Here ∷ []) ∷ []
    )
