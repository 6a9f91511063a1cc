-- Names of a plan's routers and links, ways, and words with numbers.
use Rattle.std.specs.Prelude.{ℕ, ◌<◌, List, [], ◌++◌, codes, decimal, length, option_map, slice_get, unwrap_or}
use Rattle.rip_wire.specs.Prefix.{prefix_text}
use Rattle.rip_plan.specs.Network.{Network}
use Rattle.rip_table.specs.State.{State}
use Rattle.rip_check.specs.declared.way.Way.{Way}
use Rattle.rip_check.specs.declared.way.Way.TheVariants.{Unreachable, Here, Over}

-- the name of a number, which is below their count in a plan
abbrev pub name_of : List (List ℕ) → ℕ → List ℕ
name_of names k = unwrap_or (slice_get names k) []

-- the prefix of a number, which is below their count in a table
abbrev pub prefix_name : State → ℕ → List ℕ
prefix_name s p = unwrap_or (option_map prefix_text (slice_get s.prefixes p)) []

-- `3 routers, 4 prefixes`
abbrev pub counts_part : ℕ → ℕ → List ℕ
counts_part routers prefixes =
    decimal routers ++ codes " routers, " ++ decimal prefixes ++ codes " prefixes"

-- a word and a number
abbrev pub numbered : List ℕ → ℕ → List ℕ
numbered word n = word ++ decimal n

-- `here`, `over a`, or `unreachable`
abbrev pub way_text : Network → Way → List ℕ
way_text n Unreachable = codes "unreachable"
way_text n Here = codes "here"
way_text n (Over l) = codes "over " ++ name_of n.links l

-- the link of a way is one of the plan
abbrev pub IsKnownWay : Network → Way → Type 0
IsKnownWay n (Over l) = l < length n.links
IsKnownWay n Here = Unit {0}
IsKnownWay n Unreachable = Unit {0}
