-- Lines, and parts of lines, that several commands print.
use Rattle.std.specs.Prelude.{ℕ, ◌<◌, Bool, if◌then◌else◌, List, [], ◌++◌, length, codes, decimal}
use Rattle.rip_plan.specs.Network.{Network}
use Rattle.rip_plan.specs.declared.parts.Interface.{Interface}
use Rattle.rip_check.specs.Tables.{Route}
use Rattle.rip_check.specs.declared.verdict.Unclear.{Unclear}
use Rattle.rip_check.specs.declared.verdict.Unclear.TheVariants.{NotHeard, TwoMetrics, Missing, ShownOn, TwoWays}
use Rattle.rip_report.specs.Names.{name_of, way_text}
use Rattle.rip_report.specs.Written.{line}

-- an interface by its router and its link, as `r1 a`
abbrev pub interface_name : Network → Interface → List ℕ
interface_name n i = name_of n.routers i.router ++ codes " " ++ name_of n.links i.link

-- `r1 a not heard`
unfoldable pub unheard_line : Network → Interface → List ℕ
unheard_line n i = line (interface_name n i ++ codes " not heard")

-- `, leaf`, where a leaf cannot show its route
abbrev pub leaf_word : Bool → List ℕ
leaf_word hidden = if hidden then codes ", leaf" else []

-- `2 over a`, or of a leaf that cannot show it `2 over a, leaf`
abbrev pub read_part : Network → Route → Bool → List ℕ
read_part n route hidden =
    decimal route.metric ++ codes " " ++ way_text n route.way ++ leaf_word hidden

-- why no route can be read
abbrev pub reason_part : Network → Unclear → List ℕ
reason_part n (NotHeard r l) = codes "not heard"
reason_part n (TwoMetrics r p) = codes "two metrics"
reason_part n (Missing r p l) = codes "missing on " ++ name_of n.links l
reason_part n (ShownOn r p l) = codes "shown on " ++ name_of n.links l
reason_part n (TwoWays r p) = codes "two ways"

-- the link of a reason is one of the plan
abbrev pub IsKnownReason : Network → Unclear → Type 0
IsKnownReason n (NotHeard r l) = Unit {0}
IsKnownReason n (TwoMetrics r p) = Unit {0}
IsKnownReason n (Missing r p l) = l < length n.links
IsKnownReason n (ShownOn r p l) = l < length n.links
IsKnownReason n (TwoWays r p) = Unit {0}
