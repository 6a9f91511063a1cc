-- What the interfaces of a plan tell: what they show, and 16 where they were heard, show nothing and
-- do not poison.
use Rattle.std.specs.Prelude.{◌≡◌, ◌||◌, ◌⊎◌, ℕ, Bool, true, not, IsTrue, Option, None, Some, if◌then◌else◌, map, slice_get}
use Rattle.std.specs.Option.{option_map_or}
use Rattle.rip_plan.specs.Network.{Network}
use Rattle.rip_plan.specs.declared.parts.Interface.{Interface}
use Rattle.rip_plan.specs.Relations.{IsInterface, Poisons}
use Rattle.rip_table.specs.State.{State}
use Rattle.rip_check.specs.Metrics.{metric_at}

-- what an interface tells that shows this, by whether its silence tells nothing: simple split
-- horizon leaves out what poisoned reverse shows with 16 (RFC 2453, 3.4.3)
unfoldable pub told_of : Bool → Option ℕ → Option ℕ
told_of mute None = if mute then None else Some 16
told_of mute (Some m) = Some m

-- the table with what is told in the place of what is shown, where the silence of these interfaces
-- tells nothing
abbrev pub told_where : (ℕ → Bool) → State → State
told_where mute s = record s { shows = λ i p. told_of (mute i) (s.shows i p) }

-- interface i poisons
abbrev pub poisons : Network → ℕ → Bool
poisons n i = option_map_or (λ x. x.poison) (slice_get n.interfaces i) true

-- interface i tells metric m of prefix p: it shows it, or it was heard, shows nothing and does not
-- poison, and m is 16
abbrev pub TellsMetric : Network → State → ℕ → ℕ → ℕ → Type 0
TellsMetric n s i p m =
    (metric_at s i p ≡ Some m)
    ⊎ (IsTrue (s.heard i) × (metric_at s i p ≡ None) × (Poisons n i → ⊥) × (m ≡ 16))

-- all interfaces poison
abbrev pub EachPoisons : Network → Type 0
EachPoisons n = (i r l c : ℕ) → IsInterface n i r l c → Poisons n i

-- the interface, as one that poisons
abbrev pub poisoning : Interface → Interface
poisoning x = record x { poison = true }

-- the plans are alike, but for which interfaces poison
abbrev pub AreAlike : Network → Network → Type 0
AreAlike n m =
    record n { interfaces = map poisoning n.interfaces }
    ≡ record m { interfaces = map poisoning m.interfaces }

-- the second plan is the first with no more poison
pub record HasLessPoison (n m : Network) : Type 0 where
  pub alike : AreAlike n m
  pub less : (i : ℕ) → Poisons m i → Poisons n i

-- the table with what the plan's interfaces tell: the silence of one that poisons or was not heard
-- tells nothing
abbrev pub told : Network → State → State
told n s = told_where (λ i. poisons n i || not (s.heard i)) s
