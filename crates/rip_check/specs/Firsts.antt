-- Which routes can be read, why others can't, and which place is the first.
use Rattle.std.specs.Prelude.{◌≡◌, ◌≢◌, ℕ, ◌<◌, ◌≤◌, ◌⊎◌, Option, None, Some, IsTrue, length}
use Rattle.rip_plan.specs.Network.{Network}
use Rattle.rip_plan.specs.Relations.{Exchanges, IsAttached, IsInterface, IsLeaf}
use Rattle.rip_table.specs.State.{State}
use Rattle.rip_check.specs.Tables.{IsHeard, IsOff, IsOnlyRoute, IsQuiet, IsSilent, Route, Tells}
use Rattle.rip_check.specs.declared.verdict.Unclear.{Unclear}
use Rattle.rip_check.specs.declared.verdict.Unclear.TheVariants.{NotHeard, TwoMetrics, Missing, ShownOn, TwoWays}
use Rattle.rip_check.specs.Metrics.{metric_at}
use Rattle.rip_check.specs.Networks.{block_at, network_at}

-- of two places, router s and prefix q, and router r and prefix p, the first comes before the
-- second: by router, then by prefix
abbrev pub IsBefore : ℕ → ℕ → ℕ → ℕ → Type 0
IsBefore s q r p = (s < r) ⊎ ((s ≡ r) × (q < p))

-- a place after the given one, if one is given
abbrev pub IsAfter : Option (ℕ × ℕ) → ℕ → ℕ → Type 0
IsAfter None r p = Unit {0}
IsAfter (Some a) r p = IsBefore a.0 a.1 r p

-- (r, p) is the first place after the given one that is not fine
pub record IsFirst
    (n : Network) (count : ℕ) (after : Option (ℕ × ℕ)) (Fine : ℕ → ℕ → Type 0) (r p : ℕ)
    : Type 0 where
  pub router : r < length n.routers
  pub prefix : p < count
  pub behind : IsAfter after r p
  pub before : (s q : ℕ) → q < count → IsAfter after s q → IsBefore s q r p → Fine s q
  pub fails : Fine r p → ⊥

-- every place after the given one is fine
abbrev pub AreFine : Network → ℕ → Option (ℕ × ℕ) → (ℕ → ℕ → Type 0) → Type 0
AreFine n count after Fine =
    (r p : ℕ) → r < length n.routers → p < count → IsAfter after r p → Fine r p

-- the first place that is not fine, if there is one
abbrev pub IsFirstAt : Network → ℕ → (ℕ → ℕ → Type 0) → Option (ℕ × ℕ) → Type 0
IsFirstAt n count Fine None = AreFine n count None Fine
IsFirstAt n count Fine (Some a) = IsFirst n count None Fine a.0 a.1

-- the first number below the bound that is not fine, if there is one
abbrev pub IsFirstOf : ℕ → (ℕ → Type 0) → Option ℕ → Type 0
IsFirstOf bound Fine None = (s : ℕ) → s < bound → Fine s
IsFirstOf bound Fine (Some r) =
    (r < bound) × ((s : ℕ) → s < r → Fine s) × (Fine r → ⊥)

-- the least number of this kind, if there is one
abbrev pub IsLeastOf : (ℕ → Type 0) → Option ℕ → Type 0
IsLeastOf Is None = (j : ℕ) → Is j → ⊥
IsLeastOf Is (Some j) = Is j × ((i : ℕ) → Is i → j ≤ i)

-- exactly one route fits what router r shows of prefix p; of a router with one interface or none, at
-- least one
abbrev pub IsReadable : Network → State → ℕ → ℕ → Type 0
IsReadable n shown r p =
    (t : Route) × Tells n shown r p t
    × (IsOnlyRoute n shown r p t ⊎ (((i l c : ℕ) × IsLeaf n r i l c) ⊎ IsOff n r))

-- a route can be read of what router r shows of the prefix of this number: nothing below 16 where it
-- is not exchanged, and in its network a route
pub record CanBeRead (n : Network) (shown : State) (r p : ℕ) : Type 0 where
  pub quiet : IsQuiet n shown r p
  pub readable : IsReadable (network_at n shown.prefixes p) shown r p

-- interface i of router r shows metric m, which is below 16
pub record IsShownBelow (n : Network) (shown : State) (r p i m : ℕ) : Type 0 where
  pub link : ℕ
  pub cost : ℕ
  pub its : IsInterface n i r link cost
  pub shows : metric_at shown i p ≡ Some m
  pub below : m < 16

-- two interfaces of the router show different metrics below 16
abbrev pub ShowsTwo : Network → State → ℕ → ℕ → Type 0
ShowsTwo n shown r p =
    (i j m v : ℕ) × IsShownBelow n shown r p i m × IsShownBelow n shown r p j v × (m ≢ v)

-- the first interface of the router that shows nothing is on this link
pub record IsFirstGap (n : Network) (shown : State) (r p l : ℕ) : Type 0 where
  pub interface : ℕ
  pub cost : ℕ
  pub its : IsInterface n interface r l cost
  pub shows : metric_at shown interface p ≡ None
  pub before : (j k d : ℕ) → j < interface → IsInterface n j r k d → metric_at shown j p ≢ None

-- each interface of the router shows something
abbrev pub ShowsEach : Network → State → ℕ → ℕ → Type 0
ShowsEach n shown r p = (i l c : ℕ) → IsInterface n i r l c → metric_at shown i p ≢ None

-- the router shows 16 on two of its interfaces
abbrev pub Shows16Twice : Network → State → ℕ → ℕ → Type 0
Shows16Twice n shown r p =
    (i j l k c d : ℕ) × (i ≢ j) × IsInterface n i r l c × IsInterface n j r k d
    × (metric_at shown i p ≡ Some 16) × (metric_at shown j p ≡ Some 16)

-- and a metric below 16 on another
abbrev pub ShowsTwoWays : Network → State → ℕ → ℕ → Type 0
ShowsTwoWays n shown r p =
    Shows16Twice n shown r p × ((i m : ℕ) × IsShownBelow n shown r p i m)

-- the router shows a metric below 16 on each of its links
abbrev pub ShowsEverywhere : Network → State → ℕ → ℕ → Type 0
ShowsEverywhere n shown r p =
    (i l c : ℕ) → IsInterface n i r l c → (m : ℕ) × (metric_at shown i p ≡ Some m) × (m < 16)

-- the router shows a metric below 16 on each of its links, and so on link l, to which the prefix is
-- attached
abbrev pub ShowsWhereAttached : Network → State → ℕ → ℕ → ℕ → Type 0
ShowsWhereAttached n shown r p l = IsAttached n r p l × ShowsEverywhere n shown r p

-- why no route of router r for prefix p can be read: it shows two metrics; else it shows nothing on
-- a link; else it shows the prefix everywhere, also where it is attached; else it does none of
-- these, and would need two ways
abbrev pub IsReason : Network → State → ℕ → ℕ → Unclear → Type 0
IsReason n shown r p (NotHeard s l) = ⊥
IsReason n shown r p (TwoMetrics s q) = (s ≡ r) × (q ≡ p) × ShowsTwo n shown r p
IsReason n shown r p (Missing s q l) =
    (s ≡ r) × (q ≡ p) × (ShowsTwo n shown r p → ⊥) × IsFirstGap n shown r p l
IsReason n shown r p (ShownOn s q l) =
    (s ≡ r) × (q ≡ p) × (ShowsTwo n shown r p → ⊥) × ShowsWhereAttached n shown r p l
IsReason n shown r p (TwoWays s q) =
    (s ≡ r) × (q ≡ p) × (ShowsTwo n shown r p → ⊥) × ShowsEach n shown r p
    × ((l : ℕ) → ShowsWhereAttached n shown r p l → ⊥)

-- the first interface of the router that shows a metric below 16 where the prefix of this number is
-- not exchanged is on this link
pub record IsFirstLoud (n : Network) (shown : State) (r p l : ℕ) : Type 0 where
  pub interface : ℕ
  pub cost : ℕ
  pub its : IsInterface n interface r l cost
  pub closed : Exchanges n l (block_at shown.prefixes p) → ⊥
  pub loud : IsSilent (metric_at shown interface p) → ⊥
  pub before : (j k d : ℕ) → j < interface → IsInterface n j r k d
      → (Exchanges n k (block_at shown.prefixes p) → ⊥) → IsSilent (metric_at shown j p)

-- why no route of router r for the prefix of this number can be read: it shows the prefix where it
-- is not exchanged; else by the network of the prefix
abbrev pub IsCause : Network → State → ℕ → ℕ → Unclear → Type 0
IsCause n shown r p u =
    ((l : ℕ) × IsFirstLoud n shown r p l × (u ≡ ShownOn r p l))
    ⊎ (IsQuiet n shown r p × IsReason (network_at n shown.prefixes p) shown r p u)

-- the first interface that was not heard is router r's on link l
pub record IsFirstUnheard (n : Network) (shown : State) (r l : ℕ) : Type 0 where
  pub interface : ℕ
  pub cost : ℕ
  pub its : IsInterface n interface r l cost
  pub unheard : IsTrue (shown.heard interface) → ⊥
  pub before : (j s k d : ℕ) → j < interface → IsInterface n j s k d → IsTrue (shown.heard j)

-- each interface of router r was heard
abbrev pub AreHeardOf : Network → State → ℕ → Type 0
AreHeardOf n shown r = (i l c : ℕ) → IsInterface n i r l c → IsTrue (shown.heard i)

-- the first interface of router r that was not heard is on link l
pub record IsFirstUnheardOf (n : Network) (shown : State) (r l : ℕ) : Type 0 where
  pub interface : ℕ
  pub cost : ℕ
  pub its : IsInterface n interface r l cost
  pub unheard : IsTrue (shown.heard interface) → ⊥
  pub before : (j k d : ℕ) → j < interface → IsInterface n j r k d → IsTrue (shown.heard j)

-- the place of a trouble is the first that can't be read, with its reason
pub record IsFirstUnclear
    (n : Network) (shown : State) (unclear : Unclear)
    : Type 0 where
  pub router : ℕ
  pub prefix : ℕ
  pub first : IsFirst n (length shown.prefixes) None (CanBeRead n shown) router prefix
  pub reason : IsCause n shown router prefix unclear

-- the first trouble: an interface not heard, else a place that can't be read
abbrev pub IsFirstTrouble : Network → State → Unclear → Type 0
IsFirstTrouble n shown (NotHeard r l) = IsFirstUnheard n shown r l
IsFirstTrouble n shown unclear = IsHeard n shown × IsFirstUnclear n shown unclear
