-- What a table shows, by the numbers of interfaces and prefixes.
use Rattle.std.specs.Prelude.{◌≡◌, ℕ, ◌≤◌, Option, Some, option_and_then, slice_get}
use Rattle.rip_plan.specs.Network.{Network}
use Rattle.rip_plan.specs.Relations.{IsInterface}
use Rattle.rip_table.specs.State.{State}

-- the metric, if any, that an interface shows for the prefix of this number in the table's list
abbrev pub metric_at : State → ℕ → ℕ → Option ℕ
metric_at s i k = option_and_then (λ p. s.shows i p) (slice_get s.prefixes k)

-- what the interfaces of a plan show is a metric, 1 to 16
abbrev pub IsInRange : Network → State → Type 0
IsInRange n shown =
    (i r l c p m : ℕ) → IsInterface n i r l c → metric_at shown i p ≡ Some m → (1 ≤ m) × (m ≤ 16)
