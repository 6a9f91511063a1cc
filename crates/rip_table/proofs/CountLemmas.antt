-- The counts of what is left out are 0 exactly where nothing is.
use Rattle.std.proofs.Common.{◌≡◌, ℕ, List, [], ◌∷◌, refl}
use Rattle.rip_table.specs.Events.{AreCalm, Event, EventAt, IsCalm, joined, refused, stranger, request, bad}
use Rattle.rip_table.specs.Tallies.{counts_of}

-- none is refused, a stranger's or bad
abbrev NoneLeftOut : List EventAt → Type 0
NoneLeftOut events =
    ((counts_of events).refused ≡ 0) × ((counts_of events).strangers ≡ 0) × ((counts_of events).bad ≡ 0)

pub calm_counted : (events : List EventAt) → AreCalm events → NoneLeftOut events
calm_counted [] calm = (refl, refl, refl)
calm_counted (e ∷ events) calm = by e.line e.event calm.0 (calm_counted events calm.1)
  where
    by : (line : ℕ) (event : Event) → IsCalm event → NoneLeftOut events → NoneLeftOut ((record { line = line; event = event }) ∷ events)
    by line (joined i) is rest = rest
    by line (refused i error hop) is rest = absurd is
    by line (stranger o) is rest = absurd is
    by line (request of) is rest = rest
    by line (bad code o of) is rest = absurd is

pub counted_calm : (events : List EventAt) → NoneLeftOut events → AreCalm events
counted_calm [] none = tt
counted_calm (e ∷ events) none = by e.line e.event none (counted_calm events)
  where
    by : (line : ℕ) (event : Event) → NoneLeftOut ((record { line = line; event = event }) ∷ events) → (NoneLeftOut events → AreCalm events) → IsCalm event × AreCalm events
    by line (joined i) none rest = (tt, rest none)
    by line (refused i error hop) none rest = absurd (cc none.0)
    by line (stranger o) none rest = absurd (cc none.1)
    by line (request of) none rest = (tt, rest none)
    by line (bad code o of) none rest = absurd (cc none.2)
