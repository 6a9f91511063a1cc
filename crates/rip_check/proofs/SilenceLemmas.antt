-- What a router is silent about.
use Rattle.std.proofs.Common.{◌≡◌, ℕ, true, false, Option, None, Some, is_some, refl}
use Rattle.rip_plan.specs.Network.{Network}
use Rattle.rip_plan.specs.Relations.{IsInterface}
use Rattle.rip_table.specs.State.{State}
use Rattle.rip_check.specs.Metrics.{metric_at}
use Rattle.rip_check.specs.Tables.{IsSilent, MayHoldBack}

-- router r shows nothing below 16
abbrev pub IsMute : Network → State → ℕ → ℕ → Type 0
IsMute n shown r p = (i l c : ℕ) → IsInterface n i r l c → IsSilent (metric_at shown i p)

-- router r is silent on link l, where it may not hold back its route
abbrev pub IsSilentLink : Network → State → ℕ → ℕ → ℕ → Type 0
IsSilentLink n shown r p l =
    (i c : ℕ) × IsInterface n i r l c × IsSilent (metric_at shown i p) × (MayHoldBack n r p l → ⊥)

pub none_there : (o : Option ℕ) → is_some o ≡ false → o ≡ None
none_there None e = refl
none_there (Some l) e = cc e

pub some_there : (o : Option ℕ) → is_some o ≡ true → o ≡ None → ⊥
some_there None e none = cc e
some_there (Some l) e none = cc none
