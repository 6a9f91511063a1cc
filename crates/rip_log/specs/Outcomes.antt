-- What the calls of a device came to, one after the other.
use Rattle.std.specs.Prelude.{◌≡◌, ◌⊎◌, ◌&&◌, ℕ, Bool, true, false, List, [], ◌∷◌, ◌++◌, take, Option, Some, None, Result, Ok, Err}

-- what a call came to: it moved these bytes, or it failed
abbrev pub Outcome : Type 0
Outcome = Option (List ℕ)

-- what a call came to that answered so, with these bytes in its buffer
abbrev pub outcome_of : {E : Type 0} → Result ℕ E → List ℕ → Outcome
outcome_of (Ok n) buffer = Some (take n buffer)
outcome_of (Err e) buffer = None

-- the bytes that calls moved
abbrev pub moved : List Outcome → List ℕ
moved [] = []
moved (Some bytes ∷ later) = bytes ++ moved later
moved (None ∷ later) = moved later

-- there was one call more, or none
abbrev pub AtMostOnce : List Outcome → List Outcome → Type 0
AtMostOnce old new = (new ≡ old) ⊎ ((last : Outcome) × (new ≡ old ++ last ∷ []))

-- the call moved some bytes
abbrev pub is_some_bytes : Outcome → Bool
is_some_bytes (Some (b ∷ bytes)) = true
is_some_bytes (Some []) = false
is_some_bytes None = false

-- it moved none
abbrev pub is_no_bytes : Outcome → Bool
is_no_bytes (Some (b ∷ bytes)) = false
is_no_bytes (Some []) = true
is_no_bytes None = false

-- it failed
abbrev pub is_failure : Outcome → Bool
is_failure (Some bytes) = false
is_failure None = true

-- whether each call moved some bytes
abbrev pub all_moved : List Outcome → Bool
all_moved [] = true
all_moved (o ∷ later) = is_some_bytes o && all_moved later

-- whether the last call was such a one, and each before it moved some bytes
abbrev pub ends_in : (Outcome → Bool) → List Outcome → Bool
ends_in such [] = false
ends_in such (o ∷ []) = such o
ends_in such (o ∷ (p ∷ later)) = is_some_bytes o && ends_in such (p ∷ later)

-- each of these calls moved some bytes
abbrev pub AllMoved : List Outcome → Type 0
AllMoved outcomes = all_moved outcomes ≡ true

-- the last of these calls was such a one, and each before it moved some bytes
abbrev pub EndIn : (Outcome → Bool) → List Outcome → Type 0
EndIn such outcomes = ends_in such outcomes ≡ true
