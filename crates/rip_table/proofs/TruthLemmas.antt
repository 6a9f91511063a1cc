-- Truth values, options and results: small facts that several proofs use.
use Rattle.std.proofs.Common.{◌≡◌, ℕ, Bool, true, false, ◌&&◌, ◌||◌, Option, Some, None, Result, Ok, Err, refl}
use Rattle.std.specs.Option.{option_or}
use Rattle.rip_table.specs.State.{State}
use Rattle.rip_table.specs.Joined.{and_then}

pub or-true : (b : Bool) → (b || true) ≡ true
or-true true = refl
or-true false = refl

pub or-false : (b : Bool) → b ≡ (b || false)
or-false true = refl
or-false false = refl

pub and-true : (b : Bool) → b ≡ (b && true)
and-true true = refl
and-true false = refl

pub and-false : (b : Bool) → (b && false) ≡ false
and-false true = refl
and-false false = refl

pub or-none : (o : Option ℕ) → o ≡ option_or o None
or-none None = refl
or-none (Some x) = refl

-- what is joined after a step was joined to what the step gave
pub then-split : {E : Type 0} (r : Result State E) (f : State → Result State E) (t : State) → and_then r f ≡ Ok t → (u : State) × (r ≡ Ok u) × (f u ≡ Ok t)
then-split (Ok u) f t h = (u, refl, h)
then-split (Err e) f t h = absurd (cc h)
