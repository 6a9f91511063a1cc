-- Steps that end with the first fault, and what a function answers for them.
use Rattle.std.specs.Prelude.{◌≡◌, ℕ, ◌+◌, List, [], ◌∷◌, Option, Some, None, Result, Ok, Err}
use Rattle.rip_plan.specs.declared.error.PlanCode.{PlanCode}
use Rattle.rip_plan.specs.declared.error.At.{At}
use Rattle.rip_plan.specs.declared.error.PlanError.{PlanError}
use Rattle.rip_plan.specs.declared.error.ReadError.{ReadError}
use Rattle.rip_plan.specs.declared.error.ReadError.TheVariants as errors

abbrev pub fault : PlanCode → At → PlanError
fault code at = record { code = code; place = at }

infixl 10 ◌>>=◌
abbrev pub ◌>>=◌ : {A B : Type 0}
    → Result A PlanError → (A → Result B PlanError) → Result B PlanError
(Ok x) >>= f = f x
(Err e) >>= f = Err e

-- the value, or a fault where there is none
abbrev pub wanted : {A : Type 0} → PlanError → Option A → Result A PlanError
wanted e None = Err e
wanted e (Some x) = Ok x

-- What a function returned is what reading gives, unless memory ran out.
abbrev pub Fails : {Y : Type 0} → ReadError → Result Y PlanError → Type 0
Fails errors.OutOfMemory read = Unit {0}
Fails (errors.Fault f) read = read ≡ Err f

abbrev pub Gives : {X Y : Type 0} → (X → Y) → Result X ReadError → Result Y PlanError → Type 0
Gives view (Ok x) read = read ≡ Ok (view x)
Gives view (Err e) read = Fails e read

-- A step over each item of a list in turn, with its number, from a state to the next, or the first
-- fault.
abbrev pub steps : {S A : Type 0}
    → (ℕ → A → S → Result S PlanError) → ℕ → List A → S → Result S PlanError
steps step n [] s = Ok s
steps step n (x ∷ xs) s = step n x s >>= steps step (n + 1) xs
