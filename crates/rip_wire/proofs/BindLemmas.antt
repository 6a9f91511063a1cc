-- Steps that fail or go on.
use Rattle.std.proofs.Common.{◌≡◌, Bool, true, false, cond, Result, Ok, Err, refl}
use Rattle.rip_wire.specs.declared.error.WireError.{WireError}
use Rattle.rip_wire.specs.Message.{◌>>=◌}

-- the value of a step that did not fail
pub bind_ok : {X Y : Type 0} (r : Result X WireError) (f : X → Result Y WireError) (y : Y) → (r >>= f) ≡ Ok y → (x : X) × (r ≡ Ok x) × (f x ≡ Ok y)
bind_ok (Ok x) f y h = (x, refl, h)
bind_ok (Err e) f y h = absurd (cc)

-- a test that did not fail
pub passed : {X : Type 0} (t : Bool) (e : WireError) (y : Result X WireError) (z : X) → cond t (Err e) y ≡ Ok z → (t ≡ false) × (y ≡ Ok z)
passed true e y z h = absurd (cc)
passed false e y z h = (refl, h)

abbrev done : {X : Type 0} → X → Result X WireError
done x = Ok x

pub same_Ok : {X : Type 0} (x y : X) → done x ≡ done y → x ≡ y
same_Ok x y h = cc
