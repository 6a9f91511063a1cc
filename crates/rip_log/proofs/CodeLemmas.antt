-- The code of a line's fault is never Read.
use Rattle.std.proofs.Common.{◌≡◌, Bool, true, false, refl}
use Rattle.rip_log.specs.Codes.{code_of, is_read}
use Rattle.rip_log.specs.Logs.{IfElse}
use Rattle.rip_log.specs.declared.error.LineFault.{LineFault}
use Rattle.rip_log.specs.declared.error.LineFault.TheVariants.{Fields, LinkName, Sender, Hex, LongDatagram, Wire}

pub not-read : (fault : LineFault) → is_read (code_of fault) ≡ false
not-read Fields = refl
not-read LinkName = refl
not-read Sender = refl
not-read Hex = refl
not-read LongDatagram = refl
not-read (Wire e) = refl

pub else-holds : (P Q : Type 0) (b : Bool) → b ≡ false → Q → IfElse b P Q
else-holds P Q true e q = cc e
else-holds P Q false e q = q

pub then-holds : (P Q : Type 0) (b : Bool) → b ≡ true → P → IfElse b P Q
then-holds P Q true e p = p
then-holds P Q false e p = cc e
