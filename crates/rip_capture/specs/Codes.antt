-- The codes of a capture's faults.
use Rattle.std.specs.Prelude.{◌≡◌, Bool, true, false, Result, Ok, Err}
use Rattle.rip_capture.specs.declared.error.CaptureCode.{CaptureCode}
use Rattle.rip_capture.specs.declared.error.CaptureCode.TheVariants.{Cut, Read}

-- the source failed
abbrev pub is_read : CaptureCode → Bool
is_read Read = true
is_read other = false

-- the source failed, and nothing else is told
abbrev pub is_unread : {A : Type 0} → Result A CaptureCode → Bool
is_unread (Ok x) = false
is_unread (Err code) = is_read code

-- a cut is told only at the end of the file
abbrev pub EndsFor : CaptureCode → Bool → Type 0
EndsFor code at_end = code ≡ Cut → at_end ≡ true
