-- The parts of a record: its link's name in the line, its sender, and its datagram in the room.
use Rattle.std.specs.Prelude.{◌≡◌, ◌≤◌, ℕ, true, List, Option, Some, None, Result, Ok, Err, IfSome, length, take, is_ok}
use Rattle.std.specs.Option.{option_map}
use Rattle.rip_wire.specs.Message.{message_in}
use Rattle.rip_wire.specs.Name.{is_name}
use Rattle.rip_log.specs.Codes.{code_of}
use Rattle.rip_log.specs.Said.{Origin}
use Rattle.rip_log.specs.Lines.{Capture}
use Rattle.rip_log.specs.declared.error.LogCode.{LogCode}
use Rattle.rip_log.specs.declared.line.Fault.{Fault}
use Rattle.rip_log.specs.declared.line.Front.{Front}
use Rattle.rip_log.specs.declared.line.Parts.{Parts}
use Rattle.rip_log.specs.Spans.{IsWithin, slice_of}
use Rattle.rip_wire.specs.declared.limits.TheConstants.{MOST_BYTES}

-- the capture that the parts are of
abbrev pub capture_of_parts : List ℕ → List ℕ → Parts → Capture
capture_of_parts line room parts =
    record {
      link = slice_of line parts.link;
      sender = parts.sender;
      datagram = take parts.count room;
    }

-- the parts lie in a line and the room, and are a name and a datagram
pub record AreParts (line room : List ℕ) (parts : Parts) : Type 0 where
  pub link : IsWithin (length line) parts.link
  pub name : is_name (slice_of line parts.link) ≡ true
  pub count : parts.count ≤ MOST_BYTES
  pub valid : is_ok (message_in (take parts.count room)) ≡ true

-- the origin that the front of a line tells, if any
abbrev pub origin_at : List ℕ → Option Front → Option Origin
origin_at line front =
    option_map (λ f. record { link = slice_of line f.link; sender = f.sender }) front

-- the front lies in a line, and its link is a name
pub record IsFront (line : List ℕ) (front : Front) : Type 0 where
  pub link : IsWithin (length line) front.link
  pub name : is_name (slice_of line front.link) ≡ true

-- what is said of a line is this fault, and its origin the one that goes with its code
pub record IsFaulty (said : Result (Option Capture) LogCode) (from : LogCode → Option Origin)
    (line : List ℕ) (fault : Fault) : Type 0 where
  pub code : said ≡ Err (code_of fault.why)
  pub origin : from (code_of fault.why) ≡ origin_at line fault.front
  pub front : IfSome fault.front (IsFront line)

-- what is said of three fields is what the parts and the room say, or this fault
abbrev pub AreThreeSaid : Result (Option Capture) LogCode → (LogCode → Option Origin) → List ℕ →
    List ℕ → Result Parts Fault → Type 0
AreThreeSaid said from line room (Ok parts) =
    (said ≡ Ok (Some (capture_of_parts line room parts))) × AreParts line room parts
AreThreeSaid said from line room (Err fault) = IsFaulty said from line fault

-- what is said of a line is what the parts and the room say, or this fault
abbrev pub IsSaid : Result (Option Capture) LogCode → (LogCode → Option Origin) → List ℕ → List ℕ →
    Result (Option Parts) Fault → Type 0
IsSaid said from line room (Ok None) = said ≡ Ok None
IsSaid said from line room (Ok (Some parts)) = AreThreeSaid said from line room (Ok parts)
IsSaid said from line room (Err fault) = AreThreeSaid said from line room (Err fault)
