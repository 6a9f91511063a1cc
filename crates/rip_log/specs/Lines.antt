-- The lines of a text, and what each says.
use Rattle.std.specs.Prelude.{ℕ, ◌==◌, nat_lt, if◌then◌else◌, List, [], ◌∷◌, length, Option, Some, None, Result, Ok, Err}
use Rattle.std.specs.Io.BufRead.{strip_last}
use Rattle.hex.specs.Hex.{decode_of}
use Rattle.hex.specs.declared.error.FromHexError.{FromHexError}
use Rattle.rip_wire.specs.Address.{address_in}
use Rattle.rip_wire.specs.Message.{Message, message_in}
use Rattle.rip_wire.specs.Name.{is_name}
use Rattle.rip_wire.specs.declared.error.WireError.{WireError}
use Rattle.rip_log.specs.Fields.{onto, fields_of, is_comment}
use Rattle.rip_log.specs.declared.error.LogCode.{LogCode}
use Rattle.rip_log.specs.declared.error.LogCode.TheVariants.{LongLine, Fields, LinkName, Sender, Hex, LongDatagram, Wire}
use Rattle.rip_log.specs.declared.limits.TheConstants.{MOST_LINE_BYTES}
use Rattle.rip_wire.specs.declared.limits.TheConstants.{MOST_BYTES}

-- the parts that line feeds end, and what follows the last one where there is anything
abbrev pub lines_of : List ℕ → List (List ℕ)
lines_of [] = []
lines_of (b ∷ bytes) = if b == 10 then [] ∷ lines_of bytes else onto b (lines_of bytes)

-- a captured datagram: the link's name, the number of the sender's address, and the bytes
pub record Capture : Type 0 where
  pub link : List ℕ
  pub sender : ℕ
  pub datagram : List ℕ

-- these bytes, if they are no more than a datagram has
abbrev pub sized : Result (List ℕ) FromHexError → Result (List ℕ) LogCode
sized (Ok bytes) = if nat_lt MOST_BYTES (length bytes) then Err LongDatagram else Ok bytes
sized (Err e) = Err Hex

-- the bytes of hex digits
abbrev pub bytes_of : List ℕ → Result (List ℕ) LogCode
bytes_of digits = sized (decode_of digits)

-- a capture of this datagram
abbrev pub checked : List ℕ → ℕ → List ℕ → Result Message WireError →
    Result (Option Capture) LogCode
checked link sender bytes (Ok message) =
    Ok (Some (record { link = link; sender = sender; datagram = bytes }))
checked link sender bytes (Err e) = Err (Wire e)

-- a capture of these bytes
abbrev pub capture_in : List ℕ → ℕ → Result (List ℕ) LogCode → Result (Option Capture) LogCode
capture_in link sender (Ok bytes) = checked link sender bytes (message_in bytes)
capture_in link sender (Err code) = Err code

abbrev pub with_sender : List ℕ → Option ℕ → List ℕ → Result (Option Capture) LogCode
with_sender link None digits = Err Sender
with_sender link (Some sender) digits = capture_in link sender (bytes_of digits)

-- what a link's name, a sender and digits say
abbrev pub three_fields : List ℕ → List ℕ → List ℕ → Result (Option Capture) LogCode
three_fields link sender digits =
    if is_name link then with_sender link (address_in sender) digits else Err LinkName

-- what these fields say
abbrev pub said_by : List (List ℕ) → Result (Option Capture) LogCode
said_by (link ∷ sender ∷ digits ∷ []) = three_fields link sender digits
said_by other = Err Fields

-- a line of blanks alone, and one that begins with #, say nothing
abbrev pub unless_skipped : List (List ℕ) → Result (Option Capture) LogCode
unless_skipped [] = Ok None
unless_skipped (first ∷ rest) =
    if is_comment (first ∷ rest) then Ok None else said_by (first ∷ rest)

-- what a line that is not too long says
abbrev pub judge_short : List ℕ → Result (Option Capture) LogCode
judge_short line = unless_skipped (fields_of (strip_last 13 line))

-- what a line says: nothing, a capture, or a fault
abbrev pub judge : List ℕ → Result (Option Capture) LogCode
judge line = if nat_lt MOST_LINE_BYTES (length line) then Err LongLine else judge_short line
