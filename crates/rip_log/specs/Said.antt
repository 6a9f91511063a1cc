-- What all lines of a text say, where a bad one does not end the reading.
use Rattle.std.specs.Prelude.{◌≡◌, ◌≢◌, ◌⊎◌, ℕ, ◌+◌, ◌≤◌, nat_le, if◌then◌else◌, Bool, true, false, List, [], ◌∷◌, ◌++◌, length, Option, Some, None, Result, Ok, Err, ⊤}
use Rattle.std.specs.List.{AllByRecursion}
use Rattle.std.specs.Option.{option_map}
use Rattle.std.specs.Io.BufRead.{strip_last}
use Rattle.rip_wire.specs.Address.{address_in}
use Rattle.rip_log.specs.Fields.{fields_of}
use Rattle.rip_log.specs.Lines.{Capture, lines_of, judge}
use Rattle.rip_log.specs.Logs.{Log, Numbered, ended_log, faulty_log, onto_log}
use Rattle.rip_log.specs.LogText.{AreLines, HasSender, IsBad, IsRecord, IsSkipped}
use Rattle.rip_log.specs.declared.error.LogCode.{LogCode}
use Rattle.rip_log.specs.declared.error.LogCode.TheVariants.{LongDatagram, TooManyLines, Wire}
use Rattle.rip_log.specs.declared.limits.TheConstants.{MOST_LINES}

-- where a datagram came from: the link's name and the number of the sender's address
pub record Origin : Type 0 where
  pub link : List ℕ
  pub sender : ℕ

-- what a line says that is not skipped: a record, or that it is bad, by which code and, of codes 6
-- and 7, from where
pub data Said : Type 0 where
  captured : Capture → Said
  bad : LogCode → Option Origin → Said

-- it, with the number of its line
pub record SaidAt : Type 0 where
  pub line : ℕ
  pub said : Said

-- what the lines of a text say, in order, skipped ones left out, and whether there are too many
pub record AllSaid : Type 0 where
  pub said : List SaidAt
  pub too_many : Bool

-- a line of this code is bad by its datagram alone, so that its link and sender are known
abbrev pub is_of_datagram : LogCode → Bool
is_of_datagram LongDatagram = true
is_of_datagram (Wire e) = true
is_of_datagram other = false

-- ---- in the words of the format

-- the origin of a line that is bad by this code
abbrev pub IsOrigin : List ℕ → LogCode → Option Origin → Type 0
IsOrigin line code None = is_of_datagram code ≡ false
IsOrigin line code (Some origin) =
    (is_of_datagram code ≡ true)
    × (digits : List ℕ) × HasSender line origin.link digits origin.sender

-- a line that is not skipped says this
abbrev pub Says : List ℕ → Said → Type 0
Says line (captured capture) = IsRecord line capture
Says line (bad code origin) = IsBad line code × IsOrigin line code origin

-- what these lines say, of which n others come before: each that is not skipped, in order
abbrev pub AreSaid : ℕ → List (List ℕ) → List SaidAt → Type 0
AreSaid n [] said = said ≡ []
AreSaid n (line ∷ lines) [] = IsSkipped line × AreSaid (n + 1) lines []
AreSaid n (line ∷ lines) (s ∷ said) =
    (IsSkipped line × AreSaid (n + 1) lines (s ∷ said))
    ⊎ ((s.line ≡ n + 1) × Says line s.said × AreSaid (n + 1) lines said)

-- what comes after the lines that are read: nothing, or after as many as are read something
abbrev pub ComesAfter : Bool → ℕ → List (List ℕ) → Type 0
ComesAfter false n after = after ≡ []
ComesAfter true n after = (n ≡ MOST_LINES) × (after ≢ [])

-- what all lines of a text say: of its first 1,000,000, and whether there are more
pub record AreAllSaid (text : List ℕ) (all : AllSaid) : Type 0 where
  pub lines : List (List ℕ)
  pub after : List (List ℕ)
  pub are_lines : AreLines text (lines ++ after)
  pub few : length lines ≤ MOST_LINES
  pub are_said : AreSaid 0 lines all.said
  pub comes_after : ComesAfter all.too_many (length lines) after

-- a record is said, and not that a line is bad
abbrev pub IsCaptured : Said → Type 0
IsCaptured (captured capture) = ⊤
IsCaptured (bad code origin) = ⊥

-- no line is bad, and there are not too many
pub record HasNoFault (all : AllSaid) : Type 0 where
  pub few : all.too_many ≡ false
  pub good : AllByRecursion (λ s. IsCaptured s.said) all.said

-- ---- what is computed

-- the origin that three fields name
abbrev pub origin_in : List (List ℕ) → Option Origin
origin_in (link ∷ sender ∷ digits ∷ []) =
    option_map (λ a. record { link = link; sender = a }) (address_in sender)
origin_in other = None

-- the origin of fields that are bad by this code
abbrev pub origin_by : List (List ℕ) → LogCode → Option Origin
origin_by fields code = if is_of_datagram code then origin_in fields else None

-- the origin of a line that is bad by this code
abbrev pub origin_of : List ℕ → LogCode → Option Origin
origin_of line code = origin_by (fields_of (strip_last 13 line)) code

-- what a judged line says, if it is not skipped
abbrev pub said_in : List ℕ → Result (Option Capture) LogCode → Option Said
said_in line (Ok None) = None
said_in line (Ok (Some capture)) = Some (captured capture)
said_in line (Err code) = Some (bad code (origin_of line code))

abbrev pub nothing_said : AllSaid
nothing_said = record { said = []; too_many = false }

abbrev pub many_lines : AllSaid
many_lines = record { said = []; too_many = true }

abbrev pub onto_said : SaidAt → AllSaid → AllSaid
onto_said s all = record { said = s ∷ all.said; too_many = all.too_many }

-- what line n says, and then these
abbrev pub with_said : ℕ → Option Said → AllSaid → AllSaid
with_said n None later = later
with_said n (Some s) later = onto_said (record { line = n; said = s }) later

-- what the lines after n others say
abbrev pub all_of : ℕ → List (List ℕ) → AllSaid
all_of n [] = nothing_said
all_of n (line ∷ rest) =
    if nat_le MOST_LINES n then many_lines
    else with_said (n + 1) (said_in line (judge line)) (all_of (n + 1) rest)

-- what all lines of a text say
abbrev pub all_said : List ℕ → AllSaid
all_said text = all_of 0 (lines_of text)

-- what the lines of a text after n others say, where the text is modelled
abbrev pub said_at : ℕ → Option (List ℕ) → Option AllSaid
said_at n t = option_map (λ t. all_of n (lines_of t)) t

-- the records of a log, as they are said
abbrev pub captured_all : List Numbered → List SaidAt
captured_all [] = []
captured_all (r ∷ records) =
    (record { line = r.line; said = captured r.capture }) ∷ captured_all records

-- nothing was taken off what is to be said, where it is modelled
abbrev pub SameSaid : Option AllSaid → Option AllSaid → Type 0
SameSaid None new = Unit {0}
SameSaid (Some all) new = new ≡ Some all

-- what a line says, in front of the log of those after it
abbrev pub log_from : ℕ → Said → Log → Log
log_from line (captured capture) later = onto_log (record { line = line; capture = capture }) later
log_from line (bad code origin) later = faulty_log (record { line = line; code = code })

-- the log of lines that say this: the records up to the first bad line, or to one line too many
abbrev pub log_up_to : List SaidAt → Bool → Log
log_up_to [] false = ended_log
log_up_to [] true = faulty_log (record { line = MOST_LINES + 1; code = TooManyLines })
log_up_to (s ∷ said) too_many = log_from s.line s.said (log_up_to said too_many)

-- the log of all that is said
abbrev pub log_said : AllSaid → Log
log_said all = log_up_to all.said all.too_many
