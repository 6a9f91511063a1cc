-- What the text of a log is, in the words of its format.
use Rattle.std.specs.Prelude.{◌≡◌, ◌≢◌, ◌⊎◌, ℕ, ◌+◌, ◌<◌, ◌≤◌, ◌^◌, List, [], ◌∷◌, ◌++◌, length, Option, Some, None, Result, Ok, Err, ⊤}
use Rattle.std.specs.List.{AllByRecursion}
use Rattle.hex.specs.Hex.{decode_of}
use Rattle.rip_wire.specs.Address.{address_text}
use Rattle.rip_wire.specs.Faults.{WireFault}
use Rattle.rip_wire.specs.Name.{IsName}
use Rattle.rip_wire.specs.declared.error.WireCode.{WireCode}
use Rattle.rip_wire.specs.declared.error.WireError.{WireError}
use Rattle.rip_log.specs.Lines.{Capture}
use Rattle.rip_log.specs.Logs.{Numbered}
use Rattle.rip_log.specs.declared.error.LogCode.{LogCode}
use Rattle.rip_log.specs.declared.error.LogCode.TheVariants.{LongLine, Fields, LinkName, Sender, Hex, LongDatagram, Wire, TooManyLines}
use Rattle.rip_log.specs.declared.limits.TheConstants.{MOST_LINE_BYTES, MOST_LINES}
use Rattle.rip_wire.specs.declared.limits.TheConstants.{MOST_BYTES}

-- no byte is a line feed
abbrev pub HasNoFeed : List ℕ → Type 0
HasNoFeed bytes = AllByRecursion (λ b. b ≢ 10) bytes

-- these lines, each with a line feed after it
abbrev pub ended_text : List (List ℕ) → List ℕ
ended_text [] = []
ended_text (line ∷ lines) = line ++ (10 ∷ ended_text lines)

-- what follows the last line feed is a line where there is anything
abbrev pub last_line : List ℕ → List (List ℕ)
last_line [] = []
last_line (b ∷ bytes) = (b ∷ bytes) ∷ []

-- the lines of a text: the parts that line feeds end, and what follows the last one
pub record AreLines (text : List ℕ) (lines : List (List ℕ)) : Type 0 where
  pub ended : List (List ℕ)
  pub last : List ℕ
  pub no_feed : AllByRecursion HasNoFeed ended
  pub no_feed_after : HasNoFeed last
  pub whole : text ≡ ended_text ended ++ last
  pub parts : lines ≡ ended ++ last_line last

-- the text is empty, or ends in a line feed
abbrev pub EndsLine : List ℕ → Type 0
EndsLine text = (text ≡ []) ⊎ ((front : List ℕ) × (text ≡ front ++ 10 ∷ []))

-- one carriage return at the end of the line is dropped
pub data IsBare (line bare : List ℕ) : Type 0 where
  returned : line ≡ bare ++ 13 ∷ [] → IsBare line bare
  whole : line ≡ bare → ((front : List ℕ) → line ≢ front ++ 13 ∷ []) → IsBare line bare

-- a space or a tab
abbrev pub IsBlank : ℕ → Type 0
IsBlank b = (b ≡ 32) ⊎ (b ≡ 9)

-- bytes end, or go on with a blank
abbrev pub EndsRun : List ℕ → Type 0
EndsRun [] = ⊤
EndsRun (b ∷ bytes) = IsBlank b

-- some bytes, none of them a blank
pub record IsField (field : List ℕ) : Type 0 where
  pub some : field ≢ []
  pub bytes : AllByRecursion (λ b. ¬ IsBlank b) field

-- the first field of a line, after blanks, as long as it can be, and what follows it
pub record FirstField (bare field rest : List ℕ) : Type 0 where
  pub before : List ℕ
  pub blanks : AllByRecursion IsBlank before
  pub is_field : IsField field
  pub longest : EndsRun rest
  pub whole : bare ≡ before ++ (field ++ rest)

-- the fields of a line without its carriage return: all of its longest runs of bytes that are no
-- blanks
abbrev pub AreFields : List ℕ → List (List ℕ) → Type 0
AreFields bare [] = AllByRecursion IsBlank bare
AreFields bare (field ∷ fields) =
    (rest : List ℕ) × FirstField bare field rest × AreFields rest fields

-- a line that is not too long, and its fields
pub record HasFields (line : List ℕ) (fields : List (List ℕ)) : Type 0 where
  pub short : length line ≤ MOST_LINE_BYTES
  pub bare : List ℕ
  pub is_bare : IsBare line bare
  pub are_fields : AreFields bare fields

-- blanks alone, or a first byte that is #
abbrev pub SaysNothing : List (List ℕ) → Type 0
SaysNothing [] = ⊤
SaysNothing (first ∷ rest) = (more : List ℕ) × (first ≡ 35 ∷ more)

-- a line that is skipped
pub record IsSkipped (line : List ℕ) : Type 0 where
  pub fields : List (List ℕ)
  pub has_fields : HasFields line fields
  pub says_nothing : SaysNothing fields

-- a line of three fields that is no comment
pub record HasThree (line link sender digits : List ℕ) : Type 0 where
  pub has_fields : HasFields line (link ∷ sender ∷ digits ∷ [])
  pub says : ¬ SaysNothing (link ∷ sender ∷ digits ∷ [])

-- the text of the sender's address
pub record IsSender (text : List ℕ) (address : ℕ) : Type 0 where
  pub fits : address < 2 ^ 32
  pub spelled : text ≡ address_text address

-- the first two of three fields are a link's name and a sender; Has says which three there are
pub record SenderBy (Has : List ℕ → List ℕ → List ℕ → Type 0) (link digits : List ℕ)
    (address : ℕ) : Type 0 where
  pub sender : List ℕ
  pub three : Has link sender digits
  pub name : IsName link
  pub is_sender : IsSender sender address

-- three fields are a record: their digits spell a datagram without a fault
pub record RecordBy (Has : List ℕ → List ℕ → List ℕ → Type 0) (capture : Capture) : Type 0 where
  pub digits : List ℕ
  pub front : SenderBy Has capture.link digits capture.sender
  pub bytes : decode_of digits ≡ Ok capture.datagram
  pub few : length capture.datagram ≤ MOST_BYTES
  pub no_fault : (code : WireCode) (at : ℕ) → ¬ WireFault capture.datagram code at

-- three fields are bad, by the first of their faults
pub data BadBy (Has : List ℕ → List ℕ → List ℕ → Type 0) : LogCode → Type 0 where
  no_name : (link sender digits : List ℕ) → Has link sender digits → ¬ IsName link
      → BadBy Has LinkName
  no_sender : (link sender digits : List ℕ) → Has link sender digits → IsName link
      → ((address : ℕ) → ¬ IsSender sender address) → BadBy Has Sender
  no_hex : (link digits : List ℕ) (address : ℕ) → SenderBy Has link digits address
      → ((bytes : List ℕ) → decode_of digits ≢ Ok bytes) → BadBy Has Hex
  long_datagram : (link digits bytes : List ℕ) (address : ℕ) → SenderBy Has link digits address
      → decode_of digits ≡ Ok bytes → MOST_BYTES < length bytes → BadBy Has LongDatagram
  no_datagram : (link digits bytes : List ℕ) (address : ℕ) (e : WireError)
      → SenderBy Has link digits address → decode_of digits ≡ Ok bytes
      → length bytes ≤ MOST_BYTES → WireFault bytes e.code e.at → BadBy Has (Wire e)

-- three fields are judged: they are a record, or are bad
abbrev pub AreThreeJudged : (List ℕ → List ℕ → List ℕ → Type 0) →
    Result (Option Capture) LogCode → Type 0
AreThreeJudged Has (Ok None) = ⊥
AreThreeJudged Has (Ok (Some capture)) = RecordBy Has capture
AreThreeJudged Has (Err code) = BadBy Has code

-- a line whose first two fields are a link's name and a sender
abbrev pub HasSender : List ℕ → List ℕ → List ℕ → ℕ → Type 0
HasSender line = SenderBy (HasThree line)

-- a line that is a record
abbrev pub IsRecord : List ℕ → Capture → Type 0
IsRecord line = RecordBy (HasThree line)

-- fields of another number than three, where they say anything
pub record HasOthers (line : List ℕ) : Type 0 where
  pub fields : List (List ℕ)
  pub has_fields : HasFields line fields
  pub says : ¬ SaysNothing fields
  pub count : length fields ≢ 3

-- a line that is bad by itself, by the first of its faults
pub data IsBad (line : List ℕ) : LogCode → Type 0 where
  long_line : MOST_LINE_BYTES < length line → IsBad line LongLine
  other_fields : HasOthers line → IsBad line Fields
  of_three : (code : LogCode) → BadBy (HasThree line) code → IsBad line code

-- a line is judged: it is skipped, or is a record, or is bad
abbrev pub IsLineJudged : List ℕ → Result (Option Capture) LogCode → Type 0
IsLineJudged line (Ok None) = IsSkipped line
IsLineJudged line (Ok (Some capture)) = IsRecord line capture
IsLineJudged line (Err code) = IsBad line code

-- the records of lines, of which n others come before: of each that is not skipped, in order
abbrev pub AreRecords : ℕ → List (List ℕ) → List Numbered → Type 0
AreRecords n [] records = records ≡ []
AreRecords n (line ∷ lines) [] = IsSkipped line × AreRecords (n + 1) lines []
AreRecords n (line ∷ lines) (r ∷ records) =
    (IsSkipped line × AreRecords (n + 1) lines (r ∷ records))
    ⊎ ((r.line ≡ n + 1) × IsRecord line r.capture × AreRecords (n + 1) lines records)

-- a log without a fault, and its records
pub record LogText (text : List ℕ) (records : List Numbered) : Type 0 where
  pub lines : List (List ℕ)
  pub are_lines : AreLines text lines
  pub few : length lines ≤ MOST_LINES
  pub are_records : AreRecords 0 lines records

-- why a line is bad that comes after n others: there are too many, or it is bad by itself
pub data IsFault (n : ℕ) (line : List ℕ) (code : LogCode) : Type 0 where
  too_many : n ≡ MOST_LINES → code ≡ TooManyLines → IsFault n line code
  bad : n < MOST_LINES → IsBad line code → IsFault n line code

-- the first bad line of a log, and its first code; the records are those of the lines before it
pub record LogFault (text : List ℕ) (records : List Numbered) (line : ℕ) (code : LogCode)
    : Type 0 where
  pub before : List (List ℕ)
  pub bad : List ℕ
  pub after : List (List ℕ)
  pub are_lines : AreLines text (before ++ bad ∷ after)
  pub are_records : AreRecords 0 before records
  pub number : line ≡ length before + 1
  pub fault : IsFault (length before) bad code

-- a log whose source failed while this line was read, this text being still to come; the records
-- are those of the lines before it
pub record LogFailed (text left : List ℕ) (records : List Numbered) (line : ℕ) : Type 0 where
  pub before : List (List ℕ)
  pub after : List (List ℕ)
  pub are_lines : AreLines text (before ++ after)
  pub to_come : AreLines left after
  pub are_records : AreRecords 0 before records
  pub number : line ≡ length before + 1
