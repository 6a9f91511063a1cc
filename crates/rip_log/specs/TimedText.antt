-- What the lines of a log with times are, in the words of its format.
use Rattle.std.specs.Prelude.{◌≡◌, ◌⊎◌, ◌+◌, ℕ, ◌<◌, ◌≤◌, List, [], ◌∷◌, length, Option, Some, None}
use Rattle.rip_log.specs.Lines.{Capture}
use Rattle.rip_log.specs.LogText.{AreLines, BadBy, HasFields, HasThree, IsSkipped, RecordBy, SaysNothing}
use Rattle.rip_log.specs.Logs.{Numbered}
use Rattle.rip_log.specs.Times.{IsTimeText}
use Rattle.rip_log.specs.declared.error.LogCode.{LogCode}
use Rattle.rip_log.specs.declared.error.LogCode.TheVariants.{LongLine, Fields}
use Rattle.rip_log.specs.declared.limits.TheConstants.{MOST_LINE_BYTES, MOST_MICROS}

-- a line of four fields: the text of a time, and three more
pub record HasTimed (line : List ℕ) (micros : ℕ) (link sender digits : List ℕ) : Type 0 where
  pub time : List ℕ
  pub has_fields : HasFields line (time ∷ link ∷ sender ∷ digits ∷ [])
  pub is_time : IsTimeText micros time

-- a line that says anything, of other fields
pub record HasNoTime (line : List ℕ) : Type 0 where
  pub fields : List (List ℕ)
  pub has_fields : HasFields line fields
  pub says : ¬ SaysNothing fields
  pub other : (micros : ℕ) (link sender digits : List ℕ) → ¬ HasTimed line micros link sender digits

-- a line that is bad and has no time
pub data IsUntimed (line : List ℕ) : LogCode → Type 0 where
  long_line : MOST_LINE_BYTES < length line → IsUntimed line LongLine
  other_fields : HasNoTime line → IsUntimed line Fields

-- what a line says that is not skipped: it is a record of a time, or bad at a time, by the three
-- fields behind it; or it is bad and has no time
pub data TimedSaid : Type 0 where
  captured : ℕ → Capture → TimedSaid
  bad : ℕ → LogCode → TimedSaid
  untimed : LogCode → TimedSaid

-- a line that is not skipped says this
abbrev pub SaysTimed : List ℕ → TimedSaid → Type 0
SaysTimed line (captured micros capture) = RecordBy (HasTimed line micros) capture
SaysTimed line (bad micros code) = BadBy (HasTimed line micros) code
SaysTimed line (untimed code) = IsUntimed line code

-- a line is skipped, or says this
abbrev pub IsTimedLine : List ℕ → Option TimedSaid → Type 0
IsTimedLine line None = IsSkipped line
IsTimedLine line (Some said) = SaysTimed line said

-- the time of what a line says, if it has one, is of the years to 9999
abbrev pub IsEarly : Option TimedSaid → Type 0
IsEarly None = Unit {0}
IsEarly (Some (captured micros capture)) = micros ≤ MOST_MICROS
IsEarly (Some (bad micros code)) = micros ≤ MOST_MICROS
IsEarly (Some (untimed code)) = Unit {0}

-- what a line says that is not skipped, with its number
pub record LineSaid : Type 0 where
  pub line : ℕ
  pub said : TimedSaid

-- what these lines say, of which n others come before: each that is not skipped, in order
abbrev pub AreTimedSaid : ℕ → List (List ℕ) → List LineSaid → Type 0
AreTimedSaid n [] said = said ≡ []
AreTimedSaid n (line ∷ lines) [] = IsSkipped line × AreTimedSaid (n + 1) lines []
AreTimedSaid n (line ∷ lines) (s ∷ said) =
    (IsSkipped line × AreTimedSaid (n + 1) lines (s ∷ said))
    ⊎ ((s.line ≡ n + 1) × SaysTimed line s.said × AreTimedSaid (n + 1) lines said)

-- what the lines of a text say
pub record TextSays (text : List ℕ) (said : List LineSaid) : Type 0 where
  pub lines : List (List ℕ)
  pub are_lines : AreLines text lines
  pub are_said : AreTimedSaid 0 lines said

-- ---- without times

-- a line is another with a time in front of its three fields; where that is skipped, so is it
pub record IsTimedOf (line bare : List ℕ) : Type 0 where
  pub timed : (link sender digits : List ℕ) → HasThree bare link sender digits
      → (micros : ℕ) × HasTimed line micros link sender digits
  pub skipped : IsSkipped bare → IsSkipped line

-- so is each of these lines, in order
abbrev pub AreTimedOf : List (List ℕ) → List (List ℕ) → Type 0
AreTimedOf [] bares = bares ≡ []
AreTimedOf (line ∷ lines) [] = ⊥
AreTimedOf (line ∷ lines) (bare ∷ bares) = IsTimedOf line bare × AreTimedOf lines bares

-- a line says this capture, of whatever time
abbrev pub IsCaptured : TimedSaid → Capture → Type 0
IsCaptured said capture = (micros : ℕ) × (said ≡ captured micros capture)

-- lines say the captures of these records, in order; numbers of lines may differ
abbrev pub AreCaptured : List LineSaid → List Numbered → Type 0
AreCaptured [] records = records ≡ []
AreCaptured (s ∷ said) [] = ⊥
AreCaptured (s ∷ said) (r ∷ records) = IsCaptured s.said r.capture × AreCaptured said records
