-- Where the parts of a line with a time lie, and what they say.
use Rattle.std.specs.Prelude.{◌≡◌, ◌<◌, ◌≤◌, ◌⊎◌, ℕ, true, false, List, [], ◌∷◌, length, Option, Some, None}
use Rattle.rip_log.specs.Codes.{code_of}
use Rattle.rip_log.specs.Fields.{fields_of, is_comment}
use Rattle.rip_log.specs.Parts.{AreParts, capture_of_parts}
use Rattle.rip_log.specs.Spans.{IsWithin, slice_of}
use Rattle.rip_log.specs.TimedText.{TimedSaid, captured, bad, untimed}
use Rattle.rip_log.specs.Times.{IsTimeText}
use Rattle.rip_log.specs.declared.error.LogCode.TheVariants.{Fields}
use Rattle.rip_log.specs.declared.limits.TheConstants.{MOST_MICROS}
use Rattle.rip_log.specs.declared.timed.fields.TimedFields.{TimedFields}
use Rattle.rip_log.specs.declared.timed.fields.TimedFields.TheVariants as split
use Rattle.rip_log.specs.declared.timed.line.Judged.{Judged}
use Rattle.rip_log.specs.declared.timed.line.Judged.TheVariants.{Skipped, Untimed, Record, Bad}

-- there are four fields, the first of which is the text of a time
abbrev pub AreTimed : List (List ℕ) → ℕ → List ℕ → List ℕ → List ℕ → Type 0
AreTimed fields micros link sender digits =
    (time : List ℕ) × (fields ≡ time ∷ link ∷ sender ∷ digits ∷ []) × IsTimeText micros time

-- the line has fields of this kind
abbrev pub IsSplitTimed : List ℕ → TimedFields → Type 0
IsSplitTimed line split.Nothing = (fields_of line ≡ []) ⊎ (is_comment (fields_of line) ≡ true)
IsSplitTimed line split.Others =
    (0 < length (fields_of line)) × (is_comment (fields_of line) ≡ false)
    × ((micros : ℕ) (link sender digits : List ℕ) → ¬ AreTimed (fields_of line) micros link sender digits)
IsSplitTimed line (split.Four micros link sender digits) =
    AreTimed (fields_of line) micros (slice_of line link) (slice_of line sender) (slice_of line digits)
    × IsWithin (length line) link
    × IsWithin (length line) sender
    × IsWithin (length line) digits

-- what was found of a line says this
abbrev pub timed_said : List ℕ → List ℕ → Judged → Option TimedSaid
timed_said line room Skipped = None
timed_said line room Untimed = Some (untimed Fields)
timed_said line room (Record micros parts) = Some (captured micros (capture_of_parts line room parts))
timed_said line room (Bad micros why) = Some (bad micros (code_of why))

-- the parts of a record lie in the line and the room
abbrev pub AreTimedParts : List ℕ → List ℕ → Judged → Type 0
AreTimedParts line room (Record micros parts) = AreParts line room parts
AreTimedParts line room other = Unit {0}

-- the time that was found, if there is one, is of the years to 9999
abbrev pub IsEarlySplit : TimedFields → Type 0
IsEarlySplit (split.Four micros link sender digits) = micros ≤ MOST_MICROS
IsEarlySplit _ = Unit {0}

abbrev pub IsEarlyJudged : Judged → Type 0
IsEarlyJudged (Record micros parts) = micros ≤ MOST_MICROS
IsEarlyJudged (Bad micros why) = micros ≤ MOST_MICROS
IsEarlyJudged _ = Unit {0}
