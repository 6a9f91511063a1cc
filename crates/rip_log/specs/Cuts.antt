-- What taking the first line off a text leaves.
use Rattle.std.specs.Prelude.{◌≡◌, ◌<◌, ◌≤◌, ◌+◌, ℕ, Bool, true, false, List, [], ◌∷◌, ◌++◌, Option, Some, None, length}
use Rattle.std.specs.Io.KnownBytes.{Keeps}
use Rattle.rip_log.specs.Held.{ended_lines, ready_lines}
use Rattle.rip_log.specs.Lines.{lines_of}
use Rattle.rip_log.specs.Spans.{IsWithin, slice_of}
use Rattle.rip_log.specs.declared.limits.TheConstants.{MOST_LINE_BYTES, MOST_PASSED_BYTES}
use Rattle.rip_log.specs.declared.window.RawLine.{RawLine}
use Rattle.rip_log.specs.declared.window.RawLine.TheVariants.{Line, Long}

-- known text has a line, or it has none
abbrev pub HasLine : Option (List ℕ) → Bool → Type 0
HasLine None some = Unit {0}
HasLine (Some t) true = (line : List ℕ) × (rest : List (List ℕ)) × (lines_of t ≡ line ∷ rest)
HasLine (Some t) false = t ≡ []

-- known text begins with this line, and goes on with what is left
abbrev pub FirstLine : Option (List ℕ) → Option (List ℕ) → List ℕ → Type 0
FirstLine None left line = Unit {0}
FirstLine (Some t) None line = ⊥
FirstLine (Some t) (Some rest) line =
    (lines_of t ≡ line ∷ lines_of rest) × (front : List ℕ) × (t ≡ front ++ rest)

-- known text begins with a line that is too long
abbrev pub LongFirst : Option (List ℕ) → Type 0
LongFirst None = Unit {0}
LongFirst (Some t) =
    (line : List ℕ) × (rest : List (List ℕ))
    × (MOST_LINE_BYTES < length line) × (lines_of t ≡ line ∷ rest)

-- known text begins with a line, and goes on with what is left
abbrev pub DropsFirst : Option (List ℕ) → Option (List ℕ) → Type 0
DropsFirst t left = (line : List ℕ) × FirstLine t left line

-- known text begins with a line of more bytes than are skipped
abbrev pub IsEndless : Option (List ℕ) → Type 0
IsEndless None = Unit {0}
IsEndless (Some t) =
    (line : List ℕ) × (rest : List (List ℕ))
    × (MOST_PASSED_BYTES < length line) × (lines_of t ≡ line ∷ rest)

-- the line was taken off the text, or is too long and still there; items is the buffer then
abbrev pub Cuts : Option (List ℕ) → Option (List ℕ) → List ℕ → RawLine → Type 0
Cuts old new items (Line span) = FirstLine old new (slice_of items span)
Cuts old new items Long = LongFirst old × Keeps old new

-- where the line lies
abbrev pub LiesWithin : ℕ → RawLine → Type 0
LiesWithin n (Line span) = IsWithin n span × (span.to ≤ span.from + MOST_LINE_BYTES)
LiesWithin n Long = Unit {0}

-- one of the lines that were ready was taken, and the others are ready still
abbrev pub TakesReady : List ℕ → List ℕ → RawLine → Type 0
TakesReady old new (Line span) = ready_lines old ≡ ready_lines new + 1
TakesReady old new Long = Unit {0}

-- one of the lines that a line feed ends was taken, and the others are there still
abbrev pub TakesEnded : List ℕ → List ℕ → RawLine → Type 0
TakesEnded old new (Line span) = ended_lines old ≡ ended_lines new + 1
TakesEnded old new Long = new ≡ old

-- these many lines of known text, of which n others come before, were passed
abbrev pub PassesLines : Option (List ℕ) → ℕ → Option (List ℕ) → ℕ → Type 0
PassesLines None n left after = Unit {0}
PassesLines (Some t) n None after = ⊥
PassesLines (Some t) n (Some rest) after =
    (passed : List (List ℕ))
    × (lines_of t ≡ passed ++ lines_of rest) × (after ≡ n + length passed)

-- known text ends with what is left
abbrev pub DropsFront : Option (List ℕ) → Option (List ℕ) → Type 0
DropsFront None left = Unit {0}
DropsFront (Some t) None = ⊥
DropsFront (Some t) (Some rest) = (front : List ℕ) × (t ≡ front ++ rest)

-- lines of known text, of which n others come before, were taken off it, and none behind this one
abbrev pub DropsLines : Option (List ℕ) → ℕ → Option (List ℕ) → ℕ → Type 0
DropsLines None n left last = Unit {0}
DropsLines (Some t) n None last = ⊥
DropsLines (Some t) n (Some rest) last =
    (front : List ℕ) × (dropped : List (List ℕ)) × (t ≡ front ++ rest)
    × (lines_of t ≡ dropped ++ lines_of rest) × (n + length dropped ≤ last)
