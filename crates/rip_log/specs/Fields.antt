-- The fields of a line.
use Rattle.std.specs.Prelude.{◌≡◌, ◌<◌, ◌≤◌, ℕ, ◌-◌, ◌==◌, ◌||◌, Bool, true, false, if◌then◌else◌, List, [], ◌∷◌, length, drop, slice_index}
use Rattle.rip_log.specs.declared.fields.Fields.{Fields}
use Rattle.rip_log.specs.declared.fields.Fields.TheVariants.{Nothing, Comment, TooFew, ThreeOrMore}
use Rattle.rip_log.specs.Spans.{IsWithin, slice_of}
use Rattle.rip_log.specs.declared.span.Span.{Span}

-- a space or a tab
abbrev pub is_blank : ℕ → Bool
is_blank b = b == 32 || b == 9

-- b in front of the first of these, or alone
abbrev pub onto : ℕ → List (List ℕ) → List (List ℕ)
onto b [] = (b ∷ []) ∷ []
onto b (first ∷ rest) = (b ∷ first) ∷ rest

-- nothing is left, or a blank comes
abbrev pub ends_field : List ℕ → Bool
ends_field [] = true
ends_field (b ∷ bytes) = is_blank b

-- the longest runs of bytes that are no blanks
abbrev pub fields_of : List ℕ → List (List ℕ)
fields_of [] = []
fields_of (b ∷ bytes) =
    if is_blank b then fields_of bytes else
    (if ends_field bytes then (b ∷ []) ∷ fields_of bytes else onto b (fields_of bytes))

-- the first field begins with #
abbrev pub is_comment : List (List ℕ) → Bool
is_comment ((x ∷ xs) ∷ rest) = x == 35
is_comment ([] ∷ rest) = false
is_comment [] = false

-- the next field from an offset on, and the rest
pub record NextField (line : List ℕ) (from : ℕ) (field : Span) : Type 0 where
  pub after : from ≤ field.from
  pub some : field.from < field.to
  pub within : field.to ≤ length line
  pub split : fields_of (drop from line) ≡ slice_of line field ∷ fields_of (drop field.to line)

-- there are bytes, and neither the first nor the last is a blank
pub record IsTrimmed (bytes : List ℕ) : Type 0 where
  pub some : 0 < length bytes
  pub first : is_blank (slice_index bytes 0) ≡ false
  pub last : is_blank (slice_index bytes (length bytes - 1)) ≡ false

-- the first two of these fields lie so in the line, and the third span has the others
abbrev pub AreThreeFrom : List ℕ → List (List ℕ) → Span × Span × Span → Type 0
AreThreeFrom line fields three =
    (fields ≡ slice_of line three.0 ∷ slice_of line three.1 ∷ fields_of (slice_of line three.2))
    × IsWithin (length line) three.0
    × IsWithin (length line) three.1
    × IsWithin (length line) three.2
    × IsTrimmed (slice_of line three.2)

-- the line has fields of this kind; the third span has the fields from the third on
abbrev pub IsSplit : List ℕ → Fields → Type 0
IsSplit line Nothing = fields_of line ≡ []
IsSplit line Comment = is_comment (fields_of line) ≡ true
IsSplit line TooFew = (is_comment (fields_of line) ≡ false)
    × (0 < length (fields_of line))
    × (length (fields_of line) < 3)
IsSplit line (ThreeOrMore a b rest) = (is_comment (fields_of line) ≡ false)
    × AreThreeFrom line (fields_of line) (a, b, rest)
