-- A line and the line without its carriage return.
use Rattle.std.proofs.Common.{◌≡◌, ◌+◌, ◌-◌, ◌≤◌, ◌<◌, ℕ, List, [], ◌∷◌, length, take, drop, slice_range, Option, Some, None, Result, Ok, Err, IfSome, refl, sym, ap, ◌∙◌, arith, Bool, true, false, cond}
use Rattle.std.proofs.lemmas.List.{take-take, drop-take, length-take, take_all}
use Rattle.std.specs.Io.BufRead.{strip_last, ends_with_byte}
use Rattle.rip_wire.specs.Name.{is_name}
use Rattle.rip_log.specs.Fields.{fields_of, is_comment}
use Rattle.rip_log.specs.Lines.{Capture, judge, judge_short, three_fields, unless_skipped}
use Rattle.rip_log.specs.Said.{Origin, origin_by, origin_of}
use Rattle.rip_log.specs.Parts.{AreThreeSaid, IsSaid, IsFront, AreParts, capture_of_parts, origin_at}
use Rattle.rip_log.specs.declared.error.LogCode.{LogCode}
use Rattle.rip_log.specs.declared.error.LogCode.TheVariants.{LongLine}
use Rattle.rip_log.specs.Spans.{slice_of}
use Rattle.rip_log.specs.declared.line.Fault.{Fault}
use Rattle.rip_log.specs.declared.line.Front.{Front as LineFront}
use Rattle.rip_log.specs.declared.line.Parts.{Parts}
use Rattle.rip_log.proofs.DigitLemmas.{good-field}

pub judge-short : (line : List ℕ) → length line ≤ 2048 → judge line ≡ judge_short line
judge-short line h = grind arith

pub judge-long : (line : List ℕ) → 2048 < length line → judge line ≡ Err LongLine
judge-long line h = grind arith

Front : List ℕ → List ℕ → Type 0
Front line front = (m : ℕ) × (m ≤ length line) × (front ≡ take m line)

front-of : (b : Bool) (line : List ℕ) → Front line (cond b (take (length line - 1) line) line)
unfolding Front
front-of true line = (length line - 1, omega arith, refl)
front-of false line = (length line, omega arith, sym (take_all (length line) line (omega arith)))

first-part : (line : List ℕ) (m from to : ℕ) → to ≤ m → from ≤ to → slice_range (take m line) from to ≡ slice_range line from to
first-part line m from to h o =
    let split : m ≡ from + (m - from) = omega arith in
    ap (λ k. take (to - from) (drop from (take k line))) split
    ∙ ap (take (to - from)) (drop-take from (m - from) line)
    ∙ take-take (to - from) (m - from) (drop from line) (omega arith)

-- what the front of a line says of its parts, the line does
parts-front : (line front room : List ℕ) (m : ℕ) (p : Parts) → m ≤ length line → front ≡ take m line → AreParts front room p →
    (capture_of_parts front room p ≡ capture_of_parts line room p) × AreParts line room p
parts-front line front room m p fits is parts =
    let link = p.link in
    let short : link.to ≤ m = omega (arith, parts.link.within, ap length is, length-take m line) in
    let same : slice_of front link ≡ slice_of line link = ap (λ l. slice_of l link) is ∙ first-part line m link.from link.to short parts.link.ordered in (
      ap (λ l. record { link = l; sender = p.sender; datagram = take p.count room }) same,
      record { link = record { ordered = parts.link.ordered; within = omega arith }; name = ap is_name (sym same) ∙ parts.name; count = parts.count; valid = parts.valid },
    )

-- and of its origin
front-within : (line front : List ℕ) (m : ℕ) (f : LineFront) → m ≤ length line → front ≡ take m line → IsFront front f
    → (slice_of front f.link ≡ slice_of line f.link) × IsFront line f
front-within line front m f fits is at =
    let short : f.link.to ≤ m = omega (arith, at.link.within, ap length is, length-take m line) in
    let same : slice_of front f.link ≡ slice_of line f.link = ap (λ l. slice_of l f.link) is ∙ first-part line m f.link.from f.link.to short at.link.ordered in
    (same, record { link = record { ordered = at.link.ordered; within = omega arith }; name = ap is_name (sym same) ∙ at.name })

front-origin : (line front : List ℕ) (m : ℕ) (o : Option LineFront) → m ≤ length line → front ≡ take m line → IfSome o (IsFront front)
    → (origin_at front o ≡ origin_at line o) × IfSome o (IsFront line)
front-origin line front m None fits is at = (refl, tt)
front-origin line front m (Some f) fits is at =
    let found = front-within line front m f fits is at in
    (ap (λ (l : List ℕ). Some (origin l f.sender)) found.0, found.1) where
      origin : List ℕ → ℕ → Origin
      origin l a = record { link = l; sender = a }

-- what is said of a line without its carriage return is said of the line
pub three-line : (said : Result (Option Capture) LogCode) (from : LogCode → Option Origin) (line room : List ℕ) (r : Result Parts Fault)
    → AreThreeSaid said from (strip_last 13 line) room r → AreThreeSaid said from line room r
unfolding Front
three-line said from line room (Ok p) h =
    let front = front-of (ends_with_byte 13 line) line in
    let moved = parts-front line (strip_last 13 line) room front.0 p front.1 front.2 h.1 in
    let said_of : Capture → Result (Option Capture) LogCode = λ e. Ok (Some e) in
    (h.0 ∙ ap said_of moved.0, moved.1)
three-line said from line room (Err fault) h =
    let front = front-of (ends_with_byte 13 line) line in
    let moved = front-origin line (strip_last 13 line) front.0 fault.front front.1 front.2 h.front in
    record { code = h.code; origin = h.origin ∙ moved.0; front = moved.1 }

pub IsSaid-line : (line room : List ℕ) (r : Result (Option Parts) Fault) → length line ≤ 2048
    → IsSaid (unless_skipped (fields_of (strip_last 13 line))) (origin_by (fields_of (strip_last 13 line))) (strip_last 13 line) room r → IsSaid (judge line) (origin_of line) line room r
IsSaid-line line room (Ok None) h said = judge-short line h ∙ said
IsSaid-line line room (Ok (Some p)) h said =
    let moved = three-line (judge_short line) (origin_of line) line room (Ok p) said in
    (judge-short line h ∙ moved.0, moved.1)
IsSaid-line line room (Err fault) h said =
    let moved = three-line (judge_short line) (origin_of line) line room (Err fault) said in
    record { code = judge-short line h ∙ moved.code; origin = moved.origin; front = moved.front }

-- what is said of three fields is said of a line that has them and is no comment
pub three-said : (fields : List (List ℕ)) (a b c line room : List ℕ) (r : Result (Option Parts) Fault) → fields ≡ a ∷ b ∷ c ∷ [] → is_comment fields ≡ false
    → IsSaid (three_fields a b c) (origin_by (a ∷ b ∷ c ∷ [])) line room r → IsSaid (unless_skipped fields) (origin_by fields) line room r
three-said fields a b c line room r is plain said =
    let none : is_comment (a ∷ b ∷ c ∷ []) ≡ false = sym (ap is_comment is) ∙ plain in
    rw is (rw none said)

-- what ends a line that is good is one field
pub good-said : (link sender s line room : List ℕ) (from : LogCode → Option Origin) (parts : Parts) → 0 < length s
    → AreThreeSaid (three_fields link sender s) from line room (Ok parts) → fields_of s ≡ s ∷ []
good-said link sender s line room from parts some said = good-field link sender s _ some said.0
