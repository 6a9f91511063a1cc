-- What a line with a time says, by its fields.
use Rattle.std.proofs.Common.{◌≡◌, ◌⊎◌, ◌≤◌, ◌<◌, ◌∙◌, ℕ, Bool, true, false, List, [], ◌∷◌, length, Option, Some, None, Result, Ok, IfSome, inl, inr, ap, arith, refl, subst, sym}
use Rattle.std.specs.Io.BufRead.{strip_last}
use Rattle.std.specs.Io.KnownBytes.{Keeps}
use Rattle.rip_log.specs.Cuts.{DropsFirst, FirstLine, IsEndless, LongFirst}
use Rattle.rip_log.specs.Fields.{fields_of, is_comment}
use Rattle.rip_log.specs.Held.{ended_lines}
use Rattle.rip_log.specs.Lines.{Capture, lines_of, three_fields}
use Rattle.rip_log.specs.LogText.{AreThreeJudged, HasFields, IsSkipped, SaysNothing}
use Rattle.rip_log.specs.TimedParts.{AreTimed}
use Rattle.rip_log.specs.TimedCall.{TakesTimed, TimedCall, timed_lines, timed_text}
use Rattle.rip_log.specs.TimedText.{HasTimed, IsEarly, IsTimedLine, IsUntimed, TimedSaid, untimed}
use Rattle.rip_log.specs.TimedText.IsUntimed.{long_line, other_fields}
use Rattle.rip_log.specs.Wholes.{rest_of}
use Rattle.rip_log.specs.declared.error.LogCode.{LogCode}
use Rattle.rip_log.specs.declared.error.LogCode.TheVariants.{Fields, LongLine}
use Rattle.rip_log.specs.declared.timed.reader.TimedReader.{TimedReader}
use Rattle.rip_log.proofs.CarryLemmas.{first-kept}
use Rattle.rip_log.proofs.JudgeRelations.{HasFields-line, WireLaws, fields-same, says-no, says-three, says-yes}

says_nothing : (fields : List (List ℕ)) → (fields ≡ []) ⊎ (is_comment fields ≡ true) → SaysNothing fields
says_nothing [] h = tt
says_nothing (first ∷ rest) (inl h) = absurd (cc h)
says_nothing (first ∷ rest) (inr h) = says-yes first rest h

says_something : (fields : List (List ℕ)) → 0 < length fields → is_comment fields ≡ false → ¬ SaysNothing fields
says_something [] some h = absurd (omega (arith, some))
says_something (first ∷ rest) some h = says-no first rest h

pub skipped-line : (line : List ℕ) → length line ≤ 2048 → (fields_of (strip_last 13 line) ≡ []) ⊎ (is_comment (fields_of (strip_last 13 line)) ≡ true) → IsSkipped line
skipped-line line short h = record {
  fields = fields_of (strip_last 13 line);
  has_fields = HasFields-line line short;
  says_nothing = says_nothing (fields_of (strip_last 13 line)) h;
}

pub untimed-line : (line : List ℕ) → length line ≤ 2048 → 0 < length (fields_of (strip_last 13 line)) → is_comment (fields_of (strip_last 13 line)) ≡ false
    → ((micros : ℕ) (link sender digits : List ℕ) → ¬ AreTimed (fields_of (strip_last 13 line)) micros link sender digits) → IsUntimed line Fields
untimed-line line short some plain none = other_fields (record {
  fields = fields_of (strip_last 13 line);
  has_fields = HasFields-line line short;
  says = says_something (fields_of (strip_last 13 line)) some plain;
  other = λ micros link sender digits has. none micros link sender digits (has.time, fields-same line (has.time ∷ link ∷ sender ∷ digits ∷ []) has.has_fields, has.is_time);
})

-- what is said of the three fields behind the time is said of the line
pub timed-line : WireLaws → (line : List ℕ) (micros : ℕ) (link sender digits : List ℕ) (r : Result (Option Capture) LogCode) → length line ≤ 2048
    → AreTimed (fields_of (strip_last 13 line)) micros link sender digits → three_fields link sender digits ≡ r → AreThreeJudged (HasTimed line micros) r
timed-line laws line micros link sender digits r short timed is =
    let has : HasTimed line micros link sender digits = record { time = timed.0; has_fields = subst (HasFields line) timed.1 (HasFields-line line short); is_time = timed.2 } in
    subst (AreThreeJudged (HasTimed line micros)) is (says-three laws (HasTimed line micros) link sender digits has)

-- a line that is too long is taken off the text
pub long-taken : (t m left : Option (List ℕ)) → LongFirst t → Keeps t m → DropsFirst m left → TakesTimed t left (Some (untimed LongLine))
long-taken None m left long keeps drops = tt
long-taken (Some t) None left long keeps drops = absurd keeps
long-taken (Some t) (Some m) None long keeps drops = absurd drops.1
long-taken (Some t) (Some m) (Some rest) long keeps drops =
    let first = first-kept (Some t) (Some m) (Some rest) drops.0 keeps drops.1 in
    let same : long.0 ≡ drops.0 = cc (long.3, first.0) in
    (drops.0, first, long_line (subst (λ (l : List ℕ). 2048 < length l) same long.2))

pub taken-kept : (t m left : Option (List ℕ)) (said : Option TimedSaid) → Keeps t m → TakesTimed m left said → TakesTimed t left said
taken-kept None m left said keeps taken = tt
taken-kept (Some t) None left said keeps taken = absurd keeps
taken-kept (Some t) (Some m) left said keeps taken = (taken.0, first-kept (Some t) (Some m) left taken.0 keeps taken.1, taken.2)

pub line-taken : (t left : Option (List ℕ)) (line : List ℕ) (said : Option TimedSaid) → FirstLine t left line → IsTimedLine line said → TakesTimed t left said
line-taken None left line said first says = tt
line-taken (Some t) left line said first says = (line, first, says)

pub endless-kept : (failed : Bool) (t m : Option (List ℕ)) → Keeps t m → (failed ≡ true) ⊎ IsEndless m → (failed ≡ true) ⊎ IsEndless t
endless-kept failed t m keeps (inl h) = inl h
endless-kept failed None m keeps (inr h) = inr tt
endless-kept failed (Some t) None keeps (inr h) = absurd keeps
endless-kept failed (Some t) (Some m) keeps (inr h) = inr (h.0, h.1, h.2, ap lines_of (sym keeps) ∙ h.3)

pub unread-kept : {P : Type 0} (failed : Bool) (t m : Option (List ℕ)) → Keeps t m → (failed ≡ true) ⊎ IsEndless m → (failed ≡ true) ⊎ (IsEndless t ⊎ P)
unread-kept failed t m keeps h = by (endless-kept failed t m keeps h)
  where
    by : {P : Type 0} → (failed ≡ true) ⊎ IsEndless t → (failed ≡ true) ⊎ (IsEndless t ⊎ P)
    by (inl h) = inl h
    by (inr h) = inr (inl h)

pub some-held : (bytes : List ℕ) → 0 < ended_lines bytes → 0 < length bytes
some-held [] some = absurd (omega (arith, some))
some-held (b ∷ bytes) some = omega arith

-- a call tells the same of a line that is seen in another way
module _ {R X Y E : Type 0} (given : R → List ℕ) (coming : R → Option (List ℕ)) (broken at_end : R → Bool)
    (view : X → Option TimedSaid) (number : X → Option ℕ) (other : Y → Option TimedSaid) (others : Y → Option ℕ) (old new : TimedReader R) where
  pub call-none : TimedCall {E = E} given coming broken at_end view number old new (Ok None) → TimedCall {E = E} given coming broken at_end other others old new (Ok None)
  call-none h = record {
    gives = h.gives;
    failed = tt;
    marks = h.marks;
    behind = h.behind;
    few = tt;
    numbered = tt;
    early = tt;
    over = λ _. h.over refl;
    went = h.went;
    unpulled = h.unpulled;
    ready = h.ready;
  }

  pub call-some : (x : X) (y : Y) → other y ≡ view x → IfSome (others y) (λ n. n ≡ timed_lines new)
      → TimedCall {E = E} given coming broken at_end view number old new (Ok (Some x)) → TimedCall {E = E} given coming broken at_end other others old new (Ok (Some y))
  call-some x y same numbered h = record {
    gives = λ whole begins. subst (TakesTimed (timed_text (rest_of given whole) old) (timed_text (rest_of given whole) new)) (sym same) (h.gives whole begins);
    failed = tt;
    marks = h.marks;
    behind = h.behind;
    few = h.few;
    numbered = numbered;
    early = subst IsEarly (sym same) h.early;
    over = λ e. cc e;
    went = h.went;
    unpulled = h.unpulled;
    ready = h.ready;
  }
