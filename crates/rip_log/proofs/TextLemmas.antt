-- What a call takes off a text, seen in one way or another.
use Rattle.std.proofs.Common.{◌≡◌, ◌≤◌, ◌+◌, ℕ, Bool, List, length, Option, Some, None, Ok, refl, sym, subst, arith, ◌<◌, ◌-◌, [], ◌∷◌, drop}
use Rattle.std.proofs.lemmas.List.{length-take}
use Rattle.std.specs.Io.BufRead.{strip_last}
use Rattle.std.specs.Io.KnownBytes.{Keeps}
use Rattle.rip_log.specs.Cuts.{FirstLine}
use Rattle.rip_log.specs.Held.{ready_lines}
use Rattle.rip_log.specs.Spans.{slice_of}
use Rattle.rip_log.specs.TextCall.{TakesBare, TextCall, text_lines, text_to_come}
use Rattle.rip_log.specs.Wholes.{rest_of}
use Rattle.rip_log.specs.declared.span.Span.{Span}
use Rattle.rip_log.specs.declared.text.TextReader.{TextReader}
use Rattle.rip_log.proofs.CarryLemmas.{first-kept}

pub ready-held : (bytes : List ℕ) → 0 < ready_lines bytes → 0 < length bytes
ready-held [] some = absurd (omega (arith, some))
ready-held (b ∷ bytes) some = omega arith

short-range : (items : List ℕ) (span : Span) → span.to ≤ span.from + 2048 → length (slice_of items span) ≤ 2048
short-range items span few = omega (arith, few, length-take (span.to - span.from) (drop span.from items))

-- a line that was cut off is taken
pub bare-taken : (t m left : Option (List ℕ)) (items : List ℕ) (span : Span) → Keeps t m → FirstLine m left (slice_of items span) → span.to ≤ span.from + 2048
    → TakesBare t left (strip_last 13 (slice_of items span))
bare-taken t m left items span keeps first few = (slice_of items span, first-kept t m left (slice_of items span) keeps first, short-range items span few, refl)

-- a call tells the same of a line that is seen in another way
module _ {R X Y : Type 0} (given : R → List ℕ) (coming : R → Option (List ℕ)) (broken at_end : R → Bool)
    (view : X → List ℕ) (number : X → ℕ) (other : Y → List ℕ) (others : Y → ℕ) (old new : TextReader R) where
  pub call-none : TextCall given coming broken at_end view number old new (Ok None) → TextCall given coming broken at_end other others old new (Ok None)
  call-none h = record {
    gives = h.gives;
    ended = λ was. cc (h.ended was);
    behind = h.behind;
    numbered = tt;
    here = tt;
    few = h.few;
    failed = λ e. cc e;
    marks = h.marks;
    stopped = h.stopped;
    over = λ _. h.over refl;
    went = h.went;
    unpulled = h.unpulled;
    rests = h.rests;
    ready = h.ready;
  }

  pub call-some : (x : X) (y : Y) → other y ≡ view x → others y ≡ text_lines new
      → TextCall given coming broken at_end view number old new (Ok (Some x)) → TextCall given coming broken at_end other others old new (Ok (Some y))
  call-some x y same numbered h = record {
    gives = λ running whole begins. subst (TakesBare (text_to_come (rest_of given whole) old) (text_to_come (rest_of given whole) new)) (sym same) (h.gives running whole begins);
    ended = λ was. cc (h.ended was);
    behind = h.behind;
    numbered = numbered;
    here = tt;
    few = h.few;
    failed = λ e. cc e;
    marks = h.marks;
    stopped = h.stopped;
    over = λ e. cc e;
    went = h.went;
    unpulled = h.unpulled;
    rests = h.rests;
    ready = h.ready;
  }
