-- How many lines were passed.
use Rattle.std.proofs.Common.{◌≡◌, ◌+◌, ◌≤◌, ℕ, List, [], ◌∷◌, ◌++◌, Bool, true, false, not, Option, Some, None, refl, sym, ap, ◌∙◌, arith, append_assoc, length-append}
use Rattle.std.specs.Io.KnownBytes.{Keeps}
use Rattle.rip_log.specs.Cuts.{DropsFirst, DropsFront, DropsLines, FirstLine, PassesLines}
use Rattle.rip_log.specs.Codes.{is_read}
use Rattle.rip_log.specs.Lines.{lines_of}
use Rattle.rip_log.specs.Logs.{IfElse}
use Rattle.rip_log.specs.Steps.{IsPastLast}
use Rattle.rip_log.specs.declared.error.LogError.{LogError}
use Rattle.rip_log.proofs.CarryLemmas.{first-kept}

pub passes_kept : (t mid : Option (List ℕ)) (n after : ℕ) → Keeps t mid → after ≡ n → PassesLines t n mid after
passes_kept None mid n after keeps same = tt
passes_kept (Some t) None n after keeps same = absurd keeps
passes_kept (Some t) (Some m) n after keeps same = ([], ap lines_of (sym keeps), omega (arith, same))

failed-by : (t mid : Option (List ℕ)) (n after : ℕ) (e : LogError) (x : Bool) → not x ≡ false → IfElse x (Keeps t mid) (IsPastLast t mid n e.code) → after ≡ n → PassesLines t n mid after
failed-by t mid n after e true read says same = passes_kept t mid n after says same
failed-by t mid n after e false read says same = cc read

-- a code that is not Read refuses
pub calm-refused : (x : Bool) → x ≡ false → not x ≡ false → ⊥
calm-refused true calm fine = cc calm
calm-refused false calm fine = cc fine

-- where the source failed the text was kept
pub passes_failed : (t mid : Option (List ℕ)) (n after : ℕ) (e : LogError) → not (is_read e.code) ≡ false → IfElse (is_read e.code) (Keeps t mid) (IsPastLast t mid n e.code) → after ≡ n →
    PassesLines t n mid after
passes_failed t mid n after e read says same = failed-by t mid n after e (is_read e.code) read says same

pub passes_line : (t new : Option (List ℕ)) (n after : ℕ) (line : List ℕ) → FirstLine t new line → after ≡ n + 1 → PassesLines t n new after
passes_line None new n after line cut count = tt
passes_line (Some t) None n after line cut count = absurd cut
passes_line (Some t) (Some r) n after line cut count = (line ∷ [], cut.0, omega (arith, count))

pub passes_trans : (t mid new : Option (List ℕ)) (n between after : ℕ) → PassesLines t n mid between → PassesLines mid between new after → PassesLines t n new after
passes_trans None mid new n between after first second = tt
passes_trans (Some t) None new n between after first second = absurd first
passes_trans (Some t) (Some m) None n between after first second = absurd second
passes_trans (Some t) (Some m) (Some r) n between after first second = (
  first.0 ++ second.0,
  first.1 ∙ ap (λ (l : List (List ℕ)). first.0 ++ l) second.1 ∙ sym (append_assoc first.0 second.0 (lines_of r)),
  omega (arith, first.2, second.2, length-append first.0 second.0),
)

-- a line that was skipped
pub passes_long : (t m new : Option (List ℕ)) (n after : ℕ) → Keeps t m → DropsFirst m new → after ≡ n + 1 → PassesLines t n new after
passes_long t m new n after keeps drops count = passes_line t new n after drops.0 (first-kept t m new drops.0 keeps drops.1) count

-- ---- no line is taken behind one

pub front_kept : (t left : Option (List ℕ)) → Keeps t left → DropsFront t left
front_kept None left keeps = tt
front_kept (Some t) None keeps = absurd keeps
front_kept (Some t) (Some r) keeps = ([], sym keeps)

pub front_line : (t left : Option (List ℕ)) (line : List ℕ) → FirstLine t left line → DropsFront t left
front_line None left line cut = tt
front_line (Some t) None line cut = absurd cut
front_line (Some t) (Some r) line cut = (cut.1, cut.2)

pub front_trans : (t mid left : Option (List ℕ)) → DropsFront t mid → DropsFront mid left → DropsFront t left
front_trans None mid left first second = tt
front_trans (Some t) None left first second = absurd first
front_trans (Some t) (Some m) None first second = absurd second
front_trans (Some t) (Some m) (Some r) first second = (
  first.0 ++ second.0,
  first.1 ∙ ap (λ (l : List ℕ). first.0 ++ l) second.1 ∙ sym (append_assoc first.0 second.0 r),
)

-- lines that were passed are behind
pub drops_passed : (t left : Option (List ℕ)) (n after last : ℕ) → PassesLines t n left after → DropsFront t left → after ≤ last → DropsLines t n left last
drops_passed None left n after last passes front within = tt
drops_passed (Some t) None n after last passes front within = absurd passes
drops_passed (Some t) (Some r) n after last passes front within = (front.0, passes.0, front.1, passes.1, omega (arith, passes.2))

pub drops_kept : (t left : Option (List ℕ)) (n last : ℕ) → Keeps t left → n ≤ last → DropsLines t n left last
drops_kept t left n last keeps within = drops_passed t left n n last (passes_kept t left n n keeps refl) (front_kept t left keeps) within

pub drops_none : (t : Option (List ℕ)) (n last : ℕ) → n ≤ last → DropsLines t n t last
drops_none None n last within = tt
drops_none (Some t) n last within = ([], [], refl, refl, omega arith)

pub drops_line : (t left : Option (List ℕ)) (n last : ℕ) (line : List ℕ) → FirstLine t left line → n + 1 ≤ last → DropsLines t n left last
drops_line t left n last line cut within = drops_passed t left n (n + 1) last (passes_line t left n (n + 1) line cut refl) (front_line t left line cut) within

-- where the source failed, or there are too many lines, the text was kept
drops-by : (t left : Option (List ℕ)) (n last : ℕ) (e : LogError) (x : Bool) → IfElse x (Keeps t left) (IsPastLast t left n e.code) → n ≤ last → DropsLines t n left last
drops-by t left n last e true says within = drops_kept t left n last says within
drops-by t left n last e false says within = drops_kept t left n last says.0 within

pub drops_failed : (t left : Option (List ℕ)) (n last : ℕ) (e : LogError) → IfElse (is_read e.code) (Keeps t left) (IsPastLast t left n e.code) → n ≤ last → DropsLines t n left last
drops_failed t left n last e says within = drops-by t left n last e (is_read e.code) says within

pub drops_trans : (t mid left : Option (List ℕ)) (n between last : ℕ) → DropsLines t n mid between → DropsLines mid between left last → DropsLines t n left last
drops_trans None mid left n between last first second = tt
drops_trans (Some t) None left n between last first second = absurd first
drops_trans (Some t) (Some m) None n between last first second = absurd second
drops_trans (Some t) (Some m) (Some r) n between last first second =
    let front = front_trans (Some t) (Some m) (Some r) (first.0, first.2) (second.0, second.2) in (
      front.0,
      first.1 ++ second.1,
      front.1,
      first.3 ∙ ap (λ (l : List (List ℕ)). first.1 ++ l) second.3 ∙ sym (append_assoc first.1 second.1 (lines_of r)),
      omega (arith, first.4, second.4, length-append first.1 second.1),
    )
