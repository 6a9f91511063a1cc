-- What taking a line does to what is to be said.
use Rattle.std.proofs.Common.{◌≡◌, ◌⊎◌, ◌+◌, ◌≤◌, ◌<◌, ℕ, Bool, true, false, List, ◌∷◌, length, Option, Some, None, Result, Ok, Err, refl, sym, ap, ◌∙◌, subst, inl, inr}
use Rattle.std.proofs.lemmas.Bool.{le-leb, lt-leb}
use Rattle.std.specs.Io.KnownBytes.{Keeps}
use Rattle.rip_log.specs.Codes.{is_read}
use Rattle.rip_log.specs.Cuts.{DropsFirst, FirstLine, HasLine, IsEndless, LongFirst, PassesLines}
use Rattle.rip_log.specs.Said.{AllSaid, Said, SameSaid, bad, all_of, many_lines, onto_said, said_at, said_in, with_said}
use Rattle.rip_log.specs.NextLineCall.{BeginsEndless, GivesLine, IsUnread}
use Rattle.rip_log.specs.Lines.{Capture, lines_of, judge}
use Rattle.rip_log.specs.Logs.{IfElse}
use Rattle.rip_log.specs.Steps.{IsPastLast, TakesLine}
use Rattle.rip_log.specs.declared.error.LogCode.{LogCode}
use Rattle.rip_log.specs.declared.error.LogCode.TheVariants.{LongLine}
use Rattle.rip_log.specs.declared.error.LogError.{LogError}
use Rattle.rip_log.proofs.CarryLemmas.{first-kept}
use Rattle.rip_log.proofs.JudgeLemmas.{judge-long}
use Rattle.rip_log.proofs.CodeLemmas.{else-holds, then-holds}

-- what the first of several lines says, and then the others
pub first-said : (n : ℕ) (line : List ℕ) (rest : List (List ℕ)) (judged : Result (Option Capture) LogCode) → n < 1000000 → judge line ≡ judged
    → all_of n (line ∷ rest) ≡ with_said (n + 1) (said_in line judged) (all_of (n + 1) rest)
first-said n line rest judged few e = rw (lt-leb 1000000 n few) (ap (λ j. with_said (n + 1) (said_in line j) (all_of (n + 1) rest)) e)

pub many-said : (n : ℕ) (line : List ℕ) (rest : List (List ℕ)) → 1000000 ≤ n → all_of n (line ∷ rest) ≡ many_lines
many-said n line rest many = rw (le-leb 1000000 n many)

pub SameSaid-trans : (a b c : Option AllSaid) → SameSaid a b → SameSaid b c → SameSaid a c
SameSaid-trans None b c first second = tt
SameSaid-trans (Some all) None c first second = cc first
SameSaid-trans (Some all) (Some other) c first second = second ∙ first

pub SameSaid-kept : (t mid : Option (List ℕ)) (n after : ℕ) → Keeps t mid → after ≡ n → SameSaid (said_at n t) (said_at after mid)
SameSaid-kept None mid n after keeps same = tt
SameSaid-kept (Some t) None n after keeps same = absurd keeps
SameSaid-kept (Some t) (Some m) n after keeps same = ap (λ (k : ℕ). Some (all_of k (lines_of m))) same ∙ ap (λ (l : List ℕ). Some (all_of n (lines_of l))) keeps

-- a line that says nothing
pub SameSaid-skip : (t new : Option (List ℕ)) (n after : ℕ) → n < 1000000 → TakesLine t new (Ok None) → after ≡ n + 1 → SameSaid (said_at n t) (said_at after new)
SameSaid-skip None new n after few takes count = tt
SameSaid-skip (Some t) None n after few takes count = absurd takes.1
SameSaid-skip (Some t) (Some r) n after few takes count =
    ap Some (ap (λ (k : ℕ). all_of k (lines_of r)) count ∙ sym (ap (all_of n) takes.1.0 ∙ first-said n takes.0 (lines_of r) (Ok None) few takes.2))

-- these bytes are those of a long line, and so the line that was taken is
taken-long : (t new : List ℕ) (line : List ℕ) → LongFirst (Some t) → FirstLine (Some t) (Some new) line → judge line ≡ Err LongLine
taken-long t new line long cut =
    let same : long.0 ∷ long.1 ≡ line ∷ lines_of new = sym long.3 ∙ cut.0 in
    let same_line : long.0 ≡ line = cc same in
    judge-long line (subst (λ (l : List ℕ). 2048 < length l) same_line long.2)

module _ {X : Type 0} (view : X → Said) (number : X → ℕ) where
  -- the same lines give the same
  pub GivesLine-on : (a b c : Option AllSaid) (r : Result (Option X) LogError) → SameSaid a b → GivesLine view number b c r → GivesLine view number a c r
  GivesLine-on None b c r same gives = tt
  GivesLine-on (Some all) b c r same gives = subst (λ (x : Option AllSaid). GivesLine view number x c r) same gives

  -- no line is left
  pub GivesLine-end : (t mid : Option (List ℕ)) (n after : ℕ) → Keeps t mid → HasLine mid false → after ≡ n → GivesLine view number (said_at n t) (said_at after mid) (Ok None)
  GivesLine-end None mid n after keeps none same = tt
  GivesLine-end (Some t) None n after keeps none same = absurd keeps
  GivesLine-end (Some t) (Some m) n after keeps none same =
      (ap (λ (l : List ℕ). all_of n (lines_of l)) (sym keeps ∙ none), ap (λ (l : List ℕ). Some (all_of after (lines_of l))) none)

  -- a line says something
  pub GivesLine-found : (t new : Option (List ℕ)) (n after : ℕ) (line : List ℕ) (judged : Result (Option Capture) LogCode) (x : X) → n < 1000000
      → judge line ≡ judged → said_in line judged ≡ Some (view x)
      → FirstLine t new line → after ≡ n + 1 → number x ≡ after → GivesLine view number (said_at n t) (said_at after new) (Ok (Some x))
  GivesLine-found None new n after line judged x few e says cut count num = tt
  GivesLine-found (Some t) None n after line judged x few e says cut count num = absurd cut
  GivesLine-found (Some t) (Some r) n after line judged x few e says cut count num =
      let said : all_of n (lines_of t) ≡ onto_said (record { line = n + 1; said = view x }) (all_of (n + 1) (lines_of r)) =
      ap (all_of n) cut.0 ∙ first-said n line (lines_of r) judged few e ∙ ap (λ (s : Option Said). with_said (n + 1) s (all_of (n + 1) (lines_of r))) says in
      let moved : onto_said (record { line = n + 1; said = view x }) (all_of (n + 1) (lines_of r)) ≡ onto_said (record { line = number x; said = view x }) (all_of after (lines_of r)) =
      ap (λ (k : ℕ). onto_said (record { line = k; said = view x }) (all_of k (lines_of r))) (sym count)
      ∙ ap (λ (k : ℕ). onto_said (record { line = k; said = view x }) (all_of after (lines_of r))) (sym num) in
      (all_of after (lines_of r), refl, said ∙ moved)

  -- a line was too long, and was skipped
  pub GivesLine-long : (t m new : Option (List ℕ)) (n after : ℕ) (x : X) → n < 1000000 → LongFirst t → Keeps t m → DropsFirst m new → view x ≡ bad LongLine None
      → after ≡ n + 1 → number x ≡ after → GivesLine view number (said_at n t) (said_at after new) (Ok (Some x))
  GivesLine-long None m new n after x few long keeps drops is count num = tt
  GivesLine-long (Some t) m None n after x few long keeps drops is count num = absurd (first-kept (Some t) m None drops.0 keeps drops.1)
  GivesLine-long (Some t) m (Some r) n after x few long keeps drops is count num =
      let cut = first-kept (Some t) m (Some r) drops.0 keeps drops.1 in
      GivesLine-found (Some t) (Some r) n after drops.0 (Err LongLine) x few (taken-long t r drops.0 long cut) (ap Some (sym is)) cut count num

  many : (t m : Option (List ℕ)) (left : Option AllSaid) (n : ℕ) (e : LogError) → is_read e.code ≡ false → IsPastLast t m n e.code → GivesLine view number (said_at n t) left (Err e)
  many None m left n e calm past = tt
  many (Some t) None left n e calm past = absurd past.0
  many (Some t) (Some m) left n e calm past =
      else-holds _ _ (is_read e.code) calm (ap (λ (l : List ℕ). all_of n (lines_of l)) (sym past.0) ∙ ap (all_of n) past.1.2 ∙ many-said n past.1.0 past.1.1 past.2, past.3)

  pub GivesLine-unread : (a left : Option AllSaid) (e : LogError) → is_read e.code ≡ true → GivesLine view number a left (Err e)
  GivesLine-unread None left e read = tt
  GivesLine-unread (Some all) left e read = then-holds _ _ (is_read e.code) read tt

  failed-by : (t m : Option (List ℕ)) (left : Option AllSaid) (n : ℕ) (e : LogError) (x : Bool) → is_read e.code ≡ x
      → IfElse x (Keeps t m) (IsPastLast t m n e.code) → GivesLine view number (said_at n t) left (Err e)
  failed-by t m left n e true read says = GivesLine-unread (said_at n t) left e read
  failed-by t m left n e false read says = many t m left n e read says

  -- the source failed, or there is a line too many
  pub GivesLine-failed : (t m : Option (List ℕ)) (left : Option AllSaid) (n : ℕ) (e : LogError)
      → IfElse (is_read e.code) (Keeps t m) (IsPastLast t m n e.code) → GivesLine view number (said_at n t) left (Err e)
  GivesLine-failed t m left n e says = failed-by t m left n e (is_read e.code) refl says

endless-first : (t m : List ℕ) → Keeps (Some t) (Some m) → IsEndless (Some m) → BeginsEndless (lines_of t)
endless-first t m keeps is = subst BeginsEndless (sym (ap lines_of (sym keeps) ∙ is.3)) is.2

why : (t m : List ℕ) (failed : Bool) → Keeps (Some t) (Some m) → (failed ≡ true) ⊎ IsEndless (Some m) → (failed ≡ true) ⊎ BeginsEndless (lines_of t)
why t m failed keeps (inl e) = inl e
why t m failed keeps (inr is) = inr (endless-first t m keeps is)

-- a line could not be read
pub unread : (t mid now : Option (List ℕ)) (n between after : ℕ) (failed : Bool) → PassesLines t n mid between
    → SameSaid (said_at n t) (said_at between mid) → Keeps mid now → after ≡ between
    → (failed ≡ true) ⊎ IsEndless now → IsUnread t n after failed
unread None mid now n between after failed passes same keeps count how = tt
unread (Some t) None now n between after failed passes same keeps count how = absurd passes
unread (Some t) (Some m) None n between after failed passes same keeps count how = absurd keeps
unread (Some t) (Some m) (Some r) n between after failed passes same keeps count how =
    (passes.0, lines_of m, passes.1, count ∙ passes.2, some-said _ _ (sym same) ∙ ap (λ (k : ℕ). all_of k (lines_of m)) (sym count), why m r failed keeps how) where
      some-said : (a b : AllSaid) → ◌≡◌ {A = Option AllSaid} (Some a) (Some b) → a ≡ b
      some-said a b e = cc e

kept-by : (t m : Option (List ℕ)) (n : ℕ) (code : LogCode) (x : Bool) → x ≡ true → IfElse x (Keeps t m) (IsPastLast t m n code) → Keeps t m
kept-by t m n code true read says = says
kept-by t m n code false read says = cc read

-- where the source failed the text was kept
pub kept_unread : (t m : Option (List ℕ)) (n : ℕ) (e : LogError) → is_read e.code ≡ true → IfElse (is_read e.code) (Keeps t m) (IsPastLast t m n e.code) → Keeps t m
kept_unread t m n e read says = kept-by t m n e.code (is_read e.code) read says
