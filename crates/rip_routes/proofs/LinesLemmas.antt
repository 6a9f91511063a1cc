-- What lines tell, one after the other.
use Rattle.std.proofs.Common.{◌≡◌, ◌<◌, ◌≤◌, ◌+◌, ℕ, suc, Bool, true, false, List, [], ◌∷◌, ◌++◌, length, Option, Some, None, Result, Ok, Err, cond, arith, refl, sym, subst, ap, ◌∙◌, inl, inr, append_assoc, append-nil}
use Rattle.std.specs.Prelude.{nat_le, nat_lt}
use Rattle.std.specs.Io.BufRead.{strip_last}
use Rattle.std.specs.Io.KnownBytes.{Keeps}
use Rattle.std.proofs.lemmas.List.{length-append}
use Rattle.rip_plan.specs.Network.{Network}
use Rattle.rip_log.specs.Codes.{is_read as is_read_code}
use Rattle.rip_log.specs.Wholes.{Begins}
use Rattle.rip_log.specs.Cuts.{DropsLines, HasLine, LongFirst}
use Rattle.rip_log.specs.Fields.{fields_of}
use Rattle.rip_log.specs.Lines.{lines_of}
use Rattle.rip_log.specs.Logs.{IfElse}
use Rattle.rip_log.specs.TextCall.{IsBadNext, TakesBare}
use Rattle.rip_log.specs.TextCall.IsBadNext.{long_line, too_many, unread}
use Rattle.rip_log.specs.declared.error.LogCode.{LogCode}
use Rattle.rip_routes.specs.declared.error.RoutesCause.{RoutesCause}
use Rattle.rip_routes.specs.declared.error.RoutesCause.TheVariants as causes
use Rattle.rip_routes.specs.declared.error.RoutesError.{RoutesError}
use Rattle.rip_routes.specs.CollectsRoutes.{OutcomeKnown, Passed, PassedKnown, StuckKnown, ToldOutcome, UnreadKnown, WantsAt, cause_of}
use Rattle.rip_routes.specs.OwnTables.{OwnTables}
use Rattle.rip_routes.specs.RouteLines.{before_comma, told_by_bare}
use Rattle.rip_routes.specs.Takes.{is_memory, is_read}
use Rattle.rip_routes.specs.Telling.{new_tables, tell_line, tell_lines, tell_said, tell_text, then_tell}
use Rattle.rip_routes.proofs.CauseLemmas.{line_cause}

-- the lines after those that were told
pub tells_on : (n : Network) (k : ℕ) (taken rest : List (List ℕ)) (t u : OwnTables) → tell_lines n k taken t ≡ Ok u → tell_lines n k (taken ++ rest) t ≡ tell_lines n (k + length taken) rest u
tells_on n k [] rest t u h =
    let same : t ≡ u = of_ok h in ap (tell_lines n k rest) same ∙ ap (λ (j : ℕ). tell_lines n j rest u) (omega arith)
  where
    of_ok : ◌≡◌ {A = Result OwnTables RoutesError} (Ok t) (Ok u) → t ≡ u
    of_ok e = cc e
tells_on n k (line ∷ lines) rest t u h = by (nat_le 1000000 k) (tell_line n t line) h (λ v e. tells_on n (k + 1) lines rest v u e)
  where
    by : (b : Bool) (r : Result OwnTables RoutesCause) → cond b (Err (record { line = k + 1; cause = causes.TooManyLines })) (then_tell (k + 1) r (tell_lines n (k + 1) lines)) ≡ Ok u
        → ((v : OwnTables) → tell_lines n (k + 1) lines v ≡ Ok u → tell_lines n (k + 1) (lines ++ rest) v ≡ tell_lines n (k + 1 + length lines) rest u)
        → cond b (Err (record { line = k + 1; cause = causes.TooManyLines })) (then_tell (k + 1) r (tell_lines n (k + 1) (lines ++ rest))) ≡ tell_lines n (k + suc (length lines)) rest u
    by true r e later = absurd (cc e)
    by false (Err cause) e later = absurd (cc e)
    by false (Ok v) e later = later v e ∙ ap (λ (j : ℕ). tell_lines n j rest u) (omega arith)

pub next_line : (n : Network) (k : ℕ) (line : List ℕ) (rest : List (List ℕ)) (t : OwnTables) (r : Result OwnTables RoutesCause) → k < 1000000 → tell_line n t line ≡ r
    → tell_lines n k (line ∷ rest) t ≡ then_tell (k + 1) r (tell_lines n (k + 1) rest)
next_line n k line rest t r few h =
    let room : nat_le 1000000 k ≡ false = grind (arith, few) in
    ap (λ b. cond b (Err (record { line = k + 1; cause = causes.TooManyLines })) (then_tell (k + 1) (tell_line n t line) (tell_lines n (k + 1) rest))) room
    ∙ ap (λ (x : Result OwnTables RoutesCause). then_tell (k + 1) x (tell_lines n (k + 1) rest)) h

short_line : (n : Network) (t : OwnTables) (line : List ℕ) → length line ≤ 2048 → tell_line n t line ≡ tell_said t (told_by_bare n (strip_last 13 line))
short_line n t line short =
    let fits : nat_lt 2048 (length line) ≡ false = grind (arith, short) in ap (λ b. cond b (Err causes.LongLine) (tell_said t (told_by_bare n (strip_last 13 line)))) fits

long_told : (n : Network) (t : OwnTables) (line : List ℕ) → 2048 < length line → tell_line n t line ≡ Err causes.LongLine
long_told n t line long =
    let past : nat_lt 2048 (length line) ≡ true = grind (arith, long) in ap (λ b. cond b (Err causes.LongLine) (tell_said t (told_by_bare n (strip_last 13 line)))) past

-- one more line is told
pub passed_more : (n : Network) (text mid left : Option (List ℕ)) (k : ℕ) (t u : OwnTables) (bare : List ℕ) → k < 1000000 → PassedKnown n text mid k t → TakesBare mid left bare
    → tell_said t (told_by_bare n bare) ≡ Ok u → PassedKnown n text left (k + 1) u
passed_more n None mid left k t u bare few passed takes tells = tt
passed_more n (Some text) None left k t u bare few passed takes tells = absurd passed
passed_more n (Some text) (Some m) None k t u bare few passed takes tells = absurd takes.1
passed_more n (Some text) (Some m) (Some rest) k t u bare few passed takes tells =
    let (line, (lines, front, split), short, is) = takes in
    record {
      front = passed.front ++ front;
      split = passed.split ∙ ap (λ xs. passed.front ++ xs) split ∙ sym (append_assoc passed.front front rest);
      taken = passed.taken ++ line ∷ [];
      lines = passed.lines ∙ ap (λ ls. passed.taken ++ ls) lines ∙ sym (append_assoc passed.taken (line ∷ []) (lines_of rest));
      count = omega (arith, passed.count, length-append passed.taken (line ∷ []));
      told = tells_on n 0 passed.taken (line ∷ []) (new_tables n) t passed.told
          ∙ ap (λ (j : ℕ). tell_lines n j (line ∷ []) t) (omega arith)
          ∙ next_line n (length passed.taken) line [] t (Ok u) (omega (arith, few, passed.count)) (short_line n t line short ∙ ap (λ b. tell_said t (told_by_bare n b)) (sym is) ∙ tells);
    }

-- the whole text is told
pub passed_all : (n : Network) (text mid left : Option (List ℕ)) (k : ℕ) (t : OwnTables) → PassedKnown n text mid k t → Keeps mid left → HasLine left false → OutcomeKnown n text (Ok t)
passed_all n None mid left k t passed keeps none = tt
passed_all n (Some text) None left k t passed keeps none = absurd passed
passed_all n (Some text) (Some m) None k t passed keeps none = absurd keeps
passed_all n (Some text) (Some m) (Some rest) k t passed keeps none =
    let ended : lines_of m ≡ [] = ap lines_of (sym keeps ∙ none) in
    ap (λ ls. tell_lines n 0 ls (new_tables n)) (passed.lines ∙ ap (λ ls. passed.taken ++ ls) ended ∙ append-nil passed.taken) ∙ passed.told

-- what was passed is left where the text stays
passed_kept : (n : Network) (text mid left : Option (List ℕ)) (k : ℕ) (t : OwnTables) → PassedKnown n text mid k t → Keeps mid left → PassedKnown n text left k t
passed_kept n None mid left k t passed keeps = tt
passed_kept n (Some text) None left k t passed keeps = absurd passed
passed_kept n (Some text) (Some m) None k t passed keeps = absurd keeps
passed_kept n (Some text) (Some m) (Some rest) k t passed keeps = subst (λ (l : List ℕ). Passed n text l k t) (sym keeps) passed

dropped : (n : Network) (text left : Option (List ℕ)) (k : ℕ) (t : OwnTables) → PassedKnown n text left k t → DropsLines text 0 left (k + 1)
dropped n None left k t passed = tt
dropped n (Some text) None k t passed = absurd passed
dropped n (Some text) (Some rest) k t passed = (passed.front, passed.taken, passed.split, passed.lines, omega (arith, passed.count))

pub dropped_kept : (n : Network) (text mid left : Option (List ℕ)) (k : ℕ) (t : OwnTables) → PassedKnown n text mid k t → Keeps mid left → DropsLines text 0 left (k + 1)
dropped_kept n text mid left k t passed keeps = dropped n text left k t (passed_kept n text mid left k t passed keeps)

pub dropped_line : (n : Network) (text mid left : Option (List ℕ)) (k : ℕ) (t : OwnTables) (bare : List ℕ) → PassedKnown n text mid k t → TakesBare mid left bare → DropsLines text 0 left (k + 1)
dropped_line n None mid left k t bare passed takes = tt
dropped_line n (Some text) None left k t bare passed takes = absurd passed
dropped_line n (Some text) (Some m) None k t bare passed takes = absurd takes.1
dropped_line n (Some text) (Some m) (Some rest) k t bare passed takes =
    let (line, (lines, front, split), short, is) = takes in (
      passed.front ++ front,
      passed.taken ++ line ∷ [],
      passed.split ∙ ap (λ xs. passed.front ++ xs) split ∙ sym (append_assoc passed.front front rest),
      passed.lines ∙ ap (λ ls. passed.taken ++ ls) lines ∙ sym (append_assoc passed.taken (line ∷ []) (lines_of rest)),
      omega (arith, passed.count, length-append passed.taken (line ∷ [])),
    )

-- the line behind those that were told has this fault
fault_at : (n : Network) (text m : List ℕ) (k : ℕ) (t : OwnTables) (line : List ℕ) (rest : List (List ℕ)) (cause : RoutesCause) → Passed n text m k t → lines_of m ≡ line ∷ rest
    → tell_lines n k (line ∷ rest) t ≡ Err (record { line = k + 1; cause = cause }) → tell_text n text ≡ Err (record { line = k + 1; cause = cause })
fault_at n text m k t line rest cause passed lines fault =
    ap (λ ls. tell_lines n 0 ls (new_tables n)) (passed.lines ∙ ap (λ ls. passed.taken ++ ls) lines)
    ∙ tells_on n 0 passed.taken (line ∷ rest) (new_tables n) t passed.told
    ∙ ap (λ (j : ℕ). tell_lines n j (line ∷ rest) t) (omega (arith, passed.count))
    ∙ fault

many_lines : (n : Network) (k : ℕ) (t : OwnTables) (line : List ℕ) (rest : List (List ℕ)) → k ≡ 1000000 → tell_lines n k (line ∷ rest) t ≡ Err (record { line = k + 1; cause = causes.TooManyLines })
many_lines n k t line rest is =
    let full : nat_le 1000000 k ≡ true = grind (arith, is) in
    ap (λ b. cond b (Err (record { line = k + 1; cause = causes.TooManyLines })) (then_tell (k + 1) (tell_line n t line) (tell_lines n (k + 1) rest))) full

module _ {G : Type 0} (view : G → OwnTables) (n : Network) where
  -- a line that the reader refuses, or could not read
  pub told_bad : (text mid left : Option (List ℕ)) (k : ℕ) (t : OwnTables) (code : LogCode) → PassedKnown n text mid k t → IsBadNext mid left k code
      → ToldOutcome view n text left (Err (record { line = k + 1; cause = cause_of code }))
  told_bad text mid left k t code passed (long_line few first keeps) = long text mid left passed first
    where
      long : (text mid left : Option (List ℕ)) → PassedKnown n text mid k t → LongFirst mid → OutcomeKnown n text (Err (record { line = k + 1; cause = causes.LongLine }))
      long None mid left passed first = tt
      long (Some text) None left passed first = absurd passed
      long (Some text) (Some m) left passed first =
          let (line, rest, past, lines) = first in
          fault_at n text m k t line rest causes.LongLine passed lines (next_line n k line rest t (Err causes.LongLine) few (long_told n t line past))
  told_bad text mid left k t code passed (too_many all more keeps) = many text mid left passed more
    where
      many : (text mid left : Option (List ℕ)) → PassedKnown n text mid k t → HasLine mid true → OutcomeKnown n text (Err (record { line = k + 1; cause = causes.TooManyLines }))
      many None mid left passed more = tt
      many (Some text) None left passed more = absurd passed
      many (Some text) (Some m) left passed more = let (line, rest, lines) = more in fault_at n text m k t line rest causes.TooManyLines passed lines (many_lines n k t line rest all)
  told_bad text mid left k t code passed (unread keeps) = (k, t, passed_kept n text mid left k t passed keeps, refl)

  stuck : (text mid left : Option (List ℕ)) (k : ℕ) (t : OwnTables) (bare : List ℕ) → PassedKnown n text mid k t → TakesBare mid left bare → WantsAt n t bare → StuckKnown n text (k + 1)
  stuck None mid left k t bare passed takes wants = tt
  stuck (Some text) None left k t bare passed takes wants = absurd passed
  stuck (Some text) (Some m) None k t bare passed takes wants = absurd takes.1
  stuck (Some text) (Some m) (Some rest) k t bare passed takes wants =
      let (line, (lines, front, split), short, is) = takes in
      inr (record {
        before = passed.taken;
        here = line;
        after = lines_of rest;
        lines = passed.lines ∙ ap (λ ls. passed.taken ++ ls) lines;
        number = omega (arith, passed.count);
        tables = t;
        told = passed.told;
        wants = subst (WantsAt n t) is wants;
      })

  refused : (text mid left : Option (List ℕ)) (k : ℕ) (t : OwnTables) (bare : List ℕ) (cause : RoutesCause) → k < 1000000 → PassedKnown n text mid k t → TakesBare mid left bare
      → tell_said t (told_by_bare n bare) ≡ Err cause → OutcomeKnown n text (Err (record { line = k + 1; cause = cause }))
  refused None mid left k t bare cause few passed takes fault = tt
  refused (Some text) None left k t bare cause few passed takes fault = absurd passed
  refused (Some text) (Some m) None k t bare cause few passed takes fault = absurd takes.1
  refused (Some text) (Some m) (Some rest) k t bare cause few passed takes fault =
      let (line, (lines, front, split), short, is) = takes in
      fault_at n text m k t line (lines_of rest) cause passed lines
      (next_line n k line (lines_of rest) t (Err cause) few (short_line n t line short ∙ ap (λ b. tell_said t (told_by_bare n b)) (sym is) ∙ fault))

  -- a line that is refused, or memory that is
  pub told_refused : (text mid left : Option (List ℕ)) (k : ℕ) (t : OwnTables) (bare : List ℕ) (cause : RoutesCause) → k < 1000000 → PassedKnown n text mid k t → TakesBare mid left bare
      → is_read cause ≡ false → IfElse (is_memory cause) (WantsAt n t bare) (tell_said t (told_by_bare n bare) ≡ Err cause)
      → ToldOutcome view n text left (Err (record { line = k + 1; cause = cause }))
  told_refused text mid left k t bare cause few passed takes read h = by (is_memory cause) (is_read cause) read h
    where
      by : (b c : Bool) → c ≡ false → IfElse b (WantsAt n t bare) (tell_said t (told_by_bare n bare) ≡ Err cause)
          → IfElse b (StuckKnown n text (k + 1)) (IfElse c (UnreadKnown n text left (k + 1)) (OutcomeKnown n text (Err (record { line = k + 1; cause = cause }))))
      by true c e h = stuck text mid left k t bare passed takes h
      by false true e h = absurd (cc e)
      by false false e h = refused text mid left k t bare cause few passed takes h

-- what a line is refused for is not the source
pub not_read : (n : Network) (t : OwnTables) (bare : List ℕ) (cause : RoutesCause) → IfElse (is_memory cause) (WantsAt n t bare) (tell_said t (told_by_bare n bare) ≡ Err cause) → is_read cause ≡ false
not_read n t bare cause h = by (is_memory cause) refl h
  where
    memory_only : (c : RoutesCause) → is_memory c ≡ true → is_read c ≡ false
    memory_only causes.Memory e = refl
    memory_only causes.LongLine e = absurd (cc e)
    memory_only causes.Fields e = absurd (cc e)
    memory_only causes.Router e = absurd (cc e)
    memory_only causes.Prefix e = absurd (cc e)
    memory_only causes.Metric e = absurd (cc e)
    memory_only causes.Way e = absurd (cc e)
    memory_only (causes.Changed p old new) e = absurd (cc e)
    memory_only causes.TooManyLines e = absurd (cc e)
    memory_only causes.TooManyPrefixes e = absurd (cc e)
    memory_only causes.Read e = absurd (cc e)

    by : (b : Bool) → is_memory cause ≡ b → IfElse b (WantsAt n t bare) (tell_said t (told_by_bare n bare) ≡ Err cause) → is_read cause ≡ false
    by true e h = memory_only cause e
    by false e h = (line_cause n t (fields_of (before_comma bare)) cause h).not_read

pub passed_none : (n : Network) (text : Option (List ℕ)) (k : ℕ) (t : OwnTables) → k ≡ 0 → t ≡ new_tables n → PassedKnown n text text k t
passed_none n None k t front new = tt
passed_none n (Some text) k t front new = record { front = []; split = refl; taken = []; lines = refl; count = front; told = ap (λ (x : OwnTables). Ok x) (sym new) }

pub stuck_first : (n : Network) (text : Option (List ℕ)) → StuckKnown n text 0
stuck_first n None = tt
stuck_first n (Some text) = inl refl

pub dropped_none : (text : Option (List ℕ)) → DropsLines text 0 text 0
dropped_none None = tt
dropped_none (Some text) = ([], [], refl, refl, omega arith)

-- where the reader's line is bad, the text stays
pub bad_keeps : (mid left : Option (List ℕ)) (k : ℕ) (code : LogCode) → IsBadNext mid left k code → Keeps mid left
bad_keeps mid left k code (long_line few first keeps) = keeps
bad_keeps mid left k code (too_many all more keeps) = keeps
bad_keeps mid left k code (unread keeps) = keeps

-- a reader's error is Read exactly where its cause is
pub code_read : (mid left : Option (List ℕ)) (k : ℕ) (code : LogCode) → IsBadNext mid left k code → is_read (cause_of code) ≡ is_read_code code
code_read mid left k code (long_line few first keeps) = refl
code_read mid left k code (too_many all more keeps) = refl
code_read mid left k code (unread keeps) = refl

-- what a source has given is a text that it has begun to give
pub begins_now : (given : List ℕ) (at_end : Bool) → Begins given given at_end
begins_now given at_end = record { left = []; split = sym (append-nil given); ended = λ _. refl }
