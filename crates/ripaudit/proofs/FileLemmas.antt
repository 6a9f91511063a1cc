-- Of some files the first ones and the next, and what is known of them.
use Rattle.std.proofs.Common.{◌≡◌, ◌≢◌, ◌⊎◌, inl, inr, true, false, is_err, ◌+◌, ◌<◌, ◌∙◌, ℕ, zero, suc, List, [], ◌∷◌, ◌++◌, Option, Some, None, Result, Ok, Err, length, slice_get, refl, sym, ap, subst, arith, append-nil, append_assoc}
use Rattle.std.specs.List.{slice_index_or}
use Rattle.std.specs.Prelude.{IfNone, IfOk, IfSome, IsSome}
use Rattle.std.proofs.lemmas.List.{length-append}
use Rattle.std.proofs.lemmas.Option.{none-some}
use Rattle.rip_log.specs.Taken.{Taken, Took}
use Rattle.rip_log.proofs.TakenLemmas.{Took-both}
use Rattle.rip_report.specs.CaptureLogs.{File, GoesOn, IsLogOf, LogOf, manner_of}
use Rattle.rip_report.specs.declared.captures.manner.Manner.{Manner}
use Rattle.rip_report.specs.declared.captures.log.CaptureLog.{CaptureLog}
use Rattle.rip_report.specs.declared.status.RunError.{RunError}
use Rattle.rip_report.specs.declared.status.RunError.TheVariants.{Write}
use Rattle.rip_report.specs.declared.status.Status.{Status}
use Rattle.rip_report.specs.declared.status.Status.TheVariants.{Done, Refused, Settled, Unclear, Unsettled}
use Rattle.ripaudit.specs.CaptureFiles.{AreFirstFiles, ClosedSource, HasGivenAt, HasGivenIf, NamesFile, ends_log}

module _ {X : Type 0} where
  get-front : (xs ys : List X) (k : ℕ) (x : X) → slice_get xs k ≡ Some x → slice_get (xs ++ ys) k ≡ Some x
  get-front [] ys k x e = absurd (none-some x e)
  get-front (y ∷ xs) ys zero x e = e
  get-front (y ∷ xs) ys (suc k) x e = get-front xs ys k x e

  get-next : (xs : List X) (y : X) (ys : List X) (n : ℕ) → length xs ≡ n → slice_get (xs ++ y ∷ ys) n ≡ Some y
  get-next [] y ys zero e = refl
  get-next [] y ys (suc n) e = absurd (omega (arith, e))
  get-next (x ∷ xs) y ys zero e = absurd (omega (arith, e))
  get-next (x ∷ xs) y ys (suc n) e = get-next xs y ys n (omega (arith, e))

-- files, parted at a place
pub record Parted (n : ℕ) (files : List File) : Type 0 where
  pub front : List File
  pub file : File
  pub after : List File
  pub whole : files ≡ front ++ file ∷ after
  pub size : length front ≡ n

pub parted : (n : ℕ) (files : List File) → n < length files → Parted n files
parted n [] lt = absurd (omega (arith, lt))
parted zero (f ∷ files) lt = record { front = []; file = f; after = files; whole = refl; size = refl }
parted (suc n) (f ∷ files) lt =
    let rest = parted n files (omega (arith, lt)) in
    record { front = f ∷ rest.front; file = rest.file; after = rest.after; whole = ap (λ l. f ∷ l) rest.whole; size = omega (arith, rest.size) }

-- the first ones of the files of more words
pub front-files : (n m : ℕ) (words : List (List ℕ)) (sources more all : List ClosedSource) (files : List File) (p : Parted n files) → all ≡ sources ++ more → AreFirstFiles m words all files
    → AreFirstFiles n words sources p.front
front-files n m words sources more all files p kept are = record {
  size = p.size;
  named = λ k file at. are.named k file (in-files k file at);
  given = λ k file at source s. are.given k file (in-files k file at) source (subst (λ l. slice_get l k ≡ Some source) (sym kept) (get-front sources more k source s));
}
  where
    in-files : (k : ℕ) (file : File) → slice_get p.front k ≡ Some file → slice_get files k ≡ Some file
    in-files k file at = subst (λ l. slice_get l k ≡ Some file) (sym p.whole) (get-front p.front (p.file ∷ p.after) k file at)

pub next-at : (n : ℕ) (files : List File) (p : Parted n files) → slice_get files n ≡ Some p.file
next-at n files p = subst (λ l. slice_get l n ≡ Some p.file) (sym p.whole) (get-next p.front p.file p.after n p.size)

-- nothing is behind the last file
pub none-after : (n : ℕ) (files : List File) (p : Parted n files) → length files ≡ n + 1 → p.after ≡ []
none-after n files p size = by p.after (sym (ap length p.whole) ∙ size)
  where
    longer : (front : List File) (file other : File) (after : List File) (n : ℕ) → length front ≡ n → length (front ++ file ∷ other ∷ after) ≡ n + 1 → ⊥
    longer [] file other after n e f = omega (arith, e, f)
    longer (x ∷ front) file other after zero e f = omega (arith, e)
    longer (x ∷ front) file other after (suc n) e f = longer front file other after n (omega (arith, e)) (omega (arith, f))

    by : (after : List File) → length (p.front ++ p.file ∷ after) ≡ n + 1 → after ≡ []
    by [] e = refl
    by (other ∷ after) e = absurd (longer p.front p.file other after n p.size e)

-- a log goes on where its file does not end it
pub goes-on : (log : CaptureLog) (files : List File) (text : List ℕ) (answer : Result Status RunError) → ends_log answer ≡ false → GoesOn log files text answer → IsLogOf log files text
goes-on log files text (Ok Refused) e goes = absurd (cc e)
goes-on log files text (Ok Done) e goes = goes
goes-on log files text (Ok Settled) e goes = goes
goes-on log files text (Ok Unsettled) e goes = goes
goes-on log files text (Ok Unclear) e goes = goes
goes-on log files text (Err f) e goes = absurd (cc e)

pub ends : (log : CaptureLog) (files : List File) (text : List ℕ) (answer : Result Status RunError) → ends_log answer ≡ true → GoesOn log files text answer → LogOf (manner_of log) files text answer
    × ((answer ≡ Ok Refused) ⊎ (is_err answer ≡ true))
ends log files text (Ok Refused) e goes = (goes, inl refl)
ends log files text (Ok Done) e goes = absurd (cc e)
ends log files text (Ok Settled) e goes = absurd (cc e)
ends log files text (Ok Unsettled) e goes = absurd (cc e)
ends log files text (Ok Unclear) e goes = absurd (cc e)
ends log files text (Err f) e goes = (goes, inr refl)

-- a file that does not end its log was read
pub was-read : (P : Type 0) (answer : Result Status RunError) → ends_log answer ≡ false → IfOk answer (λ _. P) → P
was-read P (Ok status) e h = h
was-read P (Err f) e h = absurd (cc e)

pub no-failure : (answer : Result Status RunError) → ends_log answer ≡ false → answer ≢ Err Write
no-failure (Ok status) e = λ f. cc f
no-failure (Err f) e = absurd (cc e)

-- a log that failed
pub failed-goes : (log : CaptureLog) (files : List File) (text : List ℕ) (answer : Result Status RunError) (error : RunError) → answer ≡ Err error → LogOf (manner_of log) files text answer →
    GoesOn log files text answer
failed-goes log files text answer error e log_of = subst (GoesOn log files text) (sym e) (subst (LogOf (manner_of log) files text) e log_of)

pub never-ok : (P : Type 0) (answer : Result Status RunError) (error : RunError) → (answer ≢ Err Write → answer ≡ Err error) → IfOk answer (λ _. P)
never-ok P (Ok status) error fails = absurd (let clash : ◌≡◌ {A = Result Status RunError} (Ok status) (Err error) = fails (λ e. cc e) in cc clash)
never-ok P (Err e) error fails = tt

-- of a source that may have been opened
pub given-if : (source : Option ClosedSource) (before after : List ClosedSource) (bytes : List ℕ) → IfSome source (λ s. after ≡ before ++ s ∷ []) → HasGivenAt after (length before) bytes → HasGivenIf source bytes
given-if None before after bytes is given = tt
given-if (Some s) before after bytes is given = given s (subst (λ l. slice_get l (length before) ≡ Some s) (sym is) (get-next before s [] (length before) refl))

pub kept-more : (source : Option ClosedSource) (before after : List ClosedSource) → IfSome source (λ s. after ≡ before ++ s ∷ []) → IfNone source (after ≡ before) →
    (more : List ClosedSource) × (after ≡ before ++ more)
kept-more None before after some none = ([], none ∙ sym (append-nil before))
kept-more (Some s) before after some none = (s ∷ [], some)

pub one-longer : (source : Option ClosedSource) (before after : List ClosedSource) → IfSome source (λ s. after ≡ before ++ s ∷ []) → IsSome source → length after ≡ length before + 1
one-longer None before after some is = absurd (cc is)
one-longer (Some s) before after some is = ap length some ∙ length-append before (s ∷ [])

-- ---- the next word

-- files of which the log has the first ones and the next, with what went out of them
pub record NextFile (a d : Taken) (log : CaptureLog) (i : ℕ) (answer : Result Status RunError) (files : List File) : Type 0 where
  pub part : Parted i files
  pub text : List ℕ
  pub took : Took a d text
  pub goes : GoesOn log (part.front ++ part.file ∷ []) text answer

pub next-file : (words : List (List ℕ)) (word : List ℕ) (i m : ℕ) (sources more all : List ClosedSource) (log after : CaptureLog) (a b d : Taken) (answer : Result Status RunError)
    → slice_index_or words i [] ≡ word → length sources ≡ i → all ≡ sources ++ more → i < m
    → ((files : List File) → AreFirstFiles i words sources files → (text : List ℕ) × Took a b text × IsLogOf log files text)
    → ((file : File) → NamesFile word file → HasGivenAt all (length sources) file.bytes → (files : List File) (text : List ℕ) → IsLogOf log files text → answer ≢ Err Write →
    (part : List ℕ) × Took b d part × GoesOn after (files ++ file ∷ []) (text ++ part) answer)
    → (files : List File) → AreFirstFiles m words all files → answer ≢ Err Write → NextFile a d after i answer files
next-file words word i m sources more all log after a b d answer here opened kept lt so_far goes_on files are wrote =
    let p = parted i files (subst (λ n. i < n) (sym are.size) lt) in
    let (text, took, is) = so_far p.front (front-files i m words sources more all files p kept are) in
    let named = subst (λ w. NamesFile w p.file) here (are.named i p.file (next-at i files p)) in
    let given = subst (λ n. HasGivenAt all n p.file.bytes) (sym opened) (are.given i p.file (next-at i files p)) in
    let (part, later, goes) = goes_on p.file named given p.front text is wrote in
    record { part = p; text = text ++ part; took = Took-both a b d text part took later; goes = goes }

-- all files, where nothing is behind the next
pub all-files : (a d : Taken) (log : CaptureLog) (i : ℕ) (answer : Result Status RunError) (files : List File) → length files ≡ i + 1 → ends_log answer ≡ false → NextFile a d log i answer files →
    (text : List ℕ) × Took a d text × IsLogOf log files text
all-files a d log i answer files size e next =
    let p = next.part in
    let whole : files ≡ p.front ++ p.file ∷ [] = p.whole ∙ ap (λ l. p.front ++ p.file ∷ l) (none-after i files p size) in
    (next.text, next.took, subst (λ l. IsLogOf log l next.text) (sym whole) (goes-on log (p.front ++ p.file ∷ []) next.text answer e next.goes))

-- files at one of which a log ends
pub ended-files : (a d : Taken) (log : CaptureLog) (how : Manner) (i : ℕ) (answer : Result Status RunError) (files : List File) → ends_log answer ≡ true → manner_of log ≡ how
    → ((how : Manner) (files more : List File) (text : List ℕ) (answer : Result Status RunError) → LogOf how files text answer → (answer ≡ Ok Refused) ⊎ (is_err answer ≡ true)
    → LogOf how (files ++ more) text answer)
    → NextFile a d log i answer files → (text : List ℕ) × Took a d text × LogOf how files text answer
ended-files a d log how i answer files e same stopped next =
    let p = next.part in
    let (log_of, stops) = ends log (p.front ++ p.file ∷ []) next.text answer e next.goes in
    let longer = stopped (manner_of log) (p.front ++ p.file ∷ []) p.after next.text answer log_of stops in
    let whole : (p.front ++ p.file ∷ []) ++ p.after ≡ files = append_assoc p.front (p.file ∷ []) p.after ∙ sym p.whole in
    (next.text, next.took, subst (λ h. LogOf h files next.text answer) same (subst (λ l. LogOf (manner_of log) l next.text answer) whole longer))
