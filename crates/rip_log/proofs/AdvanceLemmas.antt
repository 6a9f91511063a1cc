-- What coming to the next line does to what is to be said, and to the log to come.
use Rattle.std.proofs.Common.{◌≡◌, ◌⊎◌, ◌+◌, ◌<◌, ◌≤◌, ◌∙◌, ℕ, Bool, true, false, not, List, Option, Some, None, Result, Ok, Err, refl, sym, ap, inl, inr, subst, arith}
use Rattle.std.specs.Option.{option_map}
use Rattle.rip_log.specs.Advances.{ComesTo, SkipsLines}
use Rattle.rip_log.specs.Codes.{code_of, is_read}
use Rattle.rip_log.specs.Cuts.{DropsFirst, DropsLines, IsEndless, LongFirst, PassesLines}
use Rattle.rip_log.specs.FoundLines.{said_found}
use Rattle.rip_log.specs.Lines.{Capture, lines_of}
use Rattle.rip_log.specs.Logs.{Gives, Log, log_at}
use Rattle.rip_log.specs.NextLineCall.{GivesLine, IsUnread}
use Rattle.rip_log.specs.Said.{AllSaid, Said, SameSaid, all_of, bad, captured, log_said, onto_said, said_at}
use Rattle.rip_log.specs.Steps.{TakesLine, capture_at, origin_found}
use Rattle.rip_log.specs.declared.error.LogCode.{LogCode}
use Rattle.rip_log.specs.declared.error.LogCode.TheVariants.{LongLine, Read, TooManyLines}
use Rattle.rip_log.specs.declared.error.LogError.{LogError}
use Rattle.rip_log.specs.declared.reader.FoundFault.{FoundFault}
use Rattle.rip_log.specs.declared.reader.FoundLine.{FoundLine}
use Rattle.rip_log.specs.declared.reader.FoundLine.TheVariants.{Record, Bad, Long}
use Rattle.rip_log.specs.declared.reader.FoundRecord.{FoundRecord}
use Rattle.rip_log.specs.declared.reader.LogReader.{LogReader}
use Rattle.rip_log.proofs.JudgeLemmas.{judge-long}
use Rattle.rip_log.proofs.LogSaidLemmas.{Gives-bad, Gives-end, Gives-failed, Gives-record, log-said_at}
use Rattle.rip_log.proofs.PassLemmas.{drops_failed, drops_kept, drops_line, drops_passed, drops_trans, front_line, front_trans, passes_failed, passes_kept, passes_line, passes_long, passes_trans}
use Rattle.rip_log.proofs.SaidLemmas.{GivesLine-end, GivesLine-failed, GivesLine-found, GivesLine-long, GivesLine-on, SameSaid-kept, SameSaid-skip, SameSaid-trans, first-said, kept_unread, unread}

pub skips_trans : (t mid left : Option (List ℕ)) (n between after : ℕ)
    → SkipsLines t n mid between → SkipsLines mid between left after → SkipsLines t n left after
skips_trans t mid left n between after first second = record {
  passed = passes_trans t mid left n between after first.passed second.passed;
  front = front_trans t mid left first.front second.front;
  said = SameSaid-trans (said_at n t) (said_at between mid) (said_at after left) first.said second.said;
}

pub skips_line : (t left : Option (List ℕ)) (n after : ℕ)
    → n < 1000000 → TakesLine t left (Ok None) → after ≡ n + 1 → SkipsLines t n left after
skips_line t left n after few takes count = record {
  passed = passes_line t left n after takes.0 takes.1 count;
  front = front_line t left takes.0 takes.1;
  said = SameSaid-skip t left n after few takes count;
}

module _ {R : Type 0} {t left : Option (List ℕ)} {n before : ℕ} {new : LogReader R} where
  -- what is found says what is to be said, as the lines before it say nothing
  said-there : {X : Type 0} (view : X → Said) (number : X → ℕ) (rest : Option AllSaid) (r : Result (Option X) LogError) {next : Result (Option FoundLine) LogError}
      (c : ComesTo t n before left new next) → GivesLine view number (said_at before c.at) rest r → GivesLine view number (said_at n t) rest r
  said-there view number rest r c gives = GivesLine-on view number (said_at n t) (said_at before c.at) rest r c.skips.said gives

  -- a record was taken
  pub said-record : (found : FoundRecord) {after : ℕ} → ComesTo t n before left new (Ok (Some (Record found))) → before < 1000000 → after ≡ before + 1
      → GivesLine (said_found new) (λ _. after) (said_at n t) (said_at after left) (Ok (Some (Record found)))
  said-record found {after} c few count =
      said-there (said_found new) (λ _. after) (said_at after left) (Ok (Some (Record found))) c
      (GivesLine-found (said_found new) (λ _. after) c.at left before after c.says.0 _ (Record found) few c.says.2 refl c.says.1 count refl)

  pub passed-record : (found : FoundRecord) {after : ℕ} → ComesTo t n before left new (Ok (Some (Record found))) → after ≡ before + 1 → PassesLines t n left after
  passed-record found {after} c count =
      passes_trans t c.at left n before after c.skips.passed (passes_line c.at left before after c.says.0 c.says.1 count)

  -- a bad line was taken
  pub said-bad : (found : FoundFault) {after : ℕ} → ComesTo t n before left new (Ok (Some (Bad found))) → before < 1000000 → after ≡ before + 1
      → GivesLine (said_found new) (λ _. after) (said_at n t) (said_at after left) (Ok (Some (Bad found)))
  said-bad found {after} c few count =
      let says = ap (λ o. Some (bad (code_of found.fault.why) o)) c.says.3 in
      said-there (said_found new) (λ _. after) (said_at after left) (Ok (Some (Bad found))) c
      (GivesLine-found (said_found new) (λ _. after) c.at left before after c.says.0 _ (Bad found) few c.says.2 says c.says.1 count refl)

  pub passed-bad : (found : FoundFault) {after : ℕ} → ComesTo t n before left new (Ok (Some (Bad found))) → after ≡ before + 1 → PassesLines t n left after
  passed-bad found {after} c count =
      passes_trans t c.at left n before after c.skips.passed (passes_line c.at left before after c.says.0 c.says.1 count)

  -- a line is too long, and was skipped
  pub said-long : (rest : Option (List ℕ)) (now : LogReader R) {after : ℕ} → ComesTo t n before left new (Ok (Some Long)) → DropsFirst left rest
      → before < 1000000 → after ≡ before + 1 → GivesLine (said_found now) (λ _. after) (said_at n t) (said_at after rest) (Ok (Some Long))
  said-long rest now {after} c drops few count =
      said-there (said_found now) (λ _. after) (said_at after rest) (Ok (Some Long)) c
      (GivesLine-long (said_found now) (λ _. after) c.at left rest before after Long few c.says.0 c.says.1 drops refl count refl)

  pub passed-long : (rest : Option (List ℕ)) {after : ℕ} → ComesTo t n before left new (Ok (Some Long)) → DropsFirst left rest → after ≡ before + 1
      → PassesLines t n rest after
  passed-long rest {after} c drops count =
      passes_trans t c.at rest n before after c.skips.passed (passes_long c.at left rest before after c.says.1 drops count)

  -- a line is too long, and could not be skipped
  pub unread-long : (failed : Bool) {after : ℕ} → ComesTo t n before left new (Ok (Some Long)) → after ≡ before → (failed ≡ true) ⊎ IsEndless left
      → IsUnread t n after failed
  unread-long failed {after} c same how = unread t c.at left n before after failed c.skips.passed c.skips.said c.says.1 same how

  -- no line is left
  pub said-end : {X : Type 0} (view : X → Said) (number : X → ℕ) {after : ℕ} → ComesTo t n before left new (Ok None) → after ≡ before
      → GivesLine view number (said_at n t) (said_at after left) (Ok None)
  said-end view number {after} c same =
      said-there view number (said_at after left) (Ok None) c (GivesLine-end view number c.at left before after c.says.0 c.says.1 same)

  pub passed-end : {after : ℕ} → ComesTo t n before left new (Ok None) → after ≡ before → PassesLines t n left after
  passed-end {after} c same = passes_trans t c.at left n before after c.skips.passed (passes_kept c.at left before after c.says.0 same)

  -- the source failed, or there is a line too many
  pub said-failed : {X : Type 0} (view : X → Said) (number : X → ℕ) (rest : Option AllSaid) (e : LogError) → ComesTo t n before left new (Err e)
      → GivesLine view number (said_at n t) rest (Err e)
  said-failed view number rest e c = said-there view number rest (Err e) c (GivesLine-failed view number c.at left rest before e c.says)

  pub passed-failed : (e : LogError) {after : ℕ} → ComesTo t n before left new (Err e) → not (is_read e.code) ≡ false → after ≡ before
      → PassesLines t n left after
  passed-failed e {after} c fine same =
      passes_trans t c.at left n before after c.skips.passed (passes_failed c.at left before after e fine c.says same)

  -- the lines before the next were taken, and it too, or it is still there
  dropped-before : {next : Result (Option FoundLine) LogError} (last : ℕ) (c : ComesTo t n before left new next) → DropsLines c.at before left last → DropsLines t n left last
  dropped-before last c drops = drops_trans t c.at left n before last (drops_passed t c.at n before before c.skips.passed c.skips.front (omega arith)) drops

  pub dropped-record : (found : FoundRecord) (last : ℕ) → ComesTo t n before left new (Ok (Some (Record found))) → before + 1 ≤ last → DropsLines t n left last
  dropped-record found last c within = dropped-before last c (drops_line c.at left before last c.says.0 c.says.1 within)

  pub dropped-bad : (found : FoundFault) (last : ℕ) → ComesTo t n before left new (Ok (Some (Bad found))) → before + 1 ≤ last → DropsLines t n left last
  dropped-bad found last c within = dropped-before last c (drops_line c.at left before last c.says.0 c.says.1 within)

  pub dropped-long : (last : ℕ) → ComesTo t n before left new (Ok (Some Long)) → before ≤ last → DropsLines t n left last
  dropped-long last c within = dropped-before last c (drops_kept c.at left before last c.says.1 within)

  pub dropped-end : (last : ℕ) → ComesTo t n before left new (Ok None) → before ≤ last → DropsLines t n left last
  dropped-end last c within = dropped-before last c (drops_kept c.at left before last c.says.0 within)

  pub dropped-failed : (e : LogError) (last : ℕ) → ComesTo t n before left new (Err e) → before ≤ last → DropsLines t n left last
  dropped-failed e last c within = dropped-before last c (drops_failed c.at left before last e c.says within)

  pub unread-failed : (failed : Bool) (e : LogError) {after : ℕ} → ComesTo t n before left new (Err e) → is_read e.code ≡ true → after ≡ before
      → failed ≡ true → IsUnread t n after failed
  unread-failed failed e {after} c read same how =
      unread t c.at left n before after failed c.skips.passed c.skips.said (kept_unread c.at left before e read c.says) same (inl how)

-- a line that is too long is bad, whatever follows it
long-said : {X : Type 0} (say : X → Said) (number : X → ℕ) (x : X) (t : Option (List ℕ)) (n : ℕ) → n < 1000000 → LongFirst t
    → say x ≡ bad LongLine None → number x ≡ n + 1 → (rest : Option AllSaid) × GivesLine say number (said_at n t) rest (Ok (Some x))
long-said say number x None n few long is here = (None, tt)
long-said say number x (Some t) n few long is here =
    let later = all_of (n + 1) long.1 in
    let said : all_of n (lines_of t) ≡ onto_said (record { line = number x; said = say x }) later =
    ap (all_of n) long.3 ∙ first-said n long.0 long.1 (Err LongLine) few (judge-long long.0 long.2)
    ∙ ap (λ (s : Said). onto_said (record { line = n + 1; said = s }) later) (sym is)
    ∙ ap (λ (k : ℕ). onto_said (record { line = k; said = say x }) later) (sym here) in
    (Some later, (later, refl, said))

-- what is not Read is a line too many
pub many_here : (e : LogError) → (e.code ≡ Read) ⊎ ((e.code ≡ TooManyLines) × (e.line ≡ 1000001)) → is_read e.code ≡ false → e.line ≡ 1000001
many_here e (inl read) calm = cc (calm, ap is_read read)
many_here e (inr many) calm = many.1

-- the same of a log, which ends at a bad line
module _ {R X : Type 0} (view : X → Capture) (number : X → ℕ) {t left : Option (List ℕ)} {n before : ℕ} {new : LogReader R} (fits : n ≤ 1000000) where
  pub log-bad : (end : Option Log) (found : FoundFault) (e : LogError) → ComesTo t n before left new (Ok (Some (Bad found))) → before < 1000000
      → e.line ≡ before + 1 → e.code ≡ code_of found.fault.why → is_read e.code ≡ false → Gives view number (log_at n t) end (Err e)
  log-bad end found e c few here code calm =
      let says = ap (λ (k : LogCode). bad k (origin_found new found)) (sym code) in
      subst (λ (a : Option Log). Gives view number a end (Err e)) (sym (log-said_at n t fits))
      (Gives-bad view number (said_found new) (λ _. before + 1) (said_at n t) (said_at (before + 1) left) end (Bad found) e
      (origin_found new found) says (sym here) calm (said-bad found c few refl))

  pub log-long : (end : Option Log) (e : LogError) → ComesTo t n before left new (Ok (Some Long)) → before < 1000000
      → e.line ≡ before + 1 → e.code ≡ LongLine → is_read e.code ≡ false → Gives view number (log_at n t) end (Err e)
  log-long end e c few here code calm =
      let says = ap (λ (k : LogCode). bad k None) (sym code) in
      let first = long-said (said_found new) (λ _. before + 1) Long c.at before few c.says.0 refl refl in
      subst (λ (a : Option Log). Gives view number a end (Err e)) (sym (log-said_at n t fits))
      (Gives-bad view number (said_found new) (λ _. before + 1) (said_at n t) first.0 end Long e None says (sym here) calm
      (said-there (said_found new) (λ _. before + 1) first.0 (Ok (Some Long)) c first.1))

-- so many lines are few enough for a log to be told
by-said : {X : Type 0} (view : X → Capture) (number : X → ℕ) (t left : Option (List ℕ)) (n after : ℕ) → n ≤ 1000000 → after ≤ 1000000
    → (r : Result (Option X) LogError) → Gives view number (option_map log_said (said_at n t)) (option_map log_said (said_at after left)) r
    → Gives view number (log_at n t) (log_at after left) r
by-said view number t left n after fits fits_after r gives =
    subst (λ (a : Option Log). Gives view number a (log_at after left) r) (sym (log-said_at n t fits))
    (subst (λ (b : Option Log). Gives view number (option_map log_said (said_at n t)) b r) (sym (log-said_at after left fits_after)) gives)

module _ {R X : Type 0} (view : X → Capture) (number : X → ℕ) {t left : Option (List ℕ)} {n before after : ℕ} {new : LogReader R}
    (fits : n ≤ 1000000) (fits_after : after ≤ 1000000) where
  pub log-record : (found : FoundRecord) (x : X) → capture_at new found ≡ view x → number x ≡ after
      → ComesTo t n before left new (Ok (Some (Record found))) → before < 1000000 → after ≡ before + 1
      → Gives view number (log_at n t) (log_at after left) (Ok (Some x))
  log-record found x is here c few count =
      by-said view number t left n after fits fits_after (Ok (Some x))
      (Gives-record view number (said_found new) (λ _. after) (said_at n t) (said_at after left) x (Record found) (ap captured is) (sym here)
      (said-record found c few count))

  pub log-end : ComesTo t n before left new (Ok None) → after ≡ before → Gives view number (log_at n t) (log_at after left) (Ok None)
  log-end c same =
      by-said view number t left n after fits fits_after (Ok None)
      (Gives-end view number (said_found new) (λ _. after) (said_at n t) (said_at after left) (said-end (said_found new) (λ _. after) c same))

  kept : (e : LogError) → ComesTo t n before left new (Err e) → after ≡ before → is_read e.code ≡ true → SameSaid (said_at n t) (said_at after left)
  kept e c same read =
      SameSaid-trans (said_at n t) (said_at before c.at) (said_at after left) c.skips.said
      (SameSaid-kept c.at left before after (kept_unread c.at left before e read c.says) same)

  pub log-failed : (e : LogError) → ComesTo t n before left new (Err e) → (is_read e.code ≡ false → e.line ≡ 1000001) → after ≡ before
      → Gives view number (log_at n t) (log_at after left) (Err e)
  log-failed e c here same =
      by-said view number t left n after fits fits_after (Err e)
      (Gives-failed view number (said_found new) (λ _. after) (said_at n t) (said_at after left) e (kept e c same) here
      (said-failed (said_found new) (λ _. after) (said_at after left) e c))
