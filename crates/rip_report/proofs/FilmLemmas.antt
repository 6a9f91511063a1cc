-- How far a film has come.
use Rattle.std.proofs.Common.{◌≡◌, ◌≢◌, ◌∙◌, ◌+◌, ◌-◌, ◌≤◌, ◌++◌, nat_lt, [], ◌∷◌, ℕ, Bool, true, false, cond, List, Option, Some, None, Result, Ok, Err, IfOk, IfSome, inl, refl, sym, ap, subst, append_assoc, append-nil, arith}
use Rattle.std.proofs.lemmas.Bool.{ltb-true}
use Rattle.std.specs.Prelude.{OnErr}
use Rattle.std.specs.declared.alloc.AllocError.{AllocError}
use Rattle.rip_log.specs.TimedCall.{bad_said, timed_capture}
use Rattle.rip_log.specs.TimedText.{LineSaid, captured}
use Rattle.rip_log.specs.declared.timed.reader.TimedFault.{TimedFault}
use Rattle.rip_log.specs.declared.timed.reader.TimedLine.{TimedLine}
use Rattle.rip_log.specs.declared.timed.reader.TimedLine.TheVariants.{Bad, Record, Skipped}
use Rattle.rip_plan.specs.Network.{Network}
use Rattle.rip_table.specs.Scenes.{View, after_line, after_said, closed_view, new_view}
use Rattle.rip_table.specs.Seconds.{after_quiet, from_first, later_second, log_seconds, own_second, quiet, seconds_of}
use Rattle.rip_table.specs.declared.scene.LineCause.TheVariants.{Log}
use Rattle.rip_report.specs.Films.{EndsFilm, HasShown, IsEnd, IsNotTimed, LineBegun, QuietFilm, Stage, TakesLine, line_second, seconds_before, with_line}
use Rattle.rip_report.specs.Outs.{AddsOne, Progress}
use Rattle.rip_report.specs.RefusalText.{refusal_line}
use Rattle.rip_report.specs.WatchText.{FilmOf, FilmToSettled, IsShot, Shots, Watched, WatchedFront}
use Rattle.rip_report.specs.Written.{Written}
use Rattle.rip_report.specs.declared.status.Status.{Status}
use Rattle.rip_report.specs.declared.status.Status.TheVariants.{Done, Refused, Settled, Unclear, Unsettled}
use Rattle.rip_report.proofs.OutLemmas.{added_also, adds_nothing, adds_one}
use Rattle.rip_report.proofs.WatchLemmas.{both_not, film_none, not_settled, quiet_less, shots_one, shots_then}

-- ---- the seconds to come

-- a second later is that many seconds later
later_than : (second : ℕ) (own : Option ℕ) → second + (later_second second own - second) ≡ later_second second own
later_than second None = omega arith
later_than second (Some own) = by (nat_lt second own) refl
  where
    by : (b : Bool) → nat_lt second own ≡ b → second + (cond b own second - second) ≡ cond b own second
    by true t = let more = ltb-true second own t in omega (arith, more)
    by false t = omega arith

-- those of a line, and of the lines behind it
said_seconds : (n : Network) (window second : ℕ) (v : View) (l : LineSaid) (lines : List LineSaid) →
    let count = later_second second (own_second l.said) - second in
    seconds_of n window second v (l ∷ lines) ≡ quiet n count second v ++ seconds_of n window (second + count) (after_said n window l.line l.said (after_quiet n count v)) lines
said_seconds n window second v l lines =
    let count = later_second second (own_second l.said) - second in
    ap (λ (s : ℕ). quiet n count second v ++ seconds_of n window s (after_said n window l.line l.said (after_quiet n count v)) lines) (sym (later_than second (own_second l.said)))

-- the same of a line that is lent
line_seconds : (n : Network) (window second : ℕ) (v : View) (line : TimedLine) (lines : List LineSaid) →
    let count = seconds_before second line in
    seconds_of n window second v (with_line line lines) ≡ quiet n count second v ++ seconds_of n window (second + count) (after_line n window line (after_quiet n count v)) lines
line_seconds n window second v Skipped lines =
    let none : 0 ≡ second - second = omega arith in
    let here : second ≡ second + 0 = omega arith in
    ap (λ (s : ℕ). seconds_of n window s v lines) here
    ∙ ap (λ (count : ℕ). quiet n count second v ++ seconds_of n window (second + count) (after_quiet n count v) lines) none
line_seconds n window second v (Record r) lines = said_seconds n window second v (record { line = r.line; said = captured r.micros (timed_capture r) }) lines
line_seconds n window second v (Bad fault) lines = said_seconds n window second v (record { line = fault.line; said = bad_said fault.micros fault.code }) lines

-- the first of so many quiet seconds
quiet_front : (n : Network) (k count second : ℕ) (v : View) → k ≤ count → quiet n count second v ≡ quiet n k second v ++ quiet n (count - k) (second + k) (after_quiet n k v)
quiet_front n k count second v few =
    let whole : count ≡ k + (count - k) = omega (arith, few) in
    ap (λ (m : ℕ). quiet n m second v) whole ∙ quiet_less n k (count - k) second v

-- those of a log, where the first of its seconds, and then the quiet ones before a line, are before the others
passed : (n : Network) (window second : ℕ) (v : View) (all to_come : List LineSaid) (before : List (ℕ × View)) (line : TimedLine)
    → log_seconds n window all ≡ before ++ seconds_of n window second v (with_line line to_come) →
    let count = seconds_before second line in
    log_seconds n window all ≡ (before ++ quiet n count second v) ++ seconds_of n window (second + count) (after_line n window line (after_quiet n count v)) to_come
passed n window second v all to_come before line is =
    let count = seconds_before second line in
    let behind = seconds_of n window (second + count) (after_line n window line (after_quiet n count v)) to_come in
    is ∙ ap (λ (xs : List (ℕ × View)). before ++ xs) (line_seconds n window second v line to_come) ∙ sym (append_assoc before (quiet n count second v) behind)

-- and where the first of these are
stopped : (n : Network) (window second : ℕ) (v : View) (all to_come : List LineSaid) (before : List (ℕ × View)) (line : TimedLine) (k : ℕ)
    → log_seconds n window all ≡ before ++ seconds_of n window second v (with_line line to_come) → k ≤ seconds_before second line
    → (after : List (ℕ × View)) × (log_seconds n window all ≡ (before ++ quiet n k second v) ++ after)
stopped n window second v all to_come before line k is few =
    let count = seconds_before second line in
    let behind = seconds_of n window (second + count) (after_line n window line (after_quiet n count v)) to_come in
    let front = quiet n k second v in
    let rest = quiet n (count - k) (second + k) (after_quiet n k v) in (
      rest ++ behind,
      passed n window second v all to_come before line is ∙ ap (λ (xs : List (ℕ × View)). (before ++ xs) ++ behind) (quiet_front n k count second v few)
          ∙ ap (λ (xs : List (ℕ × View)). xs ++ behind) (sym (append_assoc before front rest)) ∙ append_assoc (before ++ front) rest behind,
    )

-- ---- a film, one part after the other

films_then : {n : Network} {until : Bool} {last mid ended text more : List ℕ} {xs ys : List (ℕ × View)} → FilmOf n until last xs mid text → FilmOf n until mid ys ended more
    → FilmOf n until last (xs ++ ys) ended (text ++ more)
films_then first later = (first.0 ++ later.0, shots_then first.1 later.1, λ is. both_not first.0 later.0 (first.2 is) (later.2 is))

settled_then : {n : Network} {until : Bool} {last mid ended text more : List ℕ} {xs ys : List (ℕ × View)} → until ≡ true → FilmOf n until last xs mid text → FilmToSettled n mid ys ended more
    → FilmToSettled n last (xs ++ ys) ended (text ++ more)
settled_then {n = n} {last = last} {ended = ended} {text = text} {more = more} {xs = xs} {ys = ys} is first later = (
  first.0 ++ later.0,
  subst (λ (ss : List Status). Shots n last (xs ++ ys) (text ++ more) ended ss) (sym (append_assoc first.0 later.0 (Settled ∷ []))) (shots_then first.1 later.1),
  both_not first.0 later.0 (first.2 is) later.2,
)

-- ---- a line of a film that has begun

module _ {n : Network} {window : ℕ} {until : Bool} {old : Stage} (line : TimedLine) (begun : old.begun ≡ true) where
  -- it goes on
  pub shown_on : (new : Stage) (more : List ℕ) → FilmOf n until old.last (quiet n (seconds_before old.second line) old.second old.view) new.last more
      → new.begun ≡ true → new.second ≡ old.second + seconds_before old.second line → new.view ≡ after_line n window line (after_quiet n (seconds_before old.second line) old.view)
      → (all to_come : List LineSaid) (text : List ℕ) → HasShown n window until old all (with_line line to_come) text → HasShown n window until new all to_come (text ++ more)
  shown_on new more film begins second view all to_come text (HasShown.nothing not_yet last was same none) = absurd (cc (begun, not_yet))
  shown_on new more film begins second view all to_come text (HasShown.seconds before is seconds shown) =
      let here : seconds_of n window (old.second + seconds_before old.second line) (after_line n window line (after_quiet n (seconds_before old.second line) old.view)) to_come
      ≡ seconds_of n window new.second new.view to_come = ap (λ (s : ℕ). seconds_of n window s (after_line n window line (after_quiet n (seconds_before old.second line) old.view)) to_come)
      (sym second)
      ∙ ap (λ (u : View). seconds_of n window new.second u to_come) (sym view) in
      let front = before ++ quiet n (seconds_before old.second line) old.second old.view in
      HasShown.seconds front begins (passed n window old.second old.view all to_come before line seconds ∙ ap (λ (xs : List (ℕ × View)). front ++ xs) here) (films_then shown film)

  -- or a settled second before the line ends it
  pub shown_settled : (ended more : List ℕ) → QuietFilm n until old.last old.second old.view (seconds_before old.second line) true ended more
      → (all to_come : List LineSaid) (text : List ℕ) → HasShown n window until old all (with_line line to_come) text
      → Watched n window until all (record { text = text ++ more; status = Settled })
  shown_settled ended more film all to_come text (HasShown.nothing not_yet last was same none) = absurd (cc (begun, not_yet))
  shown_settled ended more (is, (k, lt, settled)) all to_come text (HasShown.seconds before has seconds shown) =
      let count = seconds_before old.second line in
      let few : k + 1 ≤ count = omega (arith, lt) in
      let split = stopped n window old.second old.view all to_come before line (k + 1) seconds few in
      Watched.to_settled (text ++ more) ended (before ++ quiet n (k + 1) old.second old.view) split.0 is split.1 (settled_then is shown settled)

  -- or memory lacks
  pub shown_begun : (more : List ℕ) → LineBegun n until old.last old.second old.view (seconds_before old.second line) more
      → (all to_come : List LineSaid) (text : List ℕ) → HasShown n window until old all (with_line line to_come) text → WatchedFront n window until all (text ++ more)
  shown_begun more film all to_come text (HasShown.nothing not_yet last was same none) = absurd (cc (begun, not_yet))
  shown_begun more (k, lt, (ended, film)) all to_come text (HasShown.seconds before has seconds shown) =
      let count = seconds_before old.second line in
      let few : k ≤ count = omega (arith, lt) in
      let split = stopped n window old.second old.view all to_come before line k seconds few in
      WatchedFront.seconds ended (before ++ quiet n k old.second old.view) split.0 split.1 (films_then shown film)

-- ---- the first line

module _ {n : Network} {window : ℕ} {until : Bool} (old new : Stage) (was : old.begun ≡ false) where
  -- a film begins in the second of the first line
  film_first : (l : LineSaid) (all to_come : List LineSaid) (text : List ℕ) → own_second l.said ≡ Some new.second → new.begun ≡ true → new.last ≡ [] → new.view ≡ new_view n → text ≡ []
      → all ≡ l ∷ to_come → HasShown n window until new all (l ∷ to_come) text
  film_first l all to_come text own begins last view none same =
      HasShown.seconds [] begins
      (ap (log_seconds n window) same ∙ ap (λ (o : Option ℕ). from_first n window o (l ∷ to_come)) own ∙ ap (λ (u : View). seconds_of n window new.second u (l ∷ to_come)) (sym view))
      (subst (λ (t : List ℕ). FilmOf n until [] [] t text) (sym last) (subst (λ (t : List ℕ). FilmOf n until [] [] [] t) (sym none) (film_none n until [])))

  pub shown_first : (line : TimedLine) → line_second line ≡ Some new.second → new.begun ≡ true → new.last ≡ old.last → new.view ≡ old.view
      → (all to_come : List LineSaid) (text : List ℕ) → HasShown n window until old all (with_line line to_come) text → HasShown n window until new all (with_line line to_come) text
  shown_first line own begins last view all to_come text (HasShown.seconds before has seconds shown) = absurd (cc (was, has))
  shown_first Skipped own begins last view all to_come text (HasShown.nothing not_yet none is same nothing) = absurd (cc own)
  shown_first (Record r) own begins last view all to_come text (HasShown.nothing not_yet none is same nothing) =
      film_first (record { line = r.line; said = captured r.micros (timed_capture r) }) all to_come text own begins (last ∙ none) (view ∙ is) nothing same
  shown_first (Bad fault) own begins last view all to_come text (HasShown.nothing not_yet none is same nothing) =
      film_first (record { line = fault.line; said = bad_said fault.micros fault.code }) all to_come text own begins (last ∙ none) (view ∙ is) nothing same

-- a first line without a time
pub shown_untimed : {n : Network} {window : ℕ} {until : Bool} (old : Stage) (fault : TimedFault) → old.begun ≡ false → fault.micros ≡ None
    → (all to_come : List LineSaid) (text : List ℕ) → HasShown n window until old all (with_line (Bad fault) to_come) text
    → Watched n window until all (record { text = text ++ refusal_line fault.line (Log fault.code); status = Refused })
shown_untimed old fault was none all to_come text (HasShown.seconds before has seconds shown) = absurd (cc (was, has))
shown_untimed {n = n} {window = window} {until = until} old fault was none all to_come text (HasShown.nothing not_yet last is same nothing) =
    subst (λ (t : List ℕ). Watched n window until all (record { text = t ++ refusal_line fault.line (Log fault.code); status = Refused })) (sym nothing)
    (Watched.no_time (record { line = fault.line; said = bad_said fault.micros fault.code }) to_come fault.code same (ap (λ (o : Option ℕ). bad_said o fault.code) none))

-- a line that says nothing
pub shown_skipped : {n : Network} {window : ℕ} {until : Bool} (old : Stage)
    → (all to_come : List LineSaid) (text : List ℕ) → HasShown n window until old all to_come text → HasShown n window until old all to_come (text ++ [])
shown_skipped {n = n} {window = window} {until = until} old all to_come text shown = subst (HasShown n window until old all to_come) (sym (append-nil text)) shown

-- ---- the end

-- the last second
pub shown_last : {n : Network} {window : ℕ} {until : Bool} (old : Stage) (more : List ℕ) (w : Written) → old.begun ≡ true → IsShot n old.second (closed_view n old.view) old.last w more
    → (all : List LineSaid) (text : List ℕ) → HasShown n window until old all [] text → Watched n window until all (record { text = text ++ more; status = w.status })
shown_last old more w begun shot all text (HasShown.nothing not_yet last is same none) = absurd (cc (begun, not_yet))
shown_last {n = n} {window = window} {until = until} old more w begun shot all text (HasShown.seconds before has seconds shown) = by until w.status refl refl
  where
    front : List (ℕ × View)
    front = before ++ (old.second, closed_view n old.view) ∷ []

    shots : Shots n [] (log_seconds n window all) (text ++ more) w.text (shown.0 ++ w.status ∷ [])
    shots = subst (λ (xs : List (ℕ × View)). Shots n [] xs (text ++ more) w.text (shown.0 ++ w.status ∷ [])) (sym seconds) (shots_then shown.1 (shots_one shot))

    to_end : (until ≡ true → w.status ≢ Settled) → Watched n window until all (record { text = text ++ more; status = w.status })
    to_end other = Watched.to_end (text ++ more) w.text shown.0 w.status shots (λ is. not_settled shown.0 w.status (shown.2 is) (other is))

    by : (b : Bool) (s : Status) → until ≡ b → w.status ≡ s → Watched n window until all (record { text = text ++ more; status = w.status })
    by false s is status = to_end (λ e. absurd (cc (is, e)))
    by true Settled is status =
        subst (λ (t : Status). Watched n window until all (record { text = text ++ more; status = t })) (sym status)
        (Watched.to_settled (text ++ more) w.text front [] is (seconds ∙ sym (append-nil front))
        (shown.0, subst (λ (t : Status). Shots n [] front (text ++ more) w.text (shown.0 ++ t ∷ [])) status (shots_then shown.1 (shots_one shot)), shown.2 is))
    by true Done is status = to_end (λ e settled. let k : Done ≡ Settled = sym status ∙ settled in absurd (cc k))
    by true Unsettled is status = to_end (λ e settled. let k : Unsettled ≡ Settled = sym status ∙ settled in absurd (cc k))
    by true Unclear is status = to_end (λ e settled. let k : Unclear ≡ Settled = sym status ∙ settled in absurd (cc k))
    by true Refused is status = to_end (λ e settled. let k : Refused ≡ Settled = sym status ∙ settled in absurd (cc k))

-- where no line said anything
pub shown_nothing : {n : Network} {window : ℕ} {until : Bool} (old : Stage) → old.begun ≡ false → (all : List LineSaid) (text : List ℕ) → HasShown n window until old all [] text
    → Watched n window until all (record { text = text ++ []; status = Unclear })
shown_nothing old was all text (HasShown.seconds before has seconds shown) = absurd (cc (was, has))
shown_nothing {n = n} {window = window} {until = until} old was all text (HasShown.nothing not_yet last is same nothing) =
    subst (λ (t : List ℕ). Watched n window until all (record { text = t ++ []; status = Unclear })) (sym nothing) (Watched.no_line same)

-- what was shown so far
pub shown_front : {n : Network} {window : ℕ} {until : Bool} (old : Stage) (all to_come : List LineSaid) (text : List ℕ) → HasShown n window until old all to_come text
    → WatchedFront n window until all text
shown_front {n = n} {window = window} {until = until} old all to_come text (HasShown.seconds before has seconds shown) = WatchedFront.seconds old.last before _ seconds shown
shown_front {n = n} {window = window} {until = until} old all to_come text (HasShown.nothing not_yet last is same nothing) =
    WatchedFront.seconds [] [] (log_seconds n window all) refl (subst (λ (t : List ℕ). FilmOf n until [] [] [] t) (sym nothing) (film_none n until []))

-- ---- what taking in a line adds

-- a first line that begins a film is taken in as each further one
pub first_takes : (n : Network) (window : ℕ) (until : Bool) (line : TimedLine) (old begun new : Stage) (before after : Progress) (result : Result (Option Status) AllocError)
    → old.begun ≡ false → line_second line ≡ Some begun.second → begun.begun ≡ true → begun.last ≡ old.last → begun.view ≡ old.view
    → TakesLine n window until line begun new before after result → TakesLine n window until line old new before after result
first_takes n window until line old begun new before after (Ok None) was own begins last view takes =
    added_also (λ more goes_on all to_come text shown. goes_on all to_come text (shown_first old begun was line own begins last view all to_come text shown)) takes
first_takes n window until line old begun new before after (Ok (Some status)) was own begins last view takes =
    added_also (λ more ends all to_come text shown. ends all to_come text (shown_first old begun was line own begins last view all to_come text shown)) takes
first_takes n window until line old begun new before after (Err e) was own begins last view takes =
    added_also (λ more lacks all to_come text shown. lacks all to_come text (shown_first old begun was line own begins last view all to_come text shown)) takes

-- a first line without a time is refused or skipped
pub takes_untimed : (n : Network) (window : ℕ) (until : Bool) (line : TimedLine) (old : Stage) (before after : Progress) (result : Option Status) → old.begun ≡ false
    → IsNotTimed line before after result → TakesLine n window until line old old before after (Ok result)
takes_untimed n window until line old before after None was (skipped, same) =
    subst (λ (p : Progress). TakesLine n window until line old old before p (Ok None)) (sym same) (adds_nothing (λ all to_come text shown.
    shown_skipped old all to_come text (subst (λ (l : TimedLine). HasShown n window until old all (with_line l to_come) text) skipped shown)))
takes_untimed n window until line old before after (Some status) was (fault, is, none, refused, adds) =
    adds_one (λ all to_come text shown.
    subst (λ (s : Status). Watched n window until all (record { text = text ++ refusal_line fault.line (Log fault.code); status = s })) (sym refused)
    (shown_untimed old fault was none all to_come text (subst (λ (l : TimedLine). HasShown n window until old all (with_line l to_come) text) is shown))) adds

pub untimed_ends : (until : Bool) (line : TimedLine) (before after : Progress) (result : Option Status) → IsNotTimed line before after result → IfSome result (IsEnd until)
untimed_ends until line before after None h = tt
untimed_ends until line before after (Some status) (fault, is, none, refused, adds) = inl refused

-- ---- what the end adds

pub ends_film : (n : Network) (window : ℕ) (until : Bool) (old : Stage) (before after : Progress) (last : List ℕ) (v : View) (result : Result Status AllocError) → old.begun ≡ true
    → v ≡ closed_view n old.view → IfOk result (λ status. AddsOne before after (IsShot n old.second v old.last (record { text = last; status = status }))) → OnErr result (after ≡ before)
    → EndsFilm n window until old before after result
ends_film n window until old before after last v (Ok status) begun view shot nothing =
    let w : Written = record { text = last; status = status } in
    added_also (λ more shot. shown_last old more w begun (subst (λ (u : View). IsShot n old.second u old.last w more) view shot)) shot
ends_film n window until old before after last v (Err e) begun view shot nothing = nothing

pub ends_nothing : (n : Network) (window : ℕ) (until : Bool) (old : Stage) (before : Progress) → old.begun ≡ false → EndsFilm n window until old before before (Ok Unclear)
ends_nothing n window until old before was = adds_nothing (λ all text shown. shown_nothing old was all text shown)
