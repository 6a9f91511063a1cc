-- What a run on a log with times comes to.
use Rattle.std.proofs.Common.{◌≡◌, ◌≢◌, ◌⊎◌, ◌∙◌, ◌++◌, [], ℕ, Bool, true, false, ◌↔◌, List, Option, Some, Result, Ok, Err, IfOk, inl, inr, refl, sym, ap, subst, append-nil}
use Rattle.std.specs.Io.KnownBytes.{IsAtEnd}
use Rattle.std.specs.Prelude.{OnErr}
use Rattle.rip_log.specs.Lines.{lines_of}
use Rattle.rip_log.specs.LogText.{AreLines, AreRecords}
use Rattle.rip_log.specs.Logs.{Numbered}
use Rattle.rip_log.specs.Taken.{Taken, Took}
use Rattle.rip_log.specs.TimedCall.{timed_text}
use Rattle.rip_log.specs.TimedText.{AreCaptured, AreTimedOf, AreTimedSaid, LineSaid, TextSays}
use Rattle.rip_log.specs.Wholes.{OfWhole, Went, rest_of}
use Rattle.rip_log.specs.declared.timed.reader.TimedReader.{TimedReader}
use Rattle.rip_plan.specs.Network.{Network}
use Rattle.rip_plan.specs.Relations.{IsLawful}
use Rattle.rip_table.specs.LogJoin.{IsJoined}
use Rattle.rip_table.specs.Seconds.{AreWithin, EndsShowing, log_seconds}
use Rattle.rip_table.specs.State.{State, new_state}
use Rattle.rip_report.specs.AuditText.{VerdictText}
use Rattle.rip_report.specs.Films.{IsUnreadTo, ShowsText}
use Rattle.rip_report.specs.Finished.{EndsWith}
use Rattle.rip_report.specs.Given.{IsGiven}
use Rattle.rip_report.specs.Outs.{AddsOne, Progress}
use Rattle.rip_report.specs.ReportText.{IsTable}
use Rattle.rip_report.specs.Sent.{Began, BeginningOut, Keeps, Prints, PrintsAlong, SinkState, WentOut, sink_state}
use Rattle.rip_report.specs.WatchText.{EndsAsJudged, EndsRight, IsVerdictStatus, LiesWithin, SceneText, Watched, WatchedFront, WatchedLog, WatchedLogFront}
use Rattle.rip_report.specs.Written.{Written}
use Rattle.rip_report.specs.declared.status.RunError.{RunError}
use Rattle.rip_report.specs.declared.status.RunError.TheVariants.{Memory, Read, Write}
use Rattle.rip_report.specs.declared.status.Status.{Status}
use Rattle.rip_report.specs.declared.status.Status.TheVariants.{Refused, Settled}
use Rattle.rip_log.specs.declared.source.Source.{Ghosts as SourceOf}
use Rattle.rip_plan.specs.PlanFaults.{IsFault, PlanFault}
use Rattle.rip_plan.specs.WellFormed.{IsWellFormed}
use Rattle.rip_plan.specs.declared.error.PlanCode.TheVariants.{Memory as OutOfMemory}
use Rattle.rip_plan.specs.declared.error.PlanError.{PlanError}
use Rattle.rip_report.specs.PlanText.{refused_plan}
use Rattle.rip_report.specs.Runs.{DrawsTimes}
use Rattle.rip_report.proofs.EndLemmas.{refused_prints}
use Rattle.rip_report.proofs.GivenLemmas.{rest_given, undrawn}
use Rattle.rip_report.proofs.RightSecondLemmas.{ends_right, ends_verdict, verdict_shown}

-- ---- what was printed

-- for the text that a source has begun to give
pub shown_told : {R : Type 0} (given : R → List ℕ) (at_end : R → Bool) (log new after : R) (reader : TimedReader R) (a b : Progress) (n : Network) (window : ℕ) (until : Bool)
    (ended : Result Status RunError) (text : List ℕ) → new ≡ after → ((coming : R → Option (List ℕ)) → timed_text coming reader ≡ coming log)
    → OfWhole given at_end after (λ coming. AddsOne a b (ShowsText n window until (timed_text coming reader) ended))
    → IsGiven given at_end log new text → AddsOne a b (ShowsText n window until (Some text) ended)
shown_told {R} given at_end log new after reader a b n window until ended text same front shows begun =
    let whole = given log ++ text in
    let is : timed_text (rest_of given whole) reader ≡ Some text = front (rest_of given whole) ∙ rest_given given log text in
    subst (λ (t : Option (List ℕ)). AddsOne a b (ShowsText n window until t ended)) is (shows whole (subst (λ (s : R). IsGiven given at_end log s text) same begun))

abbrev LinesLaw : Type 0
LinesLaw = (text : List ℕ) (lines : List (List ℕ)) → AreLines text lines ↔ (lines ≡ lines_of text)

abbrev OneLaw : Type 0
OneLaw = (n : ℕ) (lines : List (List ℕ)) (a b : List LineSaid) → AreTimedSaid n lines a → AreTimedSaid n lines b → a ≡ b

says_text : LinesLaw → (text : List ℕ) (all : List LineSaid) → AreTimedSaid 0 (lines_of text) all → TextSays text all
says_text law text all says = record { lines = lines_of text; are_lines = (law text (lines_of text)).1 refl; are_said = says }

same_said : LinesLaw → OneLaw → (text : List ℕ) (lines : List (List ℕ)) (all said : List LineSaid) → AreTimedSaid 0 (lines_of text) all → AreLines text lines → AreTimedSaid 0 lines said → all ≡ said
same_said law one text lines all said says are_lines are_said =
    let same : lines ≡ lines_of text = (law text lines).0 are_lines in
    one 0 (lines_of text) all said says (subst (λ (l : List (List ℕ)). AreTimedSaid 0 l said) same are_said)

-- the whole of it
pub shown_text : LinesLaw → (n : Network) (window : ℕ) (until : Bool) (text printed : List ℕ) (ended : Result Status RunError) → ShowsText n window until (Some text) ended printed
    → IfOk ended (λ status. WatchedLog n window until text (record { text = printed; status = status }))
shown_text law n window until text printed (Ok status) (all, says, watched) = (all, says_text law text all says, watched)
shown_text law n window until text printed (Err e) shown = tt

-- or a beginning
pub shown_part : LinesLaw → (n : Network) (window : ℕ) (until : Bool) (text printed : List ℕ) (ended : Result Status RunError) → ShowsText n window until (Some text) ended printed
    → WatchedLogFront n window until text (record { text = printed; status = Refused })
shown_part law n window until text printed (Ok status) (all, says, watched) = (all, says_text law text all says, WatchedFront.all status watched)
shown_part law n window until text printed (Err e) (all, says, front) = (all, says_text law text all says, front)

-- ---- the end of a run

module _ {K : Type 0} (taken : K → Taken) (broken : K → Bool) (a b : K) where
  began : (text : List ℕ) → Took (taken a) (taken b) text → Began (taken a) (taken b) text
  began text took = record { left = []; sent = record { front = text; sent = took; whole = sym (append-nil text) } }

  said_of : (IsText : Written → Type 0) (printed : List ℕ) (ended : Result Status RunError) (status : Status) → ended ≡ Ok status → IfOk ended (λ s. IsText (record { text = printed; status = s }))
      → IsText (record { text = printed; status = status })
  said_of IsText printed (Ok other) status same text = let one : other ≡ status = cc same in subst (λ (s : Status). IsText (record { text = printed; status = s })) one text
  said_of IsText printed (Err e) status same text = absurd (cc same)

  along : (IsText IsFront : Written → Type 0) (printed : List ℕ) (ended answer : Result Status RunError) → IfOk ended (λ status. IsText (record { text = printed; status = status }))
      → IsFront (record { text = printed; status = Refused }) → EndsWith (sink_state taken broken a) (sink_state taken broken b) printed ended answer
      → PrintsAlong taken broken a b answer IsText IsFront
  along IsText IsFront printed ended (Ok status) text front e =
      let out = e.out (λ h. cc h) in
      let told = said_of IsText printed ended status (sym out.0) text in
      record { text = (printed, told, out.1); front = tt; write = λ h. cc h; sink = λ other. e.sink other }
  along IsText IsFront printed ended (Err Write) text front e =
      let out = e.write refl in
      record { text = tt; front = inr (record { text = printed; status = Refused }, front, out.1); write = λ h. out.0; sink = λ other. absurd (other refl) }
  along IsText IsFront printed ended (Err Read) text front e =
      let out = e.out (λ h. cc h) in
      record { text = tt; front = inr (record { text = printed; status = Refused }, front, began printed out.1); write = λ h. cc h; sink = λ other. e.sink other }
  along IsText IsFront printed ended (Err Memory) text front e =
      let out = e.out (λ h. cc h) in
      record { text = tt; front = inr (record { text = printed; status = Refused }, front, began printed out.1); write = λ h. cc h; sink = λ other. e.sink other }

  -- what was added to nothing goes out
  pub prints_along : LinesLaw → (n : Network) (window : ℕ) (until : Bool) (text : List ℕ) (begun end : Progress) (ended answer : Result Status RunError) → begun.start ≡ sink_state taken broken a
      → begun.text ≡ [] → AddsOne begun end (ShowsText n window until (Some text) ended) → EndsWith end.start (sink_state taken broken b) end.text ended answer
      → PrintsAlong taken broken a b answer (WatchedLog n window until text) (WatchedLogFront n window until text)
  prints_along law n window until text begun end ended answer start none added e =
      let same : end.text ≡ added.text = added.adds.text ∙ ap (λ (l : List ℕ). l ++ added.text) none in
      let now = sink_state taken broken b in
      let from : EndsWith (sink_state taken broken a) now end.text ended answer = subst (λ (s : SinkState). EndsWith s now end.text ended answer) (added.adds.start ∙ start) e in
      along (WatchedLog n window until text) (WatchedLogFront n window until text) added.text ended answer (shown_text law n window until text added.text ended added.is_text)
      (shown_part law n window until text added.text ended added.is_text) (subst (λ (l : List ℕ). EndsWith (sink_state taken broken a) now l ended answer) same from)

  -- a text of those that may be printed is one of others
  pub along_also : {IsText IsFront IsAlso IsAlsoFront : Written → Type 0} (answer : Result Status RunError) → ((w : Written) → IsText w → IsAlso w) → ((w : Written) → IsFront w → IsAlsoFront w)
      → PrintsAlong taken broken a b answer IsText IsFront → PrintsAlong taken broken a b answer IsAlso IsAlsoFront
  along_also {IsText = IsText} {IsFront = IsFront} {IsAlso = IsAlso} {IsAlsoFront = IsAlsoFront} answer also front p = record {
    text = whole answer p.text;
    front = part answer p.front;
    write = p.write;
    sink = p.sink;
  }
    where
      whole : (r : Result Status RunError) → IfOk r (WentOut IsText (taken a) (taken b)) → IfOk r (WentOut IsAlso (taken a) (taken b))
      whole (Ok status) h = (h.0, also (record { text = h.0; status = status }) h.1, h.2)
      whole (Err e) h = tt

      part : (r : Result Status RunError) → OnErr r (Keeps (taken a) (taken b) ⊎ BeginningOut IsFront (taken a) (taken b))
          → OnErr r (Keeps (taken a) (taken b) ⊎ BeginningOut IsAlsoFront (taken a) (taken b))
      part (Ok status) h = tt
      part (Err e) (inl kept) = inl kept
      part (Err e) (inr out) = inr (out.0, front out.0 out.1, out.2)

-- what is answered is what the run ended with, unless the sink has failed
pub answered : {old new : SinkState} {text : List ℕ} {ended : Result Status RunError} (P : Status → Type 0) (answer : Result Status RunError) → EndsWith old new text ended answer → IfOk ended P
    → IfOk answer P
answered {ended = ended} P (Ok status) e h = by ended (e.out (λ is. cc is)).0 h
  where
    by : (r : Result Status RunError) → Ok status ≡ r → IfOk r P → P status
    by (Ok other) same h = let one : other ≡ status = cc same in subst P one h
    by (Err f) same h = absurd (cc same)
answered P (Err f) e h = tt

pub answered_read : {old new : SinkState} {text : List ℕ} {ended answer : Result Status RunError} → EndsWith old new text ended answer → answer ≡ Err Read → ended ≡ Err Read
answered_read {answer = answer} e is = sym (e.out (λ write. read_is_not_write (sym is ∙ write))).0 ∙ is
  where
    read_is_not_write : ◌≡◌ {A = Result Status RunError} (Err Read) (Err Write) → ⊥
    read_is_not_write h = absurd (cc h)

-- every answer but Read and Write leaves the source's mark as it was
pub keeps_mark : {R : Type 0} {old new : SinkState} {text : List ℕ} {ended answer : Result Status RunError} (broken : R → Bool) (log left after before : R) → left ≡ after → before ≡ log
    → EndsWith old new text ended answer → answer ≢ Err Read → answer ≢ Err Write → (ended ≢ Err Read → broken after ≡ broken before) → broken left ≡ broken log
keeps_mark {ended = ended} {answer = answer} broken log left after before same first e not_read not_write marks =
    let answers = (e.out not_write).0 in
    ap broken same ∙ marks (λ read. not_read (answers ∙ read)) ∙ ap broken first

-- what it gave
pub went_told : {R : Type 0} (given : R → List ℕ) (coming : R → Option (List ℕ)) (at_end : R → Bool) (log new after before : R) → new ≡ after → before ≡ log
    → Went given coming at_end before after → Went given coming at_end log new
went_told {R} given coming at_end log new after before same first went =
    subst (λ (s : R). Went given coming at_end log s) (sym same) (subst (λ (s : R). Went given coming at_end s after) first went)

-- where no more could be read
pub unread_told : {R : Type 0} (given : R → List ℕ) (broken at_end : R → Bool) (log new after : R) (reader : TimedReader R) (text : List ℕ) → new ≡ after
    → ((coming : R → Option (List ℕ)) → timed_text coming reader ≡ coming log) → OfWhole given at_end after (λ coming. IsUnreadTo (broken after) (timed_text coming reader))
    → IsGiven given at_end log new text → IsUnreadTo (broken new) (Some text)
unread_told {R} given broken at_end log new after reader text same front unread begun =
    let whole = given log ++ text in
    let is : timed_text (rest_of given whole) reader ≡ Some text = front (rest_of given whole) ∙ rest_given given log text in
    subst (λ (s : R). IsUnreadTo (broken s) (Some text)) (sym same)
    (subst (IsUnreadTo (broken after)) is (unread whole (subst (λ (s : R). IsGiven given at_end log s text) same begun)))

-- ---- the last verdict

pub ends_settled : LinesLaw → OneLaw → (n : Network) (window : ℕ) (until : Bool) (text printed : List ℕ) (ended : Result Status RunError) → ShowsText n window until (Some text) ended printed
    → (said : List LineSaid) → TextSays text said → IfOk ended (λ status. (status ≡ Settled) ↔ EndsRight n window until said)
ends_settled law one n window until text printed (Err e) shown said says = tt
ends_settled law one n window until text printed (Ok status) (all, are, watched) said says =
    subst (λ (l : List LineSaid). (status ≡ Settled) ↔ EndsRight n window until l) (same_said law one text says.lines all said are says.are_lines says.are_said) (ends_right watched)

abbrev TimedLaw : Type 0
TimedLaw = (m n : ℕ) (lines bares : List (List ℕ)) (said : List LineSaid) (records : List Numbered) → AreTimedOf lines bares → AreRecords m bares records → AreTimedSaid n lines said
    → AreCaptured said records

abbrev LastLaw : Type 0
LastLaw = (n : Network) (window : ℕ) (said : List LineSaid) (records : List Numbered) (s : State) → IsLawful n → AreWithin window said → AreCaptured said records → IsJoined n (new_state n) records s
    → EndsShowing (log_seconds n window said) s

-- a log within a window ends with the table of the log without times
pub ends_showing : LinesLaw → TimedLaw → LastLaw → (n : Network) (window : ℕ) (text plain : List ℕ) → IsLawful n → (within : LiesWithin window text plain) → (s : State) → IsTable n plain s
    → EndsShowing (log_seconds n window within.said) s
ends_showing law timed last n window text plain lawful within s table =
    let bares : table.text.lines ≡ within.bares = (law plain table.text.lines).0 table.text.are_lines ∙ sym ((law plain within.bares).0 within.are_bares) in
    let records = subst (λ (l : List (List ℕ)). AreRecords 0 l table.records) bares table.text.are_records in
    let captured = timed 0 0 within.lines within.bares within.said table.records within.timed records within.says in
    last n window within.said table.records s lawful within.within captured table.joined

pub ends_film_of : LinesLaw → OneLaw → TimedLaw → LastLaw → (n : Network) (window : ℕ) (until : Bool) (text printed plain : List ℕ) (ended : Result Status RunError) → IsLawful n
    → ShowsText n window until (Some text) ended printed → until ≡ false → LiesWithin window text plain → (s : State) → IsTable n plain s → IfOk ended (IsVerdictStatus n s)
ends_film_of law one timed last n window until text printed plain (Err e) lawful shown goes_on within s table = tt
ends_film_of law one timed last n window until text printed plain (Ok status) lawful (all, are, watched) goes_on within s table =
    let same = same_said law one text within.lines all within.said are within.are_lines within.says in
    ends_verdict s goes_on (subst (λ (l : List LineSaid). Watched n window until l (record { text = printed; status = status })) same watched)
    (ends_showing law timed last n window text plain lawful within s table)

-- the verdicts on its last second are those on that table
pub ends_judged : LinesLaw → OneLaw → TimedLaw → LastLaw → (n : Network) (window : ℕ) (text plain : List ℕ) → IsLawful n → LiesWithin window text plain → (s : State) → IsTable n plain s
    → (said : List LineSaid) → TextSays text said → EndsAsJudged n (log_seconds n window said) s
ends_judged law one timed last n window text plain lawful within s table said says =
    let ends = ends_showing law timed last n window text plain lawful within s table in
    let lines : says.lines ≡ within.lines = (law text says.lines).0 says.are_lines ∙ sym ((law text within.lines).0 within.are_lines) in
    let same : within.said ≡ said = one 0 within.lines within.said said within.says (subst (λ (l : List (List ℕ)). AreTimedSaid 0 l said) lines says.are_said) in
    record {
      before = ends.before;
      second = ends.second;
      view = ends.view;
      split = ap (log_seconds n window) (sym same) ∙ ends.split;
      same = λ w. (
        λ scene. subst (λ (t : State). VerdictText n t false w) ends.shows (verdict_shown scene ends.calm),
        λ verdict. SceneText.of_table w ends.calm (subst (λ (t : State). VerdictText n t false w) (sym ends.shows) verdict),
      );
    }

pub settled_also : (n m : Network) (window : ℕ) (until : Bool) (said : List LineSaid) (r : Result Status RunError) → n ≡ m → IfOk r (λ status. (status ≡ Settled) ↔ EndsRight m window until said)
    → IfOk r (λ status. (status ≡ Settled) ↔ EndsRight n window until said)
settled_also n m window until said r same settled = subst (λ (k : Network). IfOk r (λ status. (status ≡ Settled) ↔ EndsRight k window until said)) (sym same) settled

-- ---- a plan that is refused

refused_status : {K : Type 0} (taken : K → Taken) (broken : K → Bool) (a b : K) (e : PlanError) (answer : Result Status RunError) → Prints taken broken a b answer (λ w. w ≡ refused_plan e)
    → IfOk answer (λ status. status ≡ Refused)
refused_status taken broken a b e (Ok status) p = ap (λ (w : Written). w.status) p.text.1
refused_status taken broken a b e (Err f) p = tt

-- a plan without a fault is not refused
pub never_refused : (IsSaid : Status → Type 0) (bytes : List ℕ) (e : PlanError) (answer : Result Status RunError) → ((e.code ≡ OutOfMemory → ⊥) → PlanFault bytes e)
    → (answer ≡ Err Memory) ↔ (e.code ≡ OutOfMemory) → ((e : PlanError) → IsFault bytes e → ⊥) ↔ IsWellFormed bytes → IsWellFormed bytes → IfOk answer IsSaid
never_refused IsSaid bytes e (Ok status) told memory words well = let fault = told (λ m. other (memory.1 m)) in absurd (words.1 well e (fault.pass, fault.found))
  where
    other : ◌≡◌ {A = Result Status RunError} (Ok status) (Err Memory) → ⊥
    other h = absurd (cc h)
never_refused IsSaid bytes e (Err f) told memory words well = tt

-- what is printed then is a text of its fault
pub refused_along : {K : Type 0} (IsText IsFront : Written → Type 0) (e : PlanError) (taken : K → Taken) (broken : K → Bool) (a b : K) (answer : Result Status RunError)
    → ((e.code ≡ OutOfMemory → ⊥) → IsText (refused_plan e)) → ((e.code ≡ OutOfMemory → ⊥) → IsFront (refused_plan e)) → (answer ≡ Err Memory) ↔ (e.code ≡ OutOfMemory)
    → Prints taken broken a b answer (λ w. w ≡ refused_plan e) → PrintsAlong taken broken a b answer IsText IsFront
refused_along IsText IsFront e taken broken a b answer text front memory prints =
    both answer (refused_prints IsText e taken broken a b answer text memory prints) (refused_prints IsFront e taken broken a b answer front memory prints)
  where
    both : (r : Result Status RunError) → Prints taken broken a b r IsText → Prints taken broken a b r IsFront → PrintsAlong taken broken a b r IsText IsFront
    both (Ok status) p q = record { text = p.text; front = tt; write = λ h. cc h; sink = p.sink }
    both (Err Write) p q = record { text = tt; front = inr (q.write refl).1; write = λ h. (q.write refl).0; sink = p.sink }
    both (Err Read) p q = record { text = tt; front = inl (p.read refl); write = λ h. cc h; sink = p.sink }
    both (Err Memory) p q = record { text = tt; front = inl (p.memory refl); write = λ h. cc h; sink = p.sink }

-- and the log is not touched
pub undrawn_times : {R K : Type 0} (from : SourceOf R) (until : Bool) (s : R) (e : PlanError) (taken : K → Taken) (broken : K → Bool) (a b : K) (answer : Result Status RunError)
    → (from.at_end s ≡ true → IsAtEnd (from.coming s)) → answer ≢ Err Read → Prints taken broken a b answer (λ w. w ≡ refused_plan e) → DrawsTimes from until s s answer
undrawn_times from until s e taken broken a b answer law not_read prints =
    let draws = undrawn from.given from.coming from.broken from.at_end s answer law in
    record {
      went = draws.went;
      to_come = draws.to_come;
      source = λ no_read no_write. refl;
      read = λ text given is. absurd (not_read is);
      ended = by answer (refused_status taken broken a b e answer prints);
    }
  where
    by : (r : Result Status RunError) → IfOk r (λ status. status ≡ Refused) → IfOk r (λ status. (until ≡ true → status ≢ Settled) → status ≢ Refused → from.at_end s ≡ true)
    by (Ok status) is = λ settled other. absurd (other is)
    by (Err f) is = tt
