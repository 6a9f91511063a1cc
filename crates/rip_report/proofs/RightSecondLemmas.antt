-- What the last verdict of a film says.
use Rattle.std.proofs.Common.{◌≡◌, ◌≢◌, ◌∙◌, ◌++◌, [], ◌∷◌, ℕ, suc, Bool, true, false, ◌↔◌, List, None, refl, sym, ap, subst, append_assoc, arith}
use Rattle.rip_log.specs.TimedText.{LineSaid, TimedSaid, untimed}
use Rattle.rip_log.specs.declared.error.LogCode.{LogCode}
use Rattle.rip_plan.specs.Network.{Network}
use Rattle.rip_table.specs.Scenes.{View}
use Rattle.rip_table.specs.Seconds.{EndsShowing, from_first, log_seconds, own_second}
use Rattle.rip_table.specs.State.{State}
use Rattle.rip_table.specs.Window.{shown}
use Rattle.rip_report.specs.AuditText.{VerdictText}
use Rattle.rip_report.specs.WatchText.{AreNotSettled, EndsRight, IsVerdictStatus, SceneText, SettlesRightly, Shots, Watched}
use Rattle.rip_report.specs.Written.{Written}
use Rattle.rip_report.specs.declared.status.Status.{Status}
use Rattle.rip_report.specs.declared.status.Status.TheVariants.{Refused, Settled, Unclear}

-- ---- statuses of seconds

not_settled_at : (front rest : List Status) (s : Status) → AreNotSettled (front ++ s ∷ rest) → s ≢ Settled
not_settled_at [] rest s h = h 0 s (omega arith)
not_settled_at (f ∷ front) rest s h = not_settled_at front rest s (λ k d lt. h (suc k) d (omega (arith, lt)))

-- the status of a second among others
record StatusAt (n : Network) (v : View) (after : List (ℕ × View)) (statuses : List Status) : Type 0 where
  front : List Status
  status : Status
  rest : List Status
  split : statuses ≡ front ++ status ∷ rest
  settles : SettlesRightly n v status
  last : after ≡ [] → rest ≡ []

no_statuses : {n : Network} {last text ended : List ℕ} {seconds : List (ℕ × View)} {ss : List Status} → Shots n last seconds text ended ss → seconds ≡ [] → ss ≡ []
no_statuses (Shots.none last) is = refl
no_statuses (Shots.one last text more ended second v w seconds statuses shot rest) is = absurd (cc is)

no_seconds : {n : Network} {last text ended : List ℕ} {seconds : List (ℕ × View)} {ss : List Status} → Shots n last seconds text ended ss → ss ≡ [] → seconds ≡ []
no_seconds (Shots.none last) is = refl
no_seconds (Shots.one last text more ended second v w seconds statuses shot rest) is = absurd (cc is)

status_at : {n : Network} {last text ended : List ℕ} {seconds : List (ℕ × View)} {ss : List Status} (before after : List (ℕ × View)) (second : ℕ) (v : View) → Shots n last seconds text ended ss
    → seconds ≡ before ++ (second, v) ∷ after → StatusAt n v after ss
status_at [] after second v (Shots.none last) is = absurd (cc is)
status_at (x ∷ before) after second v (Shots.none last) is = absurd (cc is)
status_at {n = n} [] after second v (Shots.one last text more ended s u w seconds statuses shot rest) is =
    let one : ◌≡◌ {A = ℕ × View} (s, u) (second, v) = cc is in
    let others : seconds ≡ after = cc is in
    record {
      front = [];
      status = w.status;
      rest = statuses;
      split = refl;
      settles = subst (λ (x : View). SettlesRightly n x w.status) (ap (λ (x : ℕ × View). x.1) one) shot.settles;
      last = λ none. no_statuses rest (others ∙ none);
    }
status_at (x ∷ before) after second v (Shots.one last text more ended s u w seconds statuses shot rest) is =
    let later : seconds ≡ before ++ (second, v) ∷ after = cc is in
    let found = status_at before after second v rest later in
    record {
      front = w.status ∷ found.front;
      status = found.status;
      rest = found.rest;
      split = ap (λ (ss : List Status). w.status ∷ ss) found.split;
      settles = found.settles;
      last = found.last;
    }

-- the second of the last status
record LastSecond (n : Network) (seconds : List (ℕ × View)) (status : Status) : Type 0 where
  before : List (ℕ × View)
  second : ℕ
  view : View
  split : seconds ≡ before ++ (second, view) ∷ []
  settles : SettlesRightly n view status
  verdict : Written
  says : SceneText n view verdict
  same : verdict.status ≡ status

last_second : {n : Network} {last text ended : List ℕ} {seconds : List (ℕ × View)} {all : List Status} (ss : List Status) (status : Status) → Shots n last seconds text ended all
    → all ≡ ss ++ status ∷ [] → LastSecond n seconds status
last_second [] status (Shots.none last) is = absurd (cc is)
last_second (s ∷ ss) status (Shots.none last) is = absurd (cc is)
last_second {n = n} [] status (Shots.one last text more ended second v w seconds statuses shot rest) is =
    let same : w.status ≡ status = cc is in
    let none : statuses ≡ [] = cc is in
    record {
      before = [];
      second = second;
      view = v;
      split = ap (λ (xs : List (ℕ × View)). (second, v) ∷ xs) (no_seconds rest none);
      settles = subst (SettlesRightly n v) same shot.settles;
      verdict = w;
      says = shot.verdict;
      same = same;
    }
last_second (s ∷ ss) status (Shots.one last text more ended second v w seconds statuses shot rest) is =
    let later : statuses ≡ ss ++ status ∷ [] = cc is in
    let found = last_second ss status rest later in
    record {
      before = (second, v) ∷ found.before;
      second = found.second;
      view = found.view;
      split = ap (λ (xs : List (ℕ × View)). (second, v) ∷ xs) found.split;
      settles = found.settles;
      verdict = found.verdict;
      says = found.says;
      same = found.same;
    }

same_last : {A : Type 0} (xs ys : List A) (a b : A) → xs ++ a ∷ [] ≡ ys ++ b ∷ [] → a ≡ b
same_last [] [] a b h = cc h
same_last [] (y ∷ []) a b h = absurd (cc h)
same_last [] (y ∷ z ∷ ys) a b h = absurd (cc h)
same_last (x ∷ []) [] a b h = absurd (cc h)
same_last (x ∷ z ∷ xs) [] a b h = absurd (cc h)
same_last (x ∷ xs) (y ∷ ys) a b h = let rest : xs ++ a ∷ [] ≡ ys ++ b ∷ [] = cc h in same_last xs ys a b rest

-- ---- the end

never : (before : List (ℕ × View)) (x : ℕ × View) (after : List (ℕ × View)) → [] ≡ before ++ x ∷ after → ⊥
never [] x after h = absurd (cc h)
never (y ∷ before) x after h = absurd (cc h)

no_right : (n : Network) (window : ℕ) (until : Bool) (said : List LineSaid) → log_seconds n window said ≡ [] → EndsRight n window until said → ⊥
no_right n window until said none (before, after, second, v, is, last, right) = never before (second, v) after (sym none ∙ is)

untimed_none : (n : Network) (window : ℕ) (said : List LineSaid) (first : LineSaid) (others : List LineSaid) (code : LogCode) → said ≡ first ∷ others → first.said ≡ untimed code
    → log_seconds n window said ≡ []
untimed_none n window said first others code is none = ap (log_seconds n window) is ∙ ap (λ (t : TimedSaid). from_first n window (own_second t) (first ∷ others)) none

-- in no episode the verdict is that on what is shown
pub verdict_shown : {n : Network} {v : View} {w : Written} → SceneText n v w → v.episode ≡ None → VerdictText n (shown v.window) false w
verdict_shown (SceneText.a_refusal e is) calm = absurd (cc (is, calm))
verdict_shown (SceneText.of_table w calm verdict) is = verdict

module _ {n : Network} {window : ℕ} {until : Bool} {said : List LineSaid} where
  pub ends_right : {w : Written} → Watched n window until said w → (w.status ≡ Settled) ↔ EndsRight n window until said
  ends_right (Watched.no_line none) = (
    λ is. let same : Unclear ≡ Settled = is in absurd (cc same),
    λ right. absurd (no_right n window until said (ap (log_seconds n window) none) right),
  )
  ends_right (Watched.no_time first others code is none) = (
    λ is. let same : Refused ≡ Settled = is in absurd (cc same),
    λ right. absurd (no_right n window until said (untimed_none n window said first others code is none) right),
  )
  ends_right (Watched.to_end text ended statuses status shots none) = by until refl
    where
      by : (b : Bool) → until ≡ b → (status ≡ Settled) ↔ EndsRight n window until said
      by true is = (
        λ settled. absurd (not_settled_at statuses [] status (none is) settled),
        λ right.
            let at = status_at right.0 right.1 right.2 right.3 shots right.4 in
            absurd (not_settled_at at.front at.rest at.status (subst AreNotSettled at.split (none is)) (at.settles.right.1 right.6)),
      )
      by false is = (
        λ settled.
            let last = last_second statuses status shots refl in
            (last.before, [], last.second, last.view, last.split, λ no. refl, last.settles.right.0 settled),
        λ right.
            let at = status_at right.0 right.1 right.2 right.3 shots right.4 in
            let ends : statuses ++ status ∷ [] ≡ at.front ++ at.status ∷ [] = at.split ∙ ap (λ (ss : List Status). at.front ++ at.status ∷ ss) (at.last (right.5 is)) in
            same_last statuses at.front status at.status ends ∙ at.settles.right.1 right.6,
      )
  ends_right (Watched.to_settled text ended before after is split film) = (
    λ settled.
        let last = last_second film.0 Settled film.1 refl in
        let whole : log_seconds n window said ≡ last.before ++ (last.second, last.view) ∷ after =
        split ∙ ap (λ (xs : List (ℕ × View)). xs ++ after) last.split ∙ append_assoc last.before ((last.second, last.view) ∷ []) after in
        (last.before, after, last.second, last.view, whole, λ no. absurd (cc (is, no)), last.settles.right.0 refl),
    λ right. refl,
  )

  -- where a film that goes to the end of a log ends in no episode, its status is that of the verdict on what is shown
  pub ends_verdict : {w : Written} (s : State) → until ≡ false → Watched n window until said w → EndsShowing (log_seconds n window said) s → IsVerdictStatus n s w.status
  ends_verdict s goes_on (Watched.no_line none) ends = absurd (never ends.before (ends.second, ends.view) [] (sym (ap (log_seconds n window) none) ∙ ends.split))
  ends_verdict s goes_on (Watched.no_time first others code is none) ends = absurd (never ends.before (ends.second, ends.view) [] (sym
      (untimed_none n window said first others code is none) ∙ ends.split))
  ends_verdict s goes_on (Watched.to_settled text ended before after is split film) ends = absurd (cc (goes_on, is))
  ends_verdict s goes_on (Watched.to_end text ended statuses status shots none) ends =
      let last = last_second statuses status shots refl in
      let one = same_last last.before ends.before (last.second, last.view) (ends.second, ends.view) (sym last.split ∙ ends.split) in
      let view : last.view ≡ ends.view = ap (λ (x : ℕ × View). x.1) one in
      let verdict = verdict_shown (subst (λ (v : View). SceneText n v last.verdict) view last.says) ends.calm in (
        last.verdict.text,
        subst (λ (t : Status). VerdictText n s false (record { text = last.verdict.text; status = t })) last.same (subst (λ (t : State). VerdictText n t false last.verdict) ends.shows verdict),
      )
