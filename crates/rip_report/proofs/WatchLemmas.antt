-- What the verdict of a second is.
use Rattle.std.proofs.Common.{◌≡◌, ◌≢◌, ◌∙◌, ◌+◌, ◌-◌, ◌≤◌, ◌++◌, min, nat_lt, [], ◌∷◌, ℕ, zero, suc, Bool, true, false, inl, inr, ◌⊎◌, List, Option, Some, None, Result, Ok, Err, IfOk, refl, sym, ap, subst, append_assoc, append-nil, arith}
use Rattle.std.specs.Prelude.{codes, option_map}
use Rattle.std.proofs.lemmas.Bool.{ltb-true, ltb-false}
use Rattle.std.specs.declared.alloc.AllocError.{AllocError}
use Rattle.rip_log.specs.TimedCall.{bad_said, timed_capture}
use Rattle.rip_log.specs.TimedText.{TimedSaid, captured}
use Rattle.rip_log.specs.declared.timed.reader.TimedLine.{TimedLine}
use Rattle.rip_log.specs.declared.timed.reader.TimedLine.TheVariants.{Bad, Record, Skipped}
use Rattle.rip_log.specs.Times.{IsSecondText}
use Rattle.rip_plan.specs.Network.{Network}
use Rattle.rip_table.specs.State.{State}
use Rattle.rip_table.specs.Scenes.{LastsFor, View, after_line, after_said, closed_view, passed_view}
use Rattle.rip_table.specs.Window.{shown}
use Rattle.rip_table.specs.declared.scene.Episode.{Episode}
use Rattle.rip_table.specs.declared.scene.LineRefusal.{LineRefusal}
use Rattle.rip_check.specs.Laws.{ShowsRightTables}
use Rattle.rip_check.specs.Told.{told}
use Rattle.rip_check.specs.Walks.{PacketsArrive}
use Rattle.rip_report.specs.AuditText.{IsJudged, VerdictText}
use Rattle.rip_report.specs.RefusalText.{refusal_line}
use Rattle.rip_table.specs.Seconds.{after_quiet, quiet}
use Rattle.rip_report.specs.Films.{QuietFilm}
use Rattle.rip_report.specs.WatchText.{AreNotSettled, FilmOf, FilmToSettled, IsShot, SceneText, SettlesRightly, Shots}
use Rattle.rip_report.specs.Outs.{Adds, AddsOne, Progress}
use Rattle.rip_report.specs.declared.status.Status.{Status}
use Rattle.rip_report.proofs.OutLemmas.{adds_nothing, adds_one, adds_then}
use Rattle.rip_report.specs.Written.{Written}
use Rattle.rip_report.specs.declared.status.Status.TheVariants.{Refused, Settled}

abbrev first_in : Option Episode → Option LineRefusal
first_in o = option_map (λ (e : Episode). e.first) o

-- the verdict in an episode
pub scene_refused : (n : Network) (v : View) (r : LineRefusal) → first_in v.episode ≡ Some r → SceneText n v (record { text = refusal_line r.line r.cause; status = Refused })
scene_refused n v r h = by v.episode refl h
  where
    by : (o : Option Episode) → v.episode ≡ o → first_in o ≡ Some r → SceneText n v (record { text = refusal_line r.line r.cause; status = Refused })
    by None is h = absurd (cc h)
    by (Some e) is h =
        let same : e.first ≡ r = cc h in
        subst (λ (x : LineRefusal). SceneText n v (record { text = refusal_line x.line x.cause; status = Refused })) same (SceneText.a_refusal e is)

-- and in none
pub no_episode : (v : View) → first_in v.episode ≡ None → v.episode ≡ None
no_episode v h = by v.episode h
  where
    by : (o : Option Episode) → first_in o ≡ None → o ≡ None
    by None h = refl
    by (Some e) h = absurd (cc h)

-- on the table that is shown
pub scene_judged : (n : Network) (v : View) (s : State) → s ≡ shown v.window → v.episode ≡ None → (w : Written) → VerdictText n s false w → SceneText n v w
scene_judged n v s same none w h = SceneText.of_table w none (subst (λ (t : State). VerdictText n t false w) same h)

-- in an episode no second is settled
pub settles_refused : (n : Network) (v : View) (r : LineRefusal) → first_in v.episode ≡ Some r → SettlesRightly n v Refused
settles_refused n v r h = record {
  right = (λ is. let same : Refused ≡ Settled = is in absurd (cc same), λ right. absurd (cc (h, right.0)));
  arrive = λ is. let same : Refused ≡ Settled = is in absurd (cc same);
}

-- and in none it is by the table that is shown
pub settles_judged : (result : Result Status AllocError) (n : Network) (v : View) (s : State) → s ≡ shown v.window → v.episode ≡ None → IfOk result (IsJudged n s) → IfOk result (SettlesRightly n v)
settles_judged (Ok status) n v s same none judged = record {
  right = (
    λ settled. (none, subst (λ (t : State). ShowsRightTables n (told n t)) same (judged.settled.0 settled)),
    λ right. judged.settled.1 (subst (λ (t : State). ShowsRightTables n (told n t)) (sym same) right.1),
  );
  arrive = λ settled. subst (λ (t : State). PacketsArrive n (told n t)) same (judged.arrive settled);
}
settles_judged (Err e) n v s same none judged = tt

-- ---- a second

-- what is printed where the verdict is another than before
pub other_shot : {a b : Progress} {time text last : List ℕ} {status : Status} {second : ℕ} (n : Network) (v : View) → SceneText n v (record { text = text; status = status })
    → SettlesRightly n v status → text ≢ last → IsSecondText second time → Adds a b (((time ++ codes " ") ++ text) ++ [])
    → AddsOne a b (IsShot n second v last (record { text = text; status = status }))
other_shot {time = time} {text = text} n v verdict settles other is adds =
    let whole : ((time ++ codes " ") ++ text) ++ [] ≡ time ++ codes " " ++ text = append-nil ((time ++ codes " ") ++ text) in
    adds_one (record {
      verdict = verdict;
      settles = settles;
      same = λ same. absurd (other same);
      other = λ apart. (time, is, whole);
    }) adds

-- and nothing where it is the same
pub same_shot : {a : Progress} {text last : List ℕ} {status : Status} {second : ℕ} (n : Network) (v : View) → text ≡ last → SceneText n v (record { text = text; status = status })
    → SettlesRightly n v status → AddsOne a a (IsShot n second v last (record { text = last; status = status }))
same_shot {last = last} {status = status} n v same verdict settles = adds_nothing (record {
  settles = settles;
  verdict = subst (λ (t : List ℕ). SceneText n v (record { text = t; status = status })) same verdict;
  same = λ is. refl;
  other = λ apart. absurd (apart refl);
})

-- ---- seconds, one after the other

-- those of two lists
pub shots_then : {n : Network} {a b c t u : List ℕ} {xs ys : List (ℕ × View)} {ss rs : List Status} → Shots n a xs t b ss → Shots n b ys u c rs → Shots n a (xs ++ ys) (t ++ u) c (ss ++ rs)
shots_then (Shots.none last) later = later
shots_then {n = n} {c = c} {u = u} {ys = ys} {rs = rs} (Shots.one last text more ended second v w seconds statuses shot rest) later =
    subst (λ (x : List ℕ). Shots n last ((second, v) ∷ seconds ++ ys) x c (w.status ∷ statuses ++ rs)) (sym (append_assoc text more u))
    (Shots.one last text (more ++ u) c second v w (seconds ++ ys) (statuses ++ rs) shot (shots_then rest later))

-- one second
pub shots_one : {n : Network} {last text : List ℕ} {second : ℕ} {v : View} {w : Written} → IsShot n second v last w text → Shots n last ((second, v) ∷ []) text w.text (w.status ∷ [])
shots_one {n = n} {last = last} {text = text} {second = second} {v = v} {w = w} shot =
    subst (λ (x : List ℕ). Shots n last ((second, v) ∷ []) x w.text (w.status ∷ [])) (append-nil text) (Shots.one last text [] w.text second v w [] [] shot (Shots.none w.text))

-- one more quiet second
quiet_more : (n : Network) (k second : ℕ) (v : View) → quiet n (suc k) second v ≡ quiet n k second v ++ (second + k, closed_view n (after_quiet n k v)) ∷ []
quiet_more n zero second v = let same : second ≡ second + 0 = omega arith in ap (λ (s : ℕ). (s, closed_view n v) ∷ []) same
quiet_more n (suc k) second v =
    let same : second + 1 + k ≡ second + suc k = omega arith in
    ap (λ (rest : List (ℕ × View)). (second, closed_view n v) ∷ rest)
    (quiet_more n k (second + 1) (passed_view (closed_view n v))
    ∙ ap (λ (s : ℕ). quiet n k (second + 1) (passed_view (closed_view n v)) ++ (s, closed_view n (after_quiet n k (passed_view (closed_view n v)))) ∷ []) same)

pub after_more : (n : Network) (k : ℕ) (v : View) → after_quiet n (suc k) v ≡ passed_view (closed_view n (after_quiet n k v))
after_more n zero v = refl
after_more n (suc k) v = after_more n k (passed_view (closed_view n v))

pub not_settled : (ss : List Status) (s : Status) → AreNotSettled ss → s ≢ Settled → AreNotSettled (ss ++ s ∷ [])
not_settled [] s h other zero d lt = other
not_settled [] s h other (suc k) d lt = absurd (omega (arith, lt))
not_settled (r ∷ ss) s h other zero d lt = h zero d (omega arith)
not_settled (r ∷ ss) s h other (suc k) d lt = not_settled ss s (λ j e below. h (suc j) e (omega (arith, below))) other k d (omega (arith, lt))

-- a film with one more second, which is not settled or does not end it
pub film_more : {n : Network} {until : Bool} {last mid text more : List ℕ} (second k : ℕ) (v : View) {w : Written} → FilmOf n until last (quiet n k second v) mid text
    → IsShot n (second + k) (closed_view n (after_quiet n k v)) mid w more → (until ≡ true → w.status ≢ Settled) → FilmOf n until last (quiet n (suc k) second v) w.text (text ++ more)
film_more {n = n} {last = last} {text = text} {more = more} second k v {w = w} film shot other = (
  film.0 ++ w.status ∷ [],
  subst (λ (xs : List (ℕ × View)). Shots n last xs (text ++ more) w.text (film.0 ++ w.status ∷ [])) (sym (quiet_more n k second v)) (shots_then film.1 (shots_one shot)),
  λ is. not_settled film.0 w.status (film.2 is) (other is),
)

-- or which is, and ends it
pub film_settled : {n : Network} {until : Bool} {last mid text more : List ℕ} (second k : ℕ) (v : View) {w : Written} → FilmOf n until last (quiet n k second v) mid text → until ≡ true
    → IsShot n (second + k) (closed_view n (after_quiet n k v)) mid w more → w.status ≡ Settled → FilmToSettled n last (quiet n (suc k) second v) w.text (text ++ more)
film_settled {n = n} {last = last} {text = text} {more = more} second k v {w = w} film is shot settled = (
  film.0,
  subst (λ (xs : List (ℕ × View)). Shots n last xs (text ++ more) w.text (film.0 ++ Settled ∷ [])) (sym (quiet_more n k second v))
      (subst (λ (s : Status). Shots n last (quiet n k second v ++ (second + k, closed_view n (after_quiet n k v)) ∷ []) (text ++ more) w.text (film.0 ++ s ∷ [])) settled (shots_then film.1
      (shots_one shot))),
  film.2 is,
)

pub film_none : (n : Network) (until : Bool) (last : List ℕ) → FilmOf n until last [] last []
film_none n until last = ([], Shots.none last, λ is k d lt. absurd (omega (arith, lt)))

-- what was added, and then more
pub added_then : {a b c : Progress} {IsText IsMore IsBoth : List ℕ → Type 0} → ((text more : List ℕ) → IsText text → IsMore more → IsBoth (text ++ more)) → AddsOne a b IsText → AddsOne b c IsMore
    → AddsOne a c IsBoth
added_then both first later = adds_one (both first.text later.text first.is_text later.is_text) (adds_then first.adds later.adds)

-- ---- seconds in which nothing is left

pub after_less : (n : Network) (j k : ℕ) (v : View) → after_quiet n (j + k) v ≡ after_quiet n k (after_quiet n j v)
after_less n zero k v = let same : 0 + k ≡ k = omega arith in ap (λ (m : ℕ). after_quiet n m v) same
after_less n (suc j) k v =
    let same : suc j + k ≡ suc (j + k) = omega arith in
    ap (λ (m : ℕ). after_quiet n m v) same ∙ after_less n j k (passed_view (closed_view n v))

pub quiet_less : (n : Network) (j k second : ℕ) (v : View) → quiet n (j + k) second v ≡ quiet n j second v ++ quiet n k (second + j) (after_quiet n j v)
quiet_less n zero k second v =
    let same : 0 + k ≡ k = omega arith in
    let here : second ≡ second + 0 = omega arith in
    ap (λ (m : ℕ). quiet n m second v) same ∙ ap (λ (s : ℕ). quiet n k s v) here
quiet_less n (suc j) k second v =
    let same : suc j + k ≡ suc (j + k) = omega arith in
    let here : second + 1 + j ≡ second + suc j = omega arith in
    ap (λ (m : ℕ). quiet n m second v) same
    ∙ ap (λ (rest : List (ℕ × View)). (second, closed_view n v) ∷ rest)
    (quiet_less n j k (second + 1) (passed_view (closed_view n v))
    ∙ ap (λ (s : ℕ). quiet n j (second + 1) (passed_view (closed_view n v)) ++ quiet n k s (after_quiet n j (passed_view (closed_view n v)))) here)

-- what is as it will be a second later, and at its end
record IsStill (n : Network) (v : View) : Type 0 where
  passes : passed_view v ≡ v
  closes : closed_view n v ≡ v

still_after : (n : Network) (k : ℕ) (v : View) → IsStill n v → after_quiet n k v ≡ v
still_after n zero v still = refl
still_after n (suc k) v still = ap (λ (u : View). after_quiet n k (passed_view u)) still.closes ∙ ap (after_quiet n k) still.passes ∙ still_after n k v still

-- where the verdict is that of the second before, nothing is printed for however many seconds
still_shots : (n : Network) (k second : ℕ) (v : View) (w : Written) → IsStill n v → SceneText n v w → SettlesRightly n v w.status
    → (statuses : List Status) × Shots n w.text (quiet n k second v) [] w.text statuses × (w.status ≢ Settled → AreNotSettled statuses)
still_shots n zero second v w still verdict settles = ([], Shots.none w.text, λ other k d lt. absurd (omega (arith, lt)))
still_shots n (suc k) second v w still verdict settles =
    let rest = still_shots n k (second + 1) v w still verdict settles in
    let shot : IsShot n second (closed_view n v) w.text w [] = record {
      verdict = subst (λ (u : View). SceneText n u w) (sym still.closes) verdict;
      settles = subst (λ (u : View). SettlesRightly n u w.status) (sym still.closes) settles;
      same = λ is. refl;
      other = λ apart. absurd (apart refl);
    } in
    let later : quiet n k (second + 1) v ≡ quiet n k (second + 1) (passed_view (closed_view n v)) = ap (quiet n k (second + 1)) (sym (ap passed_view still.closes ∙ still.passes)) in (
      w.status ∷ rest.0,
      Shots.one w.text [] [] w.text second (closed_view n v) w (quiet n k (second + 1) (passed_view (closed_view n v))) rest.0 shot
          (subst (λ (xs : List (ℕ × View)). Shots n w.text xs [] w.text rest.0) later rest.1),
      λ other. not_settled_first w.status rest.0 other (rest.2 other),
    )
  where
    not_settled_first : (s : Status) (ss : List Status) → s ≢ Settled → AreNotSettled ss → AreNotSettled (s ∷ ss)
    not_settled_first s ss other h zero d lt = other
    not_settled_first s ss other h (suc j) d lt = h j d (omega (arith, lt))

-- the verdict of the last of some seconds
record LastShot (n : Network) (v : View) (ended : List ℕ) (statuses : List Status) : Type 0 where
  verdict : Written
  says : SceneText n v verdict
  settles : SettlesRightly n v verdict.status
  ends : verdict.text ≡ ended
  status : AreNotSettled statuses → verdict.status ≢ Settled

pub no_rest : {n : Network} {last more ended : List ℕ} {ys : List (ℕ × View)} {ss : List Status} → Shots n last ys more ended ss → ys ≡ [] → last ≡ ended
no_rest (Shots.none last) is = refl
no_rest (Shots.one last text more ended second v w seconds statuses shot rest) is = absurd (cc is)

last_shot : {n : Network} {last text ended : List ℕ} {ys : List (ℕ × View)} {ss : List Status} (xs : List (ℕ × View)) (second : ℕ) (v : View) → Shots n last ys text ended ss
    → ys ≡ xs ++ (second, v) ∷ [] → LastShot n v ended ss
last_shot [] second v (Shots.none last) is = absurd (cc is)
last_shot (x ∷ xs) second v (Shots.none last) is = absurd (cc is)
last_shot {n = n} [] second v (Shots.one last text more ended s u w seconds statuses shot rest) is =
    let one : ◌≡◌ {A = ℕ × View} (s, u) (second, v) = cc is in
    let none : seconds ≡ [] = cc is in
    record {
      verdict = w;
      says = subst (λ (x : View). SceneText n x w) (ap (λ (x : ℕ × View). x.1) one) shot.verdict;
      settles = subst (λ (x : View). SettlesRightly n x w.status) (ap (λ (x : ℕ × View). x.1) one) shot.settles;
      ends = no_rest rest none;
      status = λ h. h 0 w.status (omega arith);
    }
last_shot {n = n} (x ∷ xs) second v (Shots.one last text more ended s u w seconds statuses shot rest) is =
    let later : seconds ≡ xs ++ (second, v) ∷ [] = cc is in
    let found = last_shot xs second v rest later in
    record {
      verdict = found.verdict;
      says = found.says;
      settles = found.settles;
      ends = found.ends;
      status = λ h. found.status (λ k d lt. h (suc k) d (omega (arith, lt)));
    }

lasts_after : (passed : (seconds : ℕ) (v : View) → LastsFor (seconds + 1) v → LastsFor seconds (passed_view v))
    (closed : (n : Network) (seconds : ℕ) (v : View) → LastsFor seconds v → LastsFor seconds (closed_view n v))
    (n : Network) (k : ℕ) (v : View) → LastsFor k v → LastsFor 0 (after_quiet n k v)
lasts_after passed closed n zero v h = h
lasts_after passed closed n (suc k) v h =
    let next : suc k ≡ k + 1 = omega arith in
    lasts_after passed closed n k (passed_view (closed_view n v)) (passed k (closed_view n v) (subst (λ (m : ℕ). LastsFor m (closed_view n v)) next (closed n (suc k) v h)))

pub both_not : (ss rs : List Status) → AreNotSettled ss → AreNotSettled rs → AreNotSettled (ss ++ rs)
both_not [] rs a b k d lt = b k d lt
both_not (s ∷ ss) rs a b zero d lt = a zero d (omega arith)
both_not (s ∷ ss) rs a b (suc k) d lt = both_not ss rs (λ j e below. a (suc j) e (omega (arith, below))) b k d (omega (arith, lt))

-- what is printed for one window and a second more is printed for however many seconds
module _ (passed : (seconds : ℕ) (v : View) → LastsFor (seconds + 1) v → LastsFor seconds (passed_view v))
    (closed : (n : Network) (seconds : ℕ) (v : View) → LastsFor seconds v → LastsFor seconds (closed_view n v))
    (over : (v : View) → LastsFor 0 v → passed_view v ≡ v)
    (once : (n : Network) (v : View) → closed_view n (closed_view n v) ≡ closed_view n v)
    (n : Network) (window second : ℕ) (v : View) (h : LastsFor window v) where
  abbrev left : View
  left = closed_view n (after_quiet n window v)

  still : IsStill n left
  still = record {
    passes = over left (closed n 0 (after_quiet n window v) (lasts_after passed closed n window v h));
    closes = once n (after_quiet n window v);
  }

  after_window : after_quiet n (suc window) v ≡ left
  after_window = after_more n window v ∙ still.passes

  pub skip_after : (rest : ℕ) → after_quiet n (suc window) v ≡ after_quiet n (suc window + rest) v
  skip_after rest = sym (after_less n (suc window) rest v ∙ ap (after_quiet n rest) after_window ∙ still_after n rest left still ∙ sym after_window)

  pub skip_film : (until : Bool) (last ended text : List ℕ) (rest : ℕ) → FilmOf n until last (quiet n (suc window) second v) ended text
      → FilmOf n until last (quiet n (suc window + rest) second v) ended text
  skip_film until last ended text rest film =
      let shot = last_shot (quiet n window second v) (second + window) left film.1 (quiet_more n window second v) in
      let more = still_shots n rest (second + suc window) left shot.verdict still shot.says shot.settles in
      let later : Shots n ended (quiet n rest (second + suc window) (after_quiet n (suc window) v)) [] ended more.0 =
      subst (λ (u : View). Shots n ended (quiet n rest (second + suc window) u) [] ended more.0) (sym after_window)
      (subst (λ (t : List ℕ). Shots n t (quiet n rest (second + suc window) left) [] t more.0) shot.ends more.1) in (
        film.0 ++ more.0,
        subst (λ (t : List ℕ). Shots n last (quiet n (suc window + rest) second v) t ended (film.0 ++ more.0)) (append-nil text)
            (subst (λ (xs : List (ℕ × View)). Shots n last xs (text ++ []) ended (film.0 ++ more.0)) (sym (quiet_less n (suc window) rest second v)) (shots_then film.1 later)),
        λ is. both_not film.0 more.0 (film.2 is) (more.2 (shot.status (film.2 is))),
      )

  -- so many seconds are judged, and what is printed is that of all
  module _ (count judged : ℕ) (which : (judged ≡ count) ⊎ ((rest : ℕ) × (judged ≡ suc window) × (count ≡ suc window + rest))) where
    pub judged_after : after_quiet n judged v ≡ after_quiet n count v
    judged_after = elim which [
      | inl same ↦ ap (λ (m : ℕ). after_quiet n m v) same
      | inr more ↦ ap (λ (m : ℕ). after_quiet n m v) more.1 ∙ skip_after more.0 ∙ sym (ap (λ (m : ℕ). after_quiet n m v) more.2)
    ]

    pub judged_film : (until : Bool) (last ended text : List ℕ) → FilmOf n until last (quiet n judged second v) ended text → FilmOf n until last (quiet n count second v) ended text
    judged_film until last ended text film = elim which [
      | inl same ↦ subst (λ (m : ℕ). FilmOf n until last (quiet n m second v) ended text) same film
      | inr more ↦ subst (λ (m : ℕ). FilmOf n until last (quiet n m second v) ended text) (sym more.2)
          (skip_film until last ended text more.0 (subst (λ (m : ℕ). FilmOf n until last (quiet n m second v) ended text) more.1 film))
    ]

-- a film that no settled second ended
pub quiet_film : {n : Network} {until : Bool} {last ended text : List ℕ} (second judged count : ℕ) (v : View) (settled : Bool) → settled ≡ false
    → (FilmOf n until last (quiet n judged second v) ended text → FilmOf n until last (quiet n count second v) ended text)
    → QuietFilm n until last second v judged settled ended text → QuietFilm n until last second v count settled ended text
quiet_film second judged count v false is all film = all film
quiet_film second judged count v true is all film = absurd (cc is)

-- all seconds are judged, or those of one window and one more
pub which_judged : (window count judged : ℕ) → judged ≡ min count (window + 1) → (judged ≡ count) ⊎ ((rest : ℕ) × (judged ≡ suc window) × (count ≡ suc window + rest))
which_judged window count judged h = by (nat_lt (window + 1) count) refl
  where
    by : (b : Bool) → nat_lt (window + 1) count ≡ b → (judged ≡ count) ⊎ ((rest : ℕ) × (judged ≡ suc window) × (count ≡ suc window + rest))
    by true t = let more = ltb-true (window + 1) count t in inr (count - suc window, omega (arith, h, more), omega (arith, more))
    by false t = let few = ltb-false (window + 1) count t in inl (omega (arith, h, few))

-- ---- a line

module _ (said : (n : Network) (seconds line : ℕ) (said : TimedSaid) (v : View) → 1 ≤ seconds → LastsFor seconds v → LastsFor seconds (after_said n seconds line said v))
    (passed : (seconds : ℕ) (v : View) → LastsFor (seconds + 1) v → LastsFor seconds (passed_view v))
    (closed : (n : Network) (seconds : ℕ) (v : View) → LastsFor seconds v → LastsFor seconds (closed_view n v))
    (n : Network) (window : ℕ) (some : 1 ≤ window) where
  passed_still : (v : View) → LastsFor window v → LastsFor window (passed_view v)
  passed_still v h =
      let next : window ≡ window - 1 + 1 = omega (arith, some) in
      let less = passed (window - 1) v (subst (λ (m : ℕ). LastsFor m v) next h) in
      record {
        words = λ i p x is. let both = less.words i p x is in (both.0, omega (arith, both.1));
        heard = λ i. let most = less.heard i in omega (arith, most);
        episode = λ e is. let both = less.episode e is in (both.0, omega (arith, both.1));
      }

  quiet_lasts : (k : ℕ) (v : View) → LastsFor window v → LastsFor window (after_quiet n k v)
  quiet_lasts zero v h = h
  quiet_lasts (suc k) v h = quiet_lasts k (passed_view (closed_view n v)) (passed_still (closed_view n v) (closed n window v h))

  -- nothing lasts for longer behind a line
  pub line_lasts : (line : TimedLine) (k : ℕ) (v : View) → LastsFor window v → LastsFor window (after_line n window line (after_quiet n k v))
  line_lasts Skipped k v h = quiet_lasts k v h
  line_lasts (Record r) k v h = said n window r.line (captured r.micros (timed_capture r)) (after_quiet n k v) some (quiet_lasts k v h)
  line_lasts (Bad fault) k v h = said n window fault.line (bad_said fault.micros fault.code) (after_quiet n k v) some (quiet_lasts k v h)
