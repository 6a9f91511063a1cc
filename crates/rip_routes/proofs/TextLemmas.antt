-- What a text tells in words is what is computed of it.
use Rattle.std.proofs.Common.{◌≡◌, ◌⊎◌, ◌<◌, ◌≤◌, ◌+◌, ℕ, Bool, true, false, not, List, [], ◌∷◌, ◌++◌, length, Option, Some, None, Result, Ok, Err, cond, arith, refl, sym, subst, ◌∙◌, ap, inl, inr, append_assoc, append-nil, ◌==◌, eqb-true}
use Rattle.std.specs.Prelude.{nat_le, slice_get}
use Rattle.std.proofs.lemmas.Bool.{and_from, and_parts, false_from_ne_true}
use Rattle.rip_wire.specs.Prefix.{Block}
use Rattle.rip_plan.specs.Network.{Network}
use Rattle.rip_plan.specs.Relations.{IsLawful}
use Rattle.rip_plan.proofs.ItemLemmas.{get_left, get_past}
use Rattle.rip_log.specs.Lines.{lines_of}
use Rattle.rip_log.specs.LogText.{AreLines}
use Rattle.rip_log.proofs.LineRelations.{AreLines-lines_of, lines_of-AreLines, not-eq}
use Rattle.rip_table.specs.State.{is_among}
use Rattle.rip_routes.specs.declared.error.RoutesCause.{RoutesCause}
use Rattle.rip_routes.specs.declared.error.RoutesCause.TheVariants as causes
use Rattle.rip_routes.specs.declared.error.RoutesError.{RoutesError}
use Rattle.rip_routes.specs.declared.told.Told.{Told}
use Rattle.rip_routes.specs.OwnTables.{OwnRoute, OwnTables}
use Rattle.rip_routes.specs.RouteLines.{line_said}
use Rattle.rip_routes.specs.RouteText.{AreAccepted, AreTold, IsFault, IsOfPlace, IsRefused, LineSays, MakePlace, MakeTables, RefusesText, TellTables, bad, refused, too_many}
use Rattle.rip_routes.specs.RouteText.IsRefused.{change, too_many_prefixes}
use Rattle.rip_routes.specs.Telling.{is_full, new_tables, tell, tell_at, tell_line, tell_lines, tell_said, tell_text, then_tell, with_told}
use Rattle.rip_routes.proofs.LinesLemmas.{next_line, tells_on}
use Rattle.rip_routes.proofs.MakeLemmas.{among_at, at_among, made_more, new_made, one_made}
use Rattle.rip_routes.proofs.OwnLemmas.{told_cases}
use Rattle.rip_routes.proofs.SayLemmas.{TextLaws, line_is_said, line_says_by, tells_said}

-- ---- refused routes

-- a prefix of which something is told is in the list
listed_at : (n : Network) (tolds : List Told) (t : OwnTables) → MakeTables n tolds t → (r : ℕ) (p : Block) (k : ℕ) (told : Told) → IsOfPlace tolds r p k told → (j : ℕ) × (slice_get t.prefixes j ≡ Some p)
listed_at n tolds t h r p k told (at, router, prefix) = by (is_among p n.prefixes) refl
  where
    by : (b : Bool) → is_among p n.prefixes ≡ b → (j : ℕ) × (slice_get t.prefixes j ≡ Some p)
    by true e = let (j, there) = among_at p n.prefixes e in (j, ap (λ ps. slice_get ps j) h.prefixes ∙ get_left n.prefixes h.others j p there)
    by false e =
        let (j, there) = (h.firsts.all p).1 (k, (told, at, prefix, λ i planned. let clash = sym e ∙ at_among p n.prefixes i planned in cc clash)) in (
          length n.prefixes + j,
          ap (λ ps. slice_get ps (length n.prefixes + j)) h.prefixes ∙ get_past n.prefixes h.others j (length n.prefixes + j) (omega arith) ∙ there,
        )

refused_of : (t : OwnTables) (told : Told) (cause : RoutesCause) → tell t told ≡ Err cause → IsRefused t told cause
refused_of t told cause h = by (t.routes told.router told.prefix) refl h
  where
    changed : (route : OwnRoute) → t.routes told.router told.prefix ≡ Some route → (b : Bool) → (route.metric == told.metric) ≡ b
        → cond b (Ok (with_told t told)) (Err (causes.Changed told.prefix route.metric told.metric)) ≡ Err cause → IsRefused t told cause
    changed route stands true e k = absurd (cc k)
    changed route stands false e k =
        let is : causes.Changed told.prefix route.metric told.metric ≡ cause = cc k in
        subst (IsRefused t told) is (change told.prefix route.metric told.metric (record { place = refl; route = route; stands = stands; stood = refl; told_now = refl; differ = not-eq route.metric told.metric e }))

    full : (b : Bool) → is_full t told.prefix ≡ b → cond b (Err causes.TooManyPrefixes) (Ok (with_told t told)) ≡ Err cause → IsRefused t told cause
    full false e k = absurd (cc k)
    full true e k =
        let is : causes.TooManyPrefixes ≡ cause = cc k in
        let (most, new) = and_parts (nat_le 2048 (length t.prefixes)) (not (is_among told.prefix t.prefixes)) e in
        subst (IsRefused t told) is (too_many_prefixes (record { absent = λ j at. let clash = sym new ∙ ap not (at_among told.prefix t.prefixes j at) in cc clash; full = grind (arith, most) }))

    by : (o : Option OwnRoute) → t.routes told.router told.prefix ≡ o → tell_at t told o ≡ Err cause → IsRefused t told cause
    by (Some route) stands k = changed route stands (route.metric == told.metric) refl k
    by None stands k = full (is_full t told.prefix) refl k

refused_at : (n : Network) (tolds : List Told) (t : OwnTables) (told : Told) (cause : RoutesCause) → MakeTables n tolds t → IsRefused t told cause → tell t told ≡ Err cause
refused_at n tolds t told cause made (change p old new h) =
    ap (tell_at t told) h.stands
    ∙ ap (λ b. cond b (Ok (with_told t told)) (Err (causes.Changed told.prefix h.route.metric told.metric)))
    (false_from_ne_true (h.route.metric == told.metric) (λ e. h.differ (eqb-true h.route.metric told.metric e)))
    ∙ ap (λ (q : Block). Err (causes.Changed q h.route.metric told.metric)) (sym h.place)
    ∙ ap (λ (m : ℕ). Err (causes.Changed p m told.metric)) (sym h.stood)
    ∙ ap (λ (m : ℕ). Err (causes.Changed p old m)) (sym h.told_now)
refused_at n tolds t told cause made (too_many_prefixes h) = by (t.routes told.router told.prefix) refl (made.routes told.router told.prefix)
  where
    full : is_full t told.prefix ≡ true
    full =
        let new = false_from_ne_true (is_among told.prefix t.prefixes) (λ e. let (j, at) = among_at told.prefix t.prefixes e in h.absent j at) in
        let most : nat_le 2048 (length t.prefixes) ≡ true = grind (arith, h.full) in
        and_from (nat_le 2048 (length t.prefixes)) (not (is_among told.prefix t.prefixes)) most (ap not new)

    by : (o : Option OwnRoute) → t.routes told.router told.prefix ≡ o → MakePlace tolds told.router told.prefix o → tell t told ≡ Err causes.TooManyPrefixes
    by None e place = ap (tell_at t told) e ∙ ap (λ b. cond b (Err causes.TooManyPrefixes) (Ok (with_told t told))) full
    by (Some route) e place =
        let (k, some, is) = place.some in let (j, at) = listed_at n tolds t made told.router told.prefix k some is in absurd (h.absent j at)

-- ---- routes that are not refused

told_is : (t : OwnTables) (told : Told) (o : Option OwnRoute) (u : OwnTables) → tell_at t told o ≡ Ok u → with_told t told ≡ u
told_is t told None u h = by (is_full t told.prefix) h
  where
    by : (b : Bool) → cond b (Err causes.TooManyPrefixes) (Ok (with_told t told)) ≡ Ok u → with_told t told ≡ u
    by true e = absurd (cc e)
    by false e = cc e
told_is t told (Some route) u h = by (route.metric == told.metric) h
  where
    by : (b : Bool) → cond b (Ok (with_told t told)) (Err (causes.Changed told.prefix route.metric told.metric)) ≡ Ok u → with_told t told ≡ u
    by true e = cc e
    by false e = absurd (cc e)

tell_made : (n : Network) (tolds : List Told) (told : Told) (t u : OwnTables) → MakeTables n tolds t → tell t told ≡ Ok u → MakeTables n (tolds ++ told ∷ []) u
tell_made n tolds told t u made h =
    subst (MakeTables n (tolds ++ told ∷ [])) (told_is t told (t.routes told.router told.prefix) u h) (made_more n tolds told t made (told_cases t told (t.routes told.router told.prefix) u h).0)

-- the last item, or an earlier one
snoc_split : {A : Type 0} (xs front rest : List A) (z x : A) → xs ++ z ∷ [] ≡ front ++ x ∷ rest → ((xs ≡ front) × (z ≡ x)) ⊎ ((more : List A) × (xs ≡ front ++ x ∷ more))
snoc_split [] [] rest z x h = inl (refl, cc h)
snoc_split {A} [] (y ∷ front) rest z x h = absurd (none front (tail h))
  where
    tail : ◌≡◌ {A = List A} (z ∷ []) (y ∷ (front ++ x ∷ rest)) → [] ≡ front ++ x ∷ rest
    tail e = cc e

    none : (front : List A) → [] ≡ front ++ x ∷ rest → ⊥
    none [] e = cc e
    none (w ∷ front) e = cc e
snoc_split (y ∷ xs) [] rest z x h = let same : y ≡ x = cc h in inr (xs, ap (λ w. w ∷ xs) same)
snoc_split {A} (y ∷ xs) (w ∷ front) rest z x h =
    let same : y ≡ w = cc h in
    elim (snoc_split xs front rest z x (tail h)) [
      | inl e ↦ inl (ap (λ l. y ∷ l) e.0 ∙ ap (λ v. v ∷ front) same, e.1)
      | inr e ↦ inr (e.0, ap (λ l. y ∷ l) e.1 ∙ ap (λ v. v ∷ (front ++ x ∷ e.0)) same)
    ]
  where
    tail : ◌≡◌ {A = List A} (y ∷ (xs ++ z ∷ [])) (w ∷ (front ++ x ∷ rest)) → xs ++ z ∷ [] ≡ front ++ x ∷ rest
    tail e = cc e

accepted_more : (n : Network) (tolds : List Told) (told : Told) (t u : OwnTables) → MakeTables n tolds t → AreAccepted n tolds → tell t told ≡ Ok u → AreAccepted n (tolds ++ told ∷ [])
accepted_more n tolds told t u made accepted h front rest x s cause split there is =
    elim (snoc_split tolds front rest told x split) [
      | inl e ↦
          let same = one_made n tolds t s made (subst (λ l. MakeTables n l s) (sym e.0) there) in
          let again : IsRefused t told cause = subst (λ (w : OwnTables). IsRefused w told cause) (sym same) (subst (λ (y : Told). IsRefused s y cause) (sym e.1) is) in
          let clash : ◌≡◌ {A = Result OwnTables RoutesCause} (Ok u) (Err cause) = sym h ∙ refused_at n tolds t told cause made again in
          cc clash
      | inr e ↦ accepted front e.0 x s cause e.1 there is
    ]

-- of a front that is accepted
accepted_none : (n : Network) → AreAccepted n []
accepted_none n [] rest x s cause split there is = absurd (cc split)
accepted_none n (y ∷ front) rest x s cause split there is = absurd (cc split)

-- ---- lines

module _ (laws : TextLaws) (n : Network) (lawful : IsLawful n) where
  said_tells : (t : OwnTables) (line : List ℕ) (x : Result (Option Told) RoutesCause) → LineSays n line x → tell_line n t line ≡ tell_said t x
  said_tells t line x says = tells_said n t line ∙ ap (tell_said t) (line_is_said laws n lawful line x says)

  -- lines that tell routes which are accepted
  abbrev AllTold : ℕ → List (List ℕ) → List Told → OwnTables → Type 0
  AllTold k lines all t = (u : OwnTables) × (tell_lines n k lines t ≡ Ok u) × MakeTables n all u

  room : (k : ℕ) (line : List ℕ) (lines : List (List ℕ)) → k + length (line ∷ lines) ≤ 1000000 → k < 1000000
  room k line lines few = omega (arith, few)

  later : (k : ℕ) (line : List ℕ) (lines : List (List ℕ)) → k + length (line ∷ lines) ≤ 1000000 → k + 1 + length lines ≤ 1000000
  later k line lines few = omega (arith, few)

  all_told : (lines : List (List ℕ)) (k : ℕ) (tolds more : List Told) (t : OwnTables) → k + length lines ≤ 1000000 → MakeTables n tolds t → AreAccepted n (tolds ++ more) → AreTold n lines more
      → AllTold k lines (tolds ++ more) t
  all_told [] k tolds more t few made accepted are = (t, refl, subst (λ l. MakeTables n l t) (sym (append-nil tolds) ∙ ap (λ l. tolds ++ l) (sym are)) made)
  all_told (line ∷ lines) k tolds [] t few made accepted are =
      let (u, tells, all) = all_told lines (k + 1) tolds [] t (later k line lines few) made accepted are.1 in
      (u, next_line n k line lines t (Ok t) (room k line lines few) (said_tells t line (Ok None) are.0) ∙ tells, all)
  all_told (line ∷ lines) k tolds (told ∷ more) t few made accepted (inl are) =
      let (u, tells, all) = all_told lines (k + 1) tolds (told ∷ more) t (later k line lines few) made accepted are.1 in
      (u, next_line n k line lines t (Ok t) (room k line lines few) (said_tells t line (Ok None) are.0) ∙ tells, all)
  all_told (line ∷ lines) k tolds (told ∷ more) t few made accepted (inr are) =
      by (tell t told) refl (λ v made. all_told lines (k + 1) (tolds ++ told ∷ []) more v (later k line lines few) made (subst (AreAccepted n) (sym (append_assoc tolds (told ∷ []) more)) accepted) are.1)
    where
      by : (r : Result OwnTables RoutesCause) → tell t told ≡ r → ((v : OwnTables) → MakeTables n (tolds ++ told ∷ []) v → AllTold (k + 1) lines ((tolds ++ told ∷ []) ++ more) v)
          → AllTold k (line ∷ lines) (tolds ++ told ∷ more) t
      by (Err cause) e go = absurd (accepted tolds more told t cause refl made (refused_of t told cause e))
      by (Ok v) e go =
          let (u, tells, all) = go v (tell_made n tolds told t v made e) in (
            u,
            next_line n k line lines t (Ok v) (room k line lines few) (said_tells t line (Ok (Some told)) are.0 ∙ e) ∙ tells,
            subst (λ l. MakeTables n l u) (append_assoc tolds (told ∷ []) more) all,
          )

  -- what lines come to
  record AllGood (k : ℕ) (lines : List (List ℕ)) (tolds : List Told) (u : OwnTables) : Type 0 where
    more : List Told
    are : AreTold n lines more
    accepted : AreAccepted n (tolds ++ more)
    made : MakeTables n (tolds ++ more) u
    few : k + length lines ≤ 1000000

  record OneBad (k : ℕ) (lines : List (List ℕ)) (tolds : List Told) (e : RoutesError) : Type 0 where
    before : List (List ℕ)
    line : List ℕ
    after : List (List ℕ)
    split : lines ≡ before ++ line ∷ after
    number : e.line ≡ k + length before + 1
    more : List Told
    are : AreTold n before more
    accepted : AreAccepted n (tolds ++ more)
    fault : IsFault n (k + length before) (tolds ++ more) line e.cause

  abbrev ComeTo : ℕ → List (List ℕ) → List Told → Result OwnTables RoutesError → Type 0
  ComeTo k lines tolds (Ok u) = AllGood k lines tolds u
  ComeTo k lines tolds (Err e) = OneBad k lines tolds e

  silent_front : (line : List ℕ) (lines : List (List ℕ)) (more : List Told) → LineSays n line (Ok None) → AreTold n lines more → AreTold n (line ∷ lines) more
  silent_front line lines [] says are = (says, are)
  silent_front line lines (told ∷ more) says are = inl (says, are)

  moved : (i j : ℕ) (tolds : List Told) (line : List ℕ) (cause : RoutesCause) → i ≡ j → IsFault n i tolds line cause → IsFault n j tolds line cause
  moved i j tolds line cause e h = subst (λ (k : ℕ). IsFault n k tolds line cause) e h

  after_silent : (k : ℕ) (line : List ℕ) (lines : List (List ℕ)) (tolds : List Told) (r : Result OwnTables RoutesError) → LineSays n line (Ok None) → ComeTo (k + 1) lines tolds r → ComeTo k (line ∷ lines) tolds r
  after_silent k line lines tolds (Ok u) says h = record { more = h.more; are = silent_front line lines h.more says h.are; accepted = h.accepted; made = h.made; few = omega (arith, h.few) }
  after_silent k line lines tolds (Err e) says h = record {
    before = line ∷ h.before;
    line = h.line;
    after = h.after;
    split = ap (λ (l : List (List ℕ)). line ∷ l) h.split;
    number = h.number ∙ omega arith;
    more = h.more;
    are = silent_front line h.before h.more says h.are;
    accepted = h.accepted;
    fault = moved _ _ (tolds ++ h.more) h.line e.cause (omega arith) h.fault;
  }

  after_told : (k : ℕ) (line : List ℕ) (lines : List (List ℕ)) (tolds : List Told) (told : Told) (r : Result OwnTables RoutesError) → LineSays n line (Ok (Some told))
      → ComeTo (k + 1) lines (tolds ++ told ∷ []) r → ComeTo k (line ∷ lines) tolds r
  after_told k line lines tolds told (Ok u) says h = record {
    more = told ∷ h.more;
    are = inr (says, h.are);
    accepted = subst (AreAccepted n) (append_assoc tolds (told ∷ []) h.more) h.accepted;
    made = subst (λ l. MakeTables n l u) (append_assoc tolds (told ∷ []) h.more) h.made;
    few = omega (arith, h.few);
  }
  after_told k line lines tolds told (Err e) says h = record {
    before = line ∷ h.before;
    line = h.line;
    after = h.after;
    split = ap (λ (l : List (List ℕ)). line ∷ l) h.split;
    number = h.number ∙ omega arith;
    more = told ∷ h.more;
    are = inr (says, h.are);
    accepted = subst (AreAccepted n) (append_assoc tolds (told ∷ []) h.more) h.accepted;
    fault = subst (λ l. IsFault n (k + length (line ∷ h.before)) l h.line e.cause) (append_assoc tolds (told ∷ []) h.more)
        (moved _ _ ((tolds ++ told ∷ []) ++ h.more) h.line e.cause (omega arith) h.fault);
  }

  bad_here : (k : ℕ) (line : List ℕ) (lines : List (List ℕ)) (tolds : List Told) (cause : RoutesCause) → AreAccepted n tolds → IsFault n k tolds line cause
      → OneBad k (line ∷ lines) tolds (record { line = k + 1; cause = cause })
  bad_here k line lines tolds cause accepted fault = record {
    before = [];
    line = line;
    after = lines;
    split = refl;
    number = omega arith;
    more = [];
    are = refl;
    accepted = subst (AreAccepted n) (sym (append-nil tolds)) accepted;
    fault = subst (λ l. IsFault n (k + 0) l line cause) (sym (append-nil tolds)) (moved k (k + 0) tolds line cause (omega arith) fault);
  }

  -- what lines after this one come to
  abbrev Later : ℕ → List (List ℕ) → Type 0
  Later k lines = k < 1000000 → (v : OwnTables) (all : List Told) → MakeTables n all v → AreAccepted n all → ComeTo (k + 1) lines all (tell_lines n (k + 1) lines v)

  come_to : (lines : List (List ℕ)) (k : ℕ) (tolds : List Told) (t : OwnTables) → k ≤ 1000000 → MakeTables n tolds t → AreAccepted n tolds → ComeTo k lines tolds (tell_lines n k lines t)
  come_to [] k tolds t most made accepted = record {
    more = [];
    are = refl;
    accepted = subst (AreAccepted n) (sym (append-nil tolds)) accepted;
    made = subst (λ l. MakeTables n l t) (sym (append-nil tolds)) made;
    few = omega (arith, most);
  }
  come_to (line ∷ lines) k tolds t most made accepted =
      by (nat_le 1000000 k) refl (λ few v all good. come_to lines (k + 1) all v (omega (arith, few)) good)
    where
      full : nat_le 1000000 k ≡ true → k ≡ 1000000
      full e = grind (arith, e, most)

      below : nat_le 1000000 k ≡ false → k < 1000000
      below e = grind (arith, e)

      tell_one : k < 1000000 → (told : Told) → LineSays n line (Ok (Some told)) → (r : Result OwnTables RoutesCause) → tell t told ≡ r → Later k lines → ComeTo k (line ∷ lines) tolds (then_tell (k + 1) r (tell_lines n (k + 1) lines))
      tell_one few told says (Err cause) e go = bad_here k line lines tolds cause accepted (refused few told says t made (refused_of t told cause e))
      tell_one few told says (Ok v) e go =
          after_told k line lines tolds told (tell_lines n (k + 1) lines v) says (go few v (tolds ++ told ∷ []) (tell_made n tolds told t v made e) (accepted_more n tolds told t v made accepted e))

      said : k < 1000000 → (x : Result (Option Told) RoutesCause) → LineSays n line x → Later k lines → ComeTo k (line ∷ lines) tolds (then_tell (k + 1) (tell_said t x) (tell_lines n (k + 1) lines))
      said few (Ok None) says go = after_silent k line lines tolds (tell_lines n (k + 1) lines t) says (go few t tolds made accepted)
      said few (Ok (Some told)) says go = tell_one few told says (tell t told) refl go
      said few (Err cause) says go = bad_here k line lines tolds cause accepted (bad few says)

      by : (b : Bool) → nat_le 1000000 k ≡ b → Later k lines
          → ComeTo k (line ∷ lines) tolds (cond b (Err (record { line = k + 1; cause = causes.TooManyLines })) (then_tell (k + 1) (tell_line n t line) (tell_lines n (k + 1) lines)))
      by true e go = bad_here k line lines tolds causes.TooManyLines accepted (too_many (full e) refl)
      by false e go =
          subst (λ (r : Result OwnTables RoutesCause). ComeTo k (line ∷ lines) tolds (then_tell (k + 1) r (tell_lines n (k + 1) lines))) (sym (tells_said n t line))
          (said (below e) (line_said n line) (line_says_by laws n lawful line (line_said n line) refl) go)

  -- ---- texts

  text_comes : (text : List ℕ) → ComeTo 0 (lines_of text) [] (tell_text n text)
  text_comes text = come_to (lines_of text) 0 [] (new_tables n) (omega arith) (new_made n) (accepted_none n)

  pub tells_tables : (text : List ℕ) (t : OwnTables) → tell_text n text ≡ Ok t → TellTables n text t
  tells_tables text t e =
      let h : AllGood 0 (lines_of text) [] t = subst (ComeTo 0 (lines_of text) []) e (text_comes text) in
      record { lines = lines_of text; are_lines = AreLines-lines_of text; few = omega (arith, h.few); tolds = h.more; are_told = h.are; accepted = h.accepted; made = h.made }

  pub tables_told : (text : List ℕ) (t : OwnTables) → TellTables n text t → tell_text n text ≡ Ok t
  tables_told text t h =
      let (u, tells, made) = all_told h.lines 0 [] h.tolds (new_tables n) (omega (arith, h.few)) (new_made n) h.accepted h.are_told in
      ap (λ ls. tell_lines n 0 ls (new_tables n)) (lines_of-AreLines text h.lines h.are_lines) ∙ tells ∙ ap (λ (v : OwnTables). Ok v) (one_made n h.tolds u t made h.made)

  pub refuses_text : (text : List ℕ) (e : RoutesError) → tell_text n text ≡ Err e → RefusesText n text e
  refuses_text text e is =
      let h : OneBad 0 (lines_of text) [] e = subst (ComeTo 0 (lines_of text) []) is (text_comes text) in
      record {
        before = h.before;
        bad = h.line;
        after = h.after;
        are_lines = subst (λ ls. AreLines text ls) h.split (AreLines-lines_of text);
        number = h.number ∙ omega arith;
        tolds = h.more;
        are_told = h.are;
        accepted = h.accepted;
        fault = moved _ _ h.more h.line e.cause (omega arith) h.fault;
      }

  fault_few : (k : ℕ) (tolds : List Told) (line : List ℕ) (cause : RoutesCause) → IsFault n k tolds line cause → k ≤ 1000000
  fault_few k tolds line cause (too_many e is) = omega (arith, e)
  fault_few k tolds line cause (bad few says) = omega (arith, few)
  fault_few k tolds line cause (refused few told says t made is) = omega (arith, few)

  fault_tells : (k : ℕ) (tolds : List Told) (line : List ℕ) (rest : List (List ℕ)) (t : OwnTables) (cause : RoutesCause) → MakeTables n tolds t → IsFault n k tolds line cause
      → tell_lines n k (line ∷ rest) t ≡ Err (record { line = k + 1; cause = cause })
  fault_tells k tolds line rest t cause made (too_many e is) =
      ap (λ b. cond b (Err (record { line = k + 1; cause = causes.TooManyLines })) (then_tell (k + 1) (tell_line n t line) (tell_lines n (k + 1) rest))) full
      ∙ ap (λ (c : RoutesCause). Err (record { line = k + 1; cause = c })) (sym is)
    where
      full : nat_le 1000000 k ≡ true
      full = grind (arith, e)
  fault_tells k tolds line rest t cause made (bad few says) = next_line n k line rest t (Err cause) few (said_tells t line (Err cause) says)
  fault_tells k tolds line rest t cause made (refused few told says u there is) =
      let again = subst (λ (w : OwnTables). IsRefused w told cause) (one_made n tolds u t there made) is in
      next_line n k line rest t (Err cause) few (said_tells t line (Ok (Some told)) says ∙ refused_at n tolds t told cause made again)

  pub text_refused : (text : List ℕ) (e : RoutesError) → RefusesText n text e → tell_text n text ≡ Err e
  text_refused text e h =
      let few = fault_few (length h.before) h.tolds h.bad e.cause h.fault in
      let (u, tells, made) = all_told h.before 0 [] h.tolds (new_tables n) (omega (arith, few)) (new_made n) h.accepted h.are_told in
      ap (λ ls. tell_lines n 0 ls (new_tables n)) (lines_of-AreLines text (h.before ++ h.bad ∷ h.after) h.are_lines)
      ∙ tells_on n 0 h.before (h.bad ∷ h.after) (new_tables n) u tells
      ∙ ap (λ (j : ℕ). tell_lines n j (h.bad ∷ h.after) u) (omega arith)
      ∙ fault_tells (length h.before) h.tolds h.bad h.after u e.cause made h.fault
      ∙ ap (λ (j : ℕ). Err (record { line = j; cause = e.cause })) (sym h.number)
