-- The route that is behind what a router with two interfaces shows.
use Rattle.std.proofs.Common.{◌≡◌, ◌≢◌, ℕ, ◌<◌, ◌⊎◌, inl, inr, true, false, Option, None, Some, unwrap_or, refl, sym, ◌∙◌, ap, arith, length}
use Rattle.std.proofs.lemmas.Bool.{cases_lt}
use Rattle.std.proofs.lemmas.Option.{same_Some}
use Rattle.rip_plan.specs.Network.{Network}
use Rattle.rip_plan.specs.Relations.{IsAttached, IsInterface, HasTwoInterfaces}
use Rattle.rip_plan.specs.PrefixNetworks.{IsNetwork}
use Rattle.rip_table.specs.State.{State}
use Rattle.rip_check.specs.declared.surveys.Survey.{Survey}
use Rattle.rip_check.specs.declared.way.Way.TheVariants.{Unreachable, Here, Over}
use Rattle.rip_check.specs.Metrics.{IsInRange, metric_at}
use Rattle.rip_check.specs.Tables.{Route, IsSilent, MayShow, Tells}
use Rattle.rip_check.proofs.SilenceLemmas.{IsMute, IsSilentLink}
use Rattle.rip_check.specs.Firsts.{IsShownBelow, ShowsEach, ShowsWhereAttached}
use Rattle.rip_check.specs.Surveys.{IsSurvey, IsShownThere}
use Rattle.rip_check.proofs.OwnedLemmas.{within}
use Rattle.rip_check.proofs.PlanLemmas.{held_back_once}
use Rattle.rip_check.proofs.RowLemmas.{metric_is, no_other}
use Rattle.rip_check.proofs.ShownLemmas.{some_is, shown_below}
use Rattle.rip_check.proofs.SurveyLemmas.{below_not_silent}

module _ (n : Network) (shown : State) (r p : ℕ) (found : Survey) (is : IsSurvey n shown r p (length n.interfaces) found) where
  pub mute : found.metric ≡ 16 → IsMute n shown r p
  mute e i l c its = is.speech.mute e i l c (within n i r l c its) its

  pub one_metric : found.another ≡ false → (i v : ℕ) × IsShownBelow n shown r p i v × (v ≢ found.metric) → ⊥
  one_metric off h = h.3 (is.speech.one off h.0 h.1 (within n h.0 r h.2.link h.2.cost h.2.its) h.2)

  -- a prefix that is told where it is attached, and silent nowhere else, is told everywhere
  pub told_everywhere : IsNetwork n → IsInRange n shown → ShowsEach n shown r p → found.not_here ≡ true → found.silent ≡ None → (l : ℕ) → IsAttached n r p l → ShowsWhereAttached n shown r p l
  told_everywhere plan range each on none l at = (at, λ i k c its. go i k c its (metric_at shown i p) refl)
    where
      told : (i : ℕ) × IsShownThere n shown r p i
      told = is.telling.some on

      -- where it were silent it would be told
      not_silent_there : (i k c : ℕ) → IsInterface n i r k c → IsSilent (metric_at shown i p) → ⊥
      not_silent_there i k c its silent =
          let b = told.1.below in
          let held = is.silence.none none i k c (within n i r k c its) its silent in
          let link : k ≡ b.link = held_back_once n plan r p k b.link (c, (i, its)) (b.cost, (told.0, b.its)) held (inr told.1.attached) in
          let its' : IsInterface n i r b.link c = rw link at its in
          let number : i ≡ told.0 = plan.one_on_link i told.0 r b.link c b.cost its' b.its in
          let quiet : IsSilent (metric_at shown told.0 p) = rw number at silent in
          below_not_silent (metric_at shown told.0 p) told.1.metric b.shows b.below quiet

      go : (i k c : ℕ) → IsInterface n i r k c → (x : Option ℕ) → metric_at shown i p ≡ x → (m : ℕ) × (metric_at shown i p ≡ Some m) × (m < 16)
      go i k c its None e = absurd (each i k c its e)
      go i k c its (Some m) e =
          elim (cases_lt m 16) [
            | inl less ↦ (m, e, less)
            | inr big ↦
                let most = (range i r k c p m its e).1 in
                let same : m ≡ 16 = omega arith in
                absurd (not_silent_there i k c its (inr (e ∙ ap Some same)))
          ]

  -- and where it is told everywhere, it is told where it is attached, and silent nowhere
  pub tells_there : IsNetwork n → (l : ℕ) → ShowsWhereAttached n shown r p l → found.not_here ≡ false → ⊥
  tells_there plan l on off =
      let here = plan.attached_there r p l on.0 in
      let shows = on.1 here.1.0 l here.0 here.1.1 in
      is.telling.none off here.1.0 (within n here.1.0 r l here.0 here.1.1)
      (record { metric = shows.0; below = record { link = l; cost = here.0; its = here.1.1; shows = shows.1; below = shows.2 }; attached = on.0 })

  pub silent_nowhere : (l : ℕ) → ShowsWhereAttached n shown r p l → found.silent ≡ None
  silent_nowhere l on = go found.silent refl
    where
      go : (o : Option ℕ) → found.silent ≡ o → found.silent ≡ None
      go None e = e
      go (Some k) e =
          let h = is.silence.some k e in
          let shows = on.1 h.0 k h.1 h.3 in
          absurd (below_not_silent (metric_at shown h.0 p) shows.0 shows.1 shows.2 h.4)

  module _ (plan : IsNetwork n) (range : IsInRange n shown) (two : HasTwoInterfaces n r) where
    -- two metrics fit no route
    pub two_metrics : found.another ≡ true → (t : Route) → Tells n shown r p t → ⊥
    two_metrics on t tells =
        let h = is.speech.two on in
        let e = metric_is n plan shown r p two t found.metric tells is.speech.most mute is.speech.spoken in
        let its = h.3.its in
        let x = metric_at shown h.1 p in
        let same = some_is x h.2 h.3.shows in
        let less : unwrap_or x 16 < 16 = omega (arith, same, h.3.below) in
        h.4 (omega (arith, e, same, shown_below n r h.3.link p t.metric t.way x (tells.as_told h.1 h.3.link h.3.cost its) less))

    -- with one metric each interface is silent or shows it
    cell_is : found.another ≡ false → (i l c : ℕ) → IsInterface n i r l c → IsSilent (metric_at shown i p) ⊎ (metric_at shown i p ≡ Some found.metric)
    cell_is off i l c its = go (metric_at shown i p) refl
      where
        go : (x : Option ℕ) → metric_at shown i p ≡ x → IsSilent (metric_at shown i p) ⊎ (metric_at shown i p ≡ Some found.metric)
        go None e = inl (inl e)
        go (Some v) e =
            elim (cases_lt v 16) [
              | inl less ↦
                  let same = is.speech.one off i v (within n i r l c its) (record { link = l; cost = c; its = its; shows = e; below = less }) in
                  inr (e ∙ ap Some same)
              | inr big ↦
                  let most = (range i r l c p v its e).1 in
                  let same : v ≡ 16 = omega arith in
                  inl (inr (e ∙ ap Some same))
            ]

    pub nowhere : found.metric ≡ 16 → Tells n shown r p (record { metric = 16; way = Unreachable })
    nowhere e = record { way_fits = refl; as_told = mute e }

    small : (found.metric ≡ 16 → ⊥) → found.metric < 16
    small off = omega (arith, off, is.speech.most)

    -- with no silent interface but where the route may be held back, there is no silent link
    no_link : found.silent ≡ None → (l : ℕ) → IsSilentLink n shown r p l → ⊥
    no_link none l h = h.4 (is.silence.none none h.0 l h.1 (within n h.0 r l h.1 h.2) h.2 h.3)

    pub here : found.another ≡ false → (found.metric ≡ 16 → ⊥) → found.silent ≡ None → found.not_here ≡ false → Tells n shown r p (record { metric = found.metric; way = Here })
    here off some none may =
        record {
          way_fits = ((is.speech.spoken (small some)).0, small some);
          as_told = λ i l c its. elim (cell_is off i l c its) [
            | inl silent ↦ inr (is.silence.none none i l c (within n i r l c its) its silent, silent)
            | inr e ↦ inl (untold i l c its e, e)
          ];
        }
      where
        untold : (i l c : ℕ) → IsInterface n i r l c → metric_at shown i p ≡ Some found.metric → IsAttached n r p l → ⊥
        untold i l c its e at =
            is.telling.none may i (within n i r l c its)
            (record { metric = found.metric; below = record { link = l; cost = c; its = its; shows = e; below = small some }; attached = at })

    -- and where the router tells of the prefix on the link to which it is attached, it is not the route
    pub not_its_own : (found.metric ≡ 16 → ⊥) → found.silent ≡ None → found.not_here ≡ true → (t : Route) → Tells n shown r p t → ⊥
    not_its_own some none on t tells =
        let told = no_other n plan shown r p two t found.metric Here tells is.speech.most mute is.speech.spoken (inr (inl (small some, no_link none, refl))) in
        let h = is.telling.some on in
        let b = h.1.below in
        go h.1.metric h.1.attached b.below (metric_at shown h.0 p) b.shows (told h.0 b.link b.cost b.its)
      where
        go : {l : ℕ} (v : ℕ) → IsAttached n r p l → v < 16 → (x : Option ℕ) → x ≡ Some v → MayShow n r l p found.metric Here x → ⊥
        go v at less x e (inl h) = h.0 at
        go v at less x e (inr h) = below_not_silent x v e less h.1

    silent_at : (l : ℕ) → found.silent ≡ Some l → IsSilentLink n shown r p l
    silent_at l e = let h = is.silence.some l e in (h.0, h.1, h.3, h.4, h.5)

    pub over : found.another ≡ false → (found.metric ≡ 16 → ⊥) → (l : ℕ) → found.silent ≡ Some l → found.blocked ≡ false →
        Tells n shown r p (record { metric = found.metric; way = Over l })
    over off some l e free =
        let silent = silent_at l e in
        record {
          way_fits = ((is.speech.spoken (small some)).0, small some, (silent.1, (silent.0, silent.2)), silent.4);
          as_told = λ i k c its. elim (cell_is off i k c its) [
            | inl silent ↦
                let h = is.silence.alone free i k c (within n i r k c its) its silent in
                inl (same_Some l k (sym e ∙ h.0), h.1)
            | inr shows ↦ inr (λ same. other silent i k c its shows same, shows)
          ];
        }
      where
        other : IsSilentLink n shown r p l → (i k c : ℕ) → IsInterface n i r k c → metric_at shown i p ≡ Some found.metric → l ≡ k → ⊥
        other silent i k c its shows same =
            let its' : IsInterface n i r l c = rw same its in
            let number = plan.one_on_link i silent.0 r l c silent.1 its' silent.2 in
            let quiet : IsSilent (metric_at shown i p) = rw number silent.3 in
            below_not_silent (metric_at shown i p) found.metric shows (small some) quiet

    -- where no route over the silent may show this, none fits
    pub no_way : (found.metric ≡ 16 → ⊥) → (l : ℕ) → found.silent ≡ Some l → found.blocked ≡ true → (t : Route) → Tells n shown r p t → ⊥
    no_way some l e on t tells =
        let silent = silent_at l e in
        is.silence.no_route on found.metric l (small some) silent.4 (inr e)
        (no_other n plan shown r p two t found.metric (Over l) tells is.speech.most mute is.speech.spoken (inr (inr (l, small some, silent, refl))))
