-- One more interface in what a router shows.
use Rattle.std.proofs.Common.{◌≡◌, ℕ, ◌+◌, ◌<◌, ◌≤◌, ◌⊎◌, inl, inr, Bool, true, false, Decides, Option, None, Some, refl, sym, ◌∙◌, arith}
use Rattle.std.proofs.lemmas.Bool.{cases_lt}
use Rattle.std.proofs.lemmas.Option.{same_Some}
use Rattle.rip_plan.specs.Network.{Network}
use Rattle.rip_plan.specs.Relations.{IsAttached, IsInterface}
use Rattle.rip_plan.specs.PrefixNetworks.{IsNetwork}
use Rattle.rip_table.specs.State.{State}
use Rattle.rip_check.specs.declared.way.Way.TheVariants.{Over}
use Rattle.rip_check.specs.Tables.{IsSilent, MayHoldBack, MayShow, IsAsTold}
use Rattle.rip_check.specs.Firsts.{IsShownBelow}
use Rattle.rip_check.specs.declared.surveys.Survey.{Survey}
use Rattle.rip_check.specs.Surveys.{IsSilence, IsSpeech, IsSurvey, IsTelling, IsShownThere}
use Rattle.rip_check.proofs.OwnedLemmas.{its_link}
use Rattle.rip_check.proofs.RowLemmas.{not_silent}
use Rattle.rip_check.specs.Metrics.{metric_at}

-- what is shown below 16 is no silence
pub below_not_silent : (x : Option ℕ) (v : ℕ) → x ≡ Some v → v < 16 → IsSilent x → ⊥
below_not_silent x v e less = not_silent x v e (λ big. omega (arith, big, less))

module _ (n : Network) (shown : State) (r p i l c : ℕ) (its : IsInterface n i r l c) where
  -- an interface before the next bound is an earlier one, or the one here
  split : (Q : ℕ → ℕ → Type 0) → ((j k d : ℕ) → j < i → IsInterface n j r k d → Q j k) → Q i l → (j k d : ℕ) → j < i + 1 → IsInterface n j r k d → Q j k
  split Q before here j k d lt at =
      elim (cases_lt j i) [
        | inl less ↦ before j k d less at
        | inr big ↦
            let e : j ≡ i = omega arith in
            let at' : IsInterface n i r k d = rw e at at in
            let same = its_link n i r k d r l c at' its in
            rw e (rw same.1 here)
      ]

  -- the same of metrics below 16
  split_below : (Q : ℕ → Type 0) → ((j v : ℕ) → j < i → IsShownBelow n shown r p j v → Q v) → ((v : ℕ) → metric_at shown i p ≡ Some v → v < 16 → Q v) →
      (j v : ℕ) → j < i + 1 → IsShownBelow n shown r p j v → Q v
  split_below Q before here j v lt is =
      elim (cases_lt j i) [
        | inl less ↦ before j v less is
        | inr big ↦
            let e : j ≡ i = omega arith in
            let shows : metric_at shown i p ≡ Some v = rw e at is.shows in
            here v shows is.below
      ]

  -- ---- the interface shows a metric below 16
  module _ (m : ℕ) (least : 1 ≤ m) (less : m < 16) (shows : metric_at shown i p ≡ Some m) where
    here_not_silent : IsSilent (metric_at shown i p) → ⊥
    here_not_silent = below_not_silent (metric_at shown i p) m shows less

    same_here : (v : ℕ) → metric_at shown i p ≡ Some v → v ≡ m
    same_here v e = same_Some v m (sym e ∙ shows)

    pub first_metric : (old : ℕ) (another : Bool) → old ≡ 16 → IsSpeech n shown r p i old another → IsSpeech n shown r p (i + 1) m another
    first_metric old another none was =
        record {
          most = omega (arith, less);
          spoken = λ small. (least, (i, l, c, its, shows));
          mute = λ e. absurd (omega (arith, e, less));
          two = λ t. absurd (omega (arith, (was.two t).0, none));
          one = λ t. split_below (λ v. v ≡ m)
              (λ j v lt is. absurd (below_not_silent (metric_at shown j p) v is.shows is.below (was.mute none j is.link is.cost lt is.its))) (λ v e small. same_here v e);
        }

    pub same_metric : (another : Bool) → IsSpeech n shown r p i m another → IsSpeech n shown r p (i + 1) m another
    same_metric another was =
        record {
          most = was.most;
          spoken = was.spoken;
          mute = λ e. absurd (omega (arith, e, less));
          two = was.two;
          one = λ t. split_below (λ v. v ≡ m) (was.one t) (λ v e small. same_here v e);
        }

    pub other_metric : (old : ℕ) (another : Bool) → (old ≡ 16 → ⊥) → (m ≡ old → ⊥) → IsSpeech n shown r p i old another → IsSpeech n shown r p (i + 1) old true
    other_metric old another some differs was =
        record {
          most = was.most;
          spoken = was.spoken;
          mute = λ e. absurd (some e);
          two = λ t. (omega (arith, was.most, some), i, m, record { link = l; cost = c; its = its; shows = shows; below = less }, differs);
          one = λ t. cc t;
        }

    pub no_silence : (silent : Option ℕ) (blocked : Bool) → IsSilence n shown r p i silent blocked → IsSilence n shown r p (i + 1) silent blocked
    no_silence silent blocked was =
        record {
          some = λ k e. let h = was.some k e in (h.0, h.1, omega (arith, h.2), h.3, h.4, h.5);
          none = λ e. split (λ j k. IsSilent (metric_at shown j p) → MayHoldBack n r p k) (was.none e) (λ silent. absurd (here_not_silent silent));
          no_route = was.no_route;
          alone = λ e. split (λ j k. IsSilent (metric_at shown j p) → (silent ≡ Some k) × (metric_at shown j p ≡ Some 16)) (was.alone e) (λ silent. absurd (here_not_silent silent));
        }

    -- the interface tells of the prefix, on the link to which it is attached or on another
    pub more_telling : (old on next : Bool) → Decides on (IsAttached n r p l) → IsTelling n shown r p i old →
        ((old ≡ true) × (next ≡ true)) ⊎ ((old ≡ false) × (next ≡ on)) → IsTelling n shown r p (i + 1) next
    more_telling old on next d was (inl h) = record { some = λ t. was.some h.0; none = λ t. absurd (let e : true ≡ false = sym h.1 ∙ t in cc e) }
    more_telling old on next d was (inr h) = record { some = some; none = none }
      where
        some : next ≡ true → (j : ℕ) × IsShownThere n shown r p j
        some t = (i, record { metric = m; below = record { link = l; cost = c; its = its; shows = shows; below = less }; attached = d.0 (sym h.1 ∙ t) })

        none : next ≡ false → (j : ℕ) → j < i + 1 → IsShownThere n shown r p j → ⊥
        none t j lt told =
            elim (cases_lt j i) [
              | inl sooner ↦ was.none h.0 j sooner told
              | inr late ↦
                  let e : j ≡ i = omega arith in
                  let its' : IsInterface n i r told.below.link told.below.cost = rw e at told.below.its in
                  let same : told.below.link ≡ l = (its_link n i r told.below.link told.below.cost r l c its' its).1 in
                  let at : IsAttached n r p l = rw same at told.attached in
                  let is : false ≡ true = sym t ∙ h.1 ∙ d.1 at in
                  cc is
            ]

  -- ---- the interface is silent
  module _ (silent : IsSilent (metric_at shown i p)) where
    pub no_speech : (metric : ℕ) (another : Bool) → IsSpeech n shown r p i metric another → IsSpeech n shown r p (i + 1) metric another
    no_speech metric another was =
        record {
          most = was.most;
          spoken = was.spoken;
          mute = λ e. split (λ j k. IsSilent (metric_at shown j p)) (was.mute e) silent;
          two = was.two;
          one = λ t. split_below (λ v. v ≡ metric) (was.one t) (λ v e small. absurd (below_not_silent (metric_at shown i p) v e small silent));
        }

    pub no_telling : (not_here : Bool) → IsTelling n shown r p i not_here → IsTelling n shown r p (i + 1) not_here
    no_telling not_here was = record { some = was.some; none = none }
      where
        none : not_here ≡ false → (j : ℕ) → j < i + 1 → IsShownThere n shown r p j → ⊥
        none t j lt told =
            elim (cases_lt j i) [
              | inl sooner ↦ was.none t j sooner told
              | inr late ↦
                  let e : j ≡ i = omega arith in
                  let shows' : metric_at shown i p ≡ Some told.metric = rw e at told.below.shows in
                  below_not_silent (metric_at shown i p) told.metric shows' told.below.below silent
            ]

    -- what a route over a link may show here
    over_here : (m k : ℕ) → m < 16 → MayShow n r l p m (Over k) (metric_at shown i p) → (k ≡ l) × (metric_at shown i p ≡ Some 16)
    over_here m k less (inl h) = h
    over_here m k less (inr h) = absurd (below_not_silent (metric_at shown i p) m h.1 less silent)

    -- the first silent
    pub first_silent_link : (off : MayHoldBack n r p l → ⊥) (blocked : Bool) → IsSilence n shown r p i None blocked →
        (next : Bool) → (next ≡ true → (blocked ≡ true) ⊎ (metric_at shown i p ≡ None)) → (next ≡ false → (blocked ≡ false) × (metric_at shown i p ≡ Some 16)) →
        IsSilence n shown r p (i + 1) (Some l) next
    first_silent_link off blocked was next on off' =
        record {
          some = λ k e.
              let same : k ≡ l = same_Some k l (sym e) in
              rw same (i, c, omega arith, its, silent, off);
          none = λ e. cc e;
          no_route = λ t m k less away silent told. no_route_here (on t) m k less away (is_gap k silent) told;
          alone = λ t.
              let h = off' t in
              split (λ j k. IsSilent (metric_at shown j p) → (Some l ≡ Some k) × (metric_at shown j p ≡ Some 16))
              (λ j k d lt at quiet. let none : None ≡ Some k = (was.alone h.0 j k d lt at quiet).0 in cc none) (λ quiet. (refl, h.1));
        }
      where
        is_gap : (k : ℕ) → (Some l ≡ None) ⊎ (Some l ≡ Some k) → k ≡ l
        is_gap k (inl e) = cc e
        is_gap k (inr e) = same_Some k l (sym e)

        no_route_here : (blocked ≡ true) ⊎ (metric_at shown i p ≡ None) → (m k : ℕ) → m < 16 → (MayHoldBack n r p k → ⊥) → k ≡ l → IsAsTold n shown r p m (Over k) → ⊥
        no_route_here (inl t) m k less away same told = was.no_route t m k less away (inl refl) told
        no_route_here (inr none) m k less away same told =
            let h = over_here m k less (told i l c its) in
            cc (none, h.1)

    -- a silence beside the silent
    pub more_silence : IsNetwork n → (silent : Option ℕ) (blocked : Bool) → IsSilence n shown r p i silent blocked → ((silent ≡ None → ⊥) ⊎ MayHoldBack n r p l) →
        IsSilence n shown r p (i + 1) silent true
    more_silence plan silent blocked was beside =
        record {
          some = λ k e. let h = was.some k e in (h.0, h.1, omega (arith, h.2), h.3, h.4, h.5);
          none = λ e. split (λ j k. IsSilent (metric_at shown j p) → MayHoldBack n r p k) (was.none e) (λ quiet. held beside e);
          no_route = λ t m k less away at told. away' beside m k less away at (over_here m k less (told i l c its)).0;
          alone = λ t. cc t;
        }
      where
        held : (silent ≡ None → ⊥) ⊎ MayHoldBack n r p l → silent ≡ None → MayHoldBack n r p l
        held (inl some) e = absurd (some e)
        held (inr on) e = on

        apart : (j k d : ℕ) → j < i → IsInterface n j r k d → k ≡ l → ⊥
        apart j k d sooner at same =
            let at' : IsInterface n j r l d = rw same at at in
            omega (arith, sooner, plan.one_on_link j i r l d c at' its)

        away' : (silent ≡ None → ⊥) ⊎ MayHoldBack n r p l → (m k : ℕ) → m < 16 → (MayHoldBack n r p k → ⊥) → (silent ≡ None) ⊎ (silent ≡ Some k) → k ≡ l → ⊥
        away' (inr on) m k less away at same = away (rw same on)
        away' (inl some) m k less away (inl none) same = some none
        away' (inl some) m k less away (inr is) same = let h = was.some k is in apart h.0 k h.1 h.2 h.3 same

-- before the first interface, and up to the next one
module _ (n : Network) (shown : State) (r p : ℕ) where
  pub nothing_yet : IsSurvey n shown r p 0 (record { metric = 16; another = false; silent = None; blocked = false; not_here = false })
  nothing_yet =
      record {
        speech = record {
          most = omega arith;
          spoken = λ less. absurd (omega (arith, less));
          mute = λ e i l c lt its. absurd (omega (arith, lt));
          two = λ t. cc t;
          one = λ t i v lt is. absurd (omega (arith, lt));
        };
        silence = record {
          some = λ l e. cc e;
          none = λ e i l c lt its silent. absurd (omega (arith, lt));
          no_route = λ t. cc t;
          alone = λ t i l c lt its silent. absurd (omega (arith, lt));
        };
        telling = record {
          some = λ t. cc t;
          none = λ t i lt told. absurd (omega (arith, lt));
        };
      }

  pub stretch : (i b : ℕ) (found : Survey) → i ≤ b → ((j l c : ℕ) → IsInterface n j r l c → j < b → j < i) → IsSurvey n shown r p i found → IsSurvey n shown r p b found
  stretch i b found le none is =
      let speech = is.speech in
      let silence = is.silence in
      record {
        speech = record {
          most = speech.most;
          spoken = speech.spoken;
          mute = λ e j l c lt its. speech.mute e j l c (none j l c its lt) its;
          two = speech.two;
          one = λ t j v lt at. speech.one t j v (none j at.link at.cost at.its lt) at;
        };
        silence = record {
          some = λ l e. let h = silence.some l e in (h.0, h.1, omega (arith, h.2, le), h.3, h.4, h.5);
          none = λ e j l c lt its. silence.none e j l c (none j l c its lt) its;
          no_route = silence.no_route;
          alone = λ t j l c lt its. silence.alone t j l c (none j l c its lt) its;
        };
        telling = record {
          some = is.telling.some;
          none = λ t j lt told. is.telling.none t j (none j told.below.link told.below.cost told.below.its lt) told;
        };
      }
