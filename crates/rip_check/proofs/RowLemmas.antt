-- Whatever route is behind what a router shows, it is the one that its first metric and its first silent tell.
use Rattle.std.proofs.Common.{◌≡◌, ℕ, ◌<◌, ◌≤◌, ◌⊎◌, inl, inr, Option, Some, unwrap_or, refl, sym, ◌∙◌, ap, arith}
use Rattle.std.proofs.lemmas.Bool.{cases_lt}
use Rattle.rip_plan.specs.Network.{Network}
use Rattle.rip_plan.specs.Relations.{HasTwoInterfaces}
use Rattle.rip_plan.specs.PrefixNetworks.{IsNetwork}
use Rattle.rip_table.specs.State.{State}
use Rattle.rip_check.specs.declared.way.Way.{Way}
use Rattle.rip_check.specs.declared.way.Way.TheVariants.{Unreachable, Here, Over}
use Rattle.rip_check.specs.Tables.{Route, FitsWay, MayShow, IsSilent, IsAsTold, Tells}
use Rattle.rip_check.proofs.ShownLemmas.{some_is, shown_below, metric_most}
use Rattle.rip_check.proofs.RouteLemmas.{speaks_case}
use Rattle.rip_check.specs.Surveys.{IsSpoken}
use Rattle.rip_check.proofs.SilenceLemmas.{IsMute, IsSilentLink}
use Rattle.rip_check.specs.Metrics.{metric_at}

-- what is below 16 is no silence
pub not_silent : (x : Option ℕ) (m : ℕ) → x ≡ Some m → (m ≡ 16 → ⊥) → IsSilent x → ⊥
not_silent x m e differs (inl none) = cc (e, none)
not_silent x m e differs (inr big) = differs (let h : Some m ≡ Some 16 = sym e ∙ big in cc h)

module _ (n : Network) (plan : IsNetwork n) (shown : State) (r p : ℕ) (two : HasTwoInterfaces n r) where
  speaks_out : (m : ℕ) (w : Way) → FitsWay n r p m w → m < 16 → IsAsTold n shown r p m w → IsSpoken n shown r p m
  speaks_out m w fits small told =
      speaks_case n plan shown two.0 two.1 r two.2 two.3 two.4 two.5 p m w two.6 two.7 two.8 fits small
      (told two.0 two.2 two.4 two.6) (told two.1 two.3 two.5 two.7)

  pub metric_is : (t : Route) (m : ℕ) → Tells n shown r p t → m ≤ 16 → (m ≡ 16 → IsMute n shown r p) → (m < 16 → (1 ≤ m) × IsSpoken n shown r p m) → t.metric ≡ m
  metric_is t m tells most mute spoken =
      elim (cases_lt m 16) [
        | inl small ↦
            let h = (spoken small).1 in
            let e = some_is (metric_at shown h.0 p) m h.4 in
            let less : unwrap_or (metric_at shown h.0 p) 16 < 16 = omega (arith, e, small) in
            let e' = shown_below n r h.1 p t.metric t.way (metric_at shown h.0 p) (tells.as_told h.0 h.1 h.2 h.3) less in
            omega (arith, e, e')
        | inr big ↦
            let is : m ≡ 16 = omega arith in
            elim (cases_lt t.metric 16) [
              | inl small ↦
                  let h = speaks_out t.metric t.way tells.way_fits small tells.as_told in
                  absurd (not_silent (metric_at shown h.0 p) t.metric h.4 (λ e. omega (arith, e, small)) (mute is h.0 h.1 h.2 h.3))
              | inr big' ↦ omega (arith, is, big', metric_most n r p t.metric t.way tells.way_fits)
            ]
      ]

  way_here : (m : ℕ) (w : Way) → FitsWay n r p m w → m < 16 → IsAsTold n shown r p m w → ((l : ℕ) → IsSilentLink n shown r p l → ⊥) → w ≡ Here
  way_here m Unreachable fits small told none = absurd (omega (arith, fits, small))
  way_here m Here fits small told none = refl
  way_here m (Over k) fits small told none =
      let on = fits.2 in
      go (told on.1.0 k on.0 on.1.1)
    where
      go : MayShow n r k p m (Over k) (metric_at shown fits.2.1.0 p) → Over k ≡ Here
      go (inl h) = absurd (none k (fits.2.1.0, fits.2.0, fits.2.1.1, inr h.1, fits.3))
      go (inr h) = absurd (h.0 refl)

  way_over : (m l : ℕ) (w : Way) → FitsWay n r p m w → m < 16 → IsAsTold n shown r p m w → IsSilentLink n shown r p l → w ≡ Over l
  way_over m l w fits small told silent = go w fits (told silent.0 l silent.1 silent.2)
    where
      go : (w : Way) → FitsWay n r p m w → MayShow n r l p m w (metric_at shown silent.0 p) → w ≡ Over l
      go Unreachable f h = absurd (omega (arith, f, small))
      go Here f (inl e) = absurd (not_silent (metric_at shown silent.0 p) m e.1 (λ is. omega (arith, is, small)) silent.3)
      go Here f (inr h) = absurd (silent.4 h.0)
      go (Over k) f (inl h) = ap Over h.0
      go (Over k) f (inr h) = absurd (not_silent (metric_at shown silent.0 p) m h.1 (λ is. omega (arith, is, small)) silent.3)

  way_nowhere : (m : ℕ) (w : Way) → FitsWay n r p m w → m ≡ 16 → w ≡ Unreachable
  way_nowhere m Unreachable fits e = refl
  way_nowhere m Here fits e = absurd (omega (arith, fits, e))
  way_nowhere m (Over l) fits e = absurd (omega (arith, fits.1, e))

  -- the way that the first metric and the first silent tell
  abbrev pub IsTold : ℕ → Way → Type 0
  IsTold m w =
      ((m ≡ 16) × (w ≡ Unreachable))
      ⊎ (((m < 16) × ((l : ℕ) → IsSilentLink n shown r p l → ⊥) × (w ≡ Here)) ⊎ ((l : ℕ) × (m < 16) × IsSilentLink n shown r p l × (w ≡ Over l)))

  way_is : (m : ℕ) (w v : Way) → FitsWay n r p m v → IsAsTold n shown r p m v → IsTold m w → v ≡ w
  way_is m w v fits told (inl h) = way_nowhere m v fits h.0 ∙ sym h.1
  way_is m w v fits told (inr (inl h)) = way_here m v fits h.0 told h.1 ∙ sym h.2
  way_is m w v fits told (inr (inr h)) = way_over m h.0 v fits h.1 told h.2 ∙ sym h.3

  pub no_other : (t : Route) (m : ℕ) (w : Way) → Tells n shown r p t → m ≤ 16 → (m ≡ 16 → IsMute n shown r p) → (m < 16 → (1 ≤ m) × IsSpoken n shown r p m) →
      IsTold m w → IsAsTold n shown r p m w
  no_other t m w tells most mute spoken told =
      let e = metric_is t m tells most mute spoken in
      let fits : FitsWay n r p m t.way = rw e at tells.way_fits in
      let shows : IsAsTold n shown r p m t.way = rw e at tells.as_told in
      let e' = way_is m w t.way fits shows told in
      rw e' at shows
