-- One place: reasons, what a leaf shows, and when it holds.
use Rattle.std.proofs.Common.{◌≡◌, ◌≢◌, ◌==◌, true, ℕ, ◌<◌, ◌≤◌, ◌⊎◌, inl, inr, Option, None, Some, IfSome, refl, sym, ◌∙◌, arith}
use Rattle.std.proofs.lemmas.Bool.{cases_lt, cases_eq, eqb-true, eq-eqb}
use Rattle.std.proofs.lemmas.Option.{same_Some}
use Rattle.rip_plan.specs.Network.{Network}
use Rattle.rip_plan.specs.Relations.{IsKept}
use Rattle.rip_plan.specs.PrefixNetworks.{IsNetwork}
use Rattle.rip_table.specs.State.{State}
use Rattle.rip_check.specs.Tables.{Route, IsSilent, Offers}
use Rattle.rip_check.specs.Settled.{IsChoice, Holds, IsGiven, IsLeastChoice}
use Rattle.rip_check.specs.Surveys.{IsSpoken}
use Rattle.rip_check.proofs.PlanLemmas.{direct_least}
use Rattle.rip_check.proofs.SilenceLemmas.{IsMute}
use Rattle.rip_check.specs.Firsts.{IsShownBelow, ShowsTwo}
use Rattle.rip_check.specs.Metrics.{metric_at}

pub two_shown : (n : Network) (shown : State) (r p m : ℕ) → m ≤ 16 → (m ≡ 16 → IsMute n shown r p) → (m < 16 → (1 ≤ m) × IsSpoken n shown r p m) →
    (i v : ℕ) × IsShownBelow n shown r p i v × (v ≢ m) → ShowsTwo n shown r p
two_shown n shown r p m most mute spoken h =
    elim (cases_lt m 16) [
      | inl small ↦
          let s = (spoken small).1 in
          (h.0, s.0, h.1, m, h.2, record { link = s.1; cost = s.2; its = s.3; shows = s.4; below = small }, h.3)
      | inr big ↦
          let is : m ≡ 16 = omega arith in
          absurd (loud (mute is h.0 h.2.link h.2.cost h.2.its))
    ]
  where
    loud : IsSilent (metric_at shown h.0 p) → ⊥
    loud (inl none) = cc (none, h.2.shows)
    loud (inr big) =
        let e : h.1 ≡ 16 = same_Some h.1 16 (sym h.2.shows ∙ big) in
        omega (arith, e, h.2.below)

pub not_two : (n : Network) (shown : State) (r p m : ℕ) → ((i v : ℕ) × IsShownBelow n shown r p i v × (v ≢ m) → ⊥) → ShowsTwo n shown r p → ⊥
not_two n shown r p m none h =
    elim (cases_eq h.2 m) [
      | inl e ↦ none (h.1, h.3, h.5, λ e'. h.6 (e ∙ sym e'))
      | inr differs ↦ none (h.0, h.2, h.4, differs)
    ]

-- a metric that is not below 16 is 16
pub high_is_silent : (o : Option ℕ) (m : ℕ) → IfSome o (λ v. (1 ≤ v) × (v ≤ 16)) → o ≡ Some m → 16 ≤ m → IsSilent o
high_is_silent None m range e high = cc e
high_is_silent (Some v) m range e high =
    let same : v ≡ m = same_Some v m e in
    let is : v ≡ 16 = omega (arith, same, range.1, high) in
    inr (rw is refl)

-- silence that is something is 16
pub poison_is : (o : Option ℕ) (m : ℕ) → IsSilent o → o ≡ Some m → o ≡ Some 16
poison_is o m (inl none) e = cc (none, e)
poison_is o m (inr is) e = is

pub all_hold : (n : Network) (shown : State) (r p v : ℕ) (t : Route) → IsLeastChoice n shown r p v → t.metric ≡ v → IsGiven n shown r p t.metric t.way → Holds n shown r p t
all_hold n shown r p v t is e given =
    record { choice = rw e is; given = given }

pub is_equation : (n : Network) (shown : State) (r p v : ℕ) (t : Route) → IsLeastChoice n shown r p v → Holds n shown r p t → t.metric ≡ v
is_equation n shown r p v t is holds = omega (arith, is.least t.metric holds.choice.chosen, holds.choice.least v is.chosen)

-- a choice is at least 1
pub choice_low : (n : Network) (shown : State) → IsNetwork n → (r p v : ℕ) → IsChoice n shown r p v → 1 ≤ v
choice_low n shown plan r p v (inl e) = omega (arith, e)
choice_low n shown plan r p v (inr (inl d)) = direct_least n plan r p v d
choice_low n shown plan r p v (inr (inr h)) =
    let o = h.1.2 in
    let one = plan.cost_least o.here.0 r h.1.0 o.cost o.here.1 in
    omega (arith, o.value, one)

-- what is offered over the link of one interface, where the metric is no more than any choice
pub offered_is : (n : Network) (shown : State) (r l p m v : ℕ) → (IsKept n r p → ⊥) → m < 16 → ((w : ℕ) → IsChoice n shown r p w → m ≤ w) → (v ≡ 16) ⊎ ((s : ℕ) × Offers n shown r l s p v) →
    ((s w : ℕ) → Offers n shown r l s p w → v ≤ w) → ((v == m) ≡ true → (s : ℕ) × Offers n shown r l s p m) × (((s : ℕ) × Offers n shown r l s p m) → (v == m) ≡ true)
offered_is n shown r l p m v takes small least (inl e) below =
    (λ t. absurd (omega (arith, e, small, eqb-true v m t)), λ o. absurd (late o.1))
  where
    late : {s : ℕ} → Offers n shown r l s p m → ⊥
    late o = omega (arith, o.value, small, below _ m o, e)
offered_is n shown r l p m v takes small least (inr o) below =
    (λ t. rw (eqb-true v m t) at o, λ o'. eq-eqb v m (omega (arith, below o'.0 m o'.1, least v (inr (inr (takes, (l, o.0, o.1)))))))
