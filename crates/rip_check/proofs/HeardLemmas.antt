-- Where an interface was not heard, the verdict does not ask what it tells.
use Rattle.std.proofs.Common.{◌≡◌, ◌||◌, ◌↔◌, ℕ, Bool, true, false, not, IsTrue, Option, None, Some, slice_get, refl, sym, ◌∙◌, ap, subst}
use Rattle.std.specs.Option.{option_map_or}
use mathlib.Core.Path.{fun_ext}
use Rattle.rip_plan.specs.Network.{Network}
use Rattle.rip_plan.specs.declared.parts.Interface.{Interface}
use Rattle.rip_table.specs.State.{State}
use Rattle.rip_check.specs.Tables.{IsHeard}
use Rattle.rip_check.specs.Told.{poisons, told, told_where}
use Rattle.rip_check.specs.Verdicts.{IsVerdict}
use Rattle.rip_check.specs.declared.verdict.Unclear.TheVariants.{NotHeard, TwoMetrics, Missing, ShownOn, TwoWays}
use Rattle.rip_check.specs.declared.verdict.Verdict.{Verdict}
use Rattle.rip_check.specs.declared.verdict.Verdict.TheVariants.{Settled, Unsettled, Unclear as IsUnclear}
use Rattle.rip_check.proofs.ToldTableLemmas.{mute}

heard_is_not_mute : (a h : Bool) → IsTrue h → (a || not h) ≡ a
heard_is_not_mute true h is = refl
heard_is_not_mute false true is = refl
heard_is_not_mute false false is = cc is

-- each interface is mute just where it poisons
as_poison : (n : Network) (s : State) → IsHeard n s → (i : ℕ) → mute n s i ≡ poisons n i
as_poison n s heard i = go (slice_get n.interfaces i) refl
  where
    go : (o : Option Interface) → slice_get n.interfaces i ≡ o → mute n s i ≡ poisons n i
    go None at =
        let on : poisons n i ≡ true = ap (λ (o : Option Interface). option_map_or (λ x. x.poison) o true) at in
        ap (λ (b : Bool). b || not (s.heard i)) on ∙ sym on
    go (Some x) at =
        heard_is_not_mute (poisons n i) (s.heard i)
        (heard i x.router x.link x.cost (record { interface = x; listed = at; router = refl; link = refl; cost = refl }))

pub same_told : (n : Network) (s : State) → IsHeard n s → told n s ≡ told_where (poisons n) s
same_told n s heard = ap (λ (f : ℕ → Bool). told_where f s) (fun_ext (as_poison n s heard))

pub same_verdict : (n : Network) (s : State) (verdict : Verdict) → IsVerdict n (told n s) verdict ↔ IsVerdict n (told_where (poisons n) s) verdict
same_verdict n s verdict = (to verdict, back verdict)
  where
    to_heard : (v : Verdict) → IsHeard n s → IsVerdict n (told n s) v → IsVerdict n (told_where (poisons n) s) v
    to_heard v heard is = subst (λ (t : State). IsVerdict n t v) (same_told n s heard) is

    back_heard : (v : Verdict) → IsHeard n s → IsVerdict n (told_where (poisons n) s) v → IsVerdict n (told n s) v
    back_heard v heard is = subst (λ (t : State). IsVerdict n t v) (sym (same_told n s heard)) is

    to : (v : Verdict) → IsVerdict n (told n s) v → IsVerdict n (told_where (poisons n) s) v
    to Settled is = to_heard Settled is.1.heard is
    to (Unsettled place) is = to_heard (Unsettled place) is.0.1.heard is
    to (IsUnclear (NotHeard r l)) is = record { interface = is.interface; cost = is.cost; its = is.its; unheard = is.unheard; before = is.before }
    to (IsUnclear (TwoMetrics r p)) is = to_heard (IsUnclear (TwoMetrics r p)) is.0 is
    to (IsUnclear (Missing r p l)) is = to_heard (IsUnclear (Missing r p l)) is.0 is
    to (IsUnclear (ShownOn r p l)) is = to_heard (IsUnclear (ShownOn r p l)) is.0 is
    to (IsUnclear (TwoWays r p)) is = to_heard (IsUnclear (TwoWays r p)) is.0 is

    back : (v : Verdict) → IsVerdict n (told_where (poisons n) s) v → IsVerdict n (told n s) v
    back Settled is = back_heard Settled is.1.heard is
    back (Unsettled place) is = back_heard (Unsettled place) is.0.1.heard is
    back (IsUnclear (NotHeard r l)) is = record { interface = is.interface; cost = is.cost; its = is.its; unheard = is.unheard; before = is.before }
    back (IsUnclear (TwoMetrics r p)) is = back_heard (IsUnclear (TwoMetrics r p)) is.0 is
    back (IsUnclear (Missing r p l)) is = back_heard (IsUnclear (Missing r p l)) is.0 is
    back (IsUnclear (ShownOn r p l)) is = back_heard (IsUnclear (ShownOn r p l)) is.0 is
    back (IsUnclear (TwoWays r p)) is = back_heard (IsUnclear (TwoWays r p)) is.0 is
