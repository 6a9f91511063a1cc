-- What is told is a metric where what is shown is one, and is offered as what is shown.
use Rattle.std.proofs.Common.{◌≡◌, ℕ, ◌<◌, ◌≤◌, ◌↔◌, inl, inr, Bool, true, false, ◌||◌, not, cond, IsTrue, Option, None, Some, get_or, length, slice_get, option_and_then, unwrap_or, refl, sym, ◌∙◌, ap, arith}
use Rattle.std.specs.Option.{option_map_or}
use Rattle.std.proofs.lemmas.Option.{none-some, same_Some, slice_get-get_or}
use Rattle.rip_wire.specs.Prefix.{Block, block}
use Rattle.rip_plan.specs.Network.{Network}
use Rattle.rip_plan.specs.Relations.{IsInterface, Poisons}
use Rattle.rip_plan.specs.declared.parts.Interface.{Interface}
use Rattle.rip_table.specs.State.{State}
use Rattle.rip_check.specs.Metrics.{IsInRange, metric_at}
use Rattle.rip_check.specs.Told.{TellsMetric, poisons, told, told_of, told_where}

-- whether an interface of the plan poisons
pub its_poison : (n : Network) (i : ℕ) (x : Interface) → slice_get n.interfaces i ≡ Some x → poisons n i ≡ x.poison
its_poison n i x at = ap (λ (o : Option Interface). option_map_or (λ y. y.poison) o true) at

pub surely_poisons : (n : Network) (i : ℕ) → Poisons n i → poisons n i ≡ true
surely_poisons n i is = its_poison n i is.interface is.listed ∙ is.poisons

-- what is told of a prefix of the list
pub told_metric : (poison : ℕ → Bool) (s : State) (i k : ℕ) → k < length s.prefixes → metric_at (told_where poison s) i k ≡ told_of (poison i) (metric_at s i k)
told_metric poison s i k lt =
    let at : slice_get s.prefixes k ≡ Some (get_or s.prefixes k (block 0 0)) = slice_get-get_or s.prefixes k (block 0 0) lt in
    rw at refl

-- a metric that is shown is told
pub told_shown : (poison : ℕ → Bool) (s : State) (i k m : ℕ) → k < length s.prefixes → metric_at s i k ≡ Some m → metric_at (told_where poison s) i k ≡ Some m
unfolding told_of
told_shown poison s i k m lt e = told_metric poison s i k lt ∙ ap (told_of (poison i)) e

-- an interface that shows nothing tells nothing, or 16
pub told_silent : (poison : ℕ → Bool) (s : State) (i k : ℕ) → k < length s.prefixes → metric_at s i k ≡ None → metric_at (told_where poison s) i k ≡ cond (poison i) None (Some 16)
unfolding told_of
told_silent poison s i k lt e = told_metric poison s i k lt ∙ ap (told_of (poison i)) e

-- an interface tells nothing by its silence where it poisons or was not heard
abbrev pub mute : Network → State → ℕ → Bool
mute n s i = poisons n i || not (s.heard i)

pub surely_mute : (n : Network) (s : State) (i : ℕ) → poisons n i ≡ true → mute n s i ≡ true
surely_mute n s i on = ap (λ (b : Bool). b || not (s.heard i)) on

pub not_mute : (a h : Bool) → (a || not h) ≡ false → (a ≡ false) × (h ≡ true)
not_mute true h e = absurd (let clash : true ≡ false = e in cc clash)
not_mute false true e = (refl, refl)
not_mute false false e = absurd (let clash : true ≡ false = e in cc clash)

pub told_metrics : (n : Network) (s : State) (i r l c p m : ℕ) → IsInterface n i r l c → p < length s.prefixes → (metric_at (told n s) i p ≡ Some m) ↔ TellsMetric n s i p m
told_metrics n s i r l c p m its lt = (by_shown (metric_at s i p) refl, back)
  where
    silent : (b : Bool) → mute n s i ≡ b → cond b None (Some 16) ≡ Some m → IsTrue (s.heard i) × (Poisons n i → ⊥) × (m ≡ 16)
    silent true on e = absurd (none-some m e)
    silent false off e =
        let no = not_mute (poisons n i) (s.heard i) off in
        (no.1, λ is. (let clash : false ≡ true = sym no.0 ∙ surely_poisons n i is in cc clash), sym (same_Some 16 m e))

    by_shown : (o : Option ℕ) → metric_at s i p ≡ o → metric_at (told n s) i p ≡ Some m → TellsMetric n s i p m
    by_shown None at e =
        let (heard, keeps, is) = silent (mute n s i) refl (sym (told_silent (mute n s) s i p lt at) ∙ e) in
        inr (heard, at, keeps, is)
    by_shown (Some v) at e = inl (at ∙ sym (told_shown (mute n s) s i p v lt at) ∙ e)

    at_last : (b : Bool) → its.interface.poison ≡ b → (Poisons n i → ⊥) → IsTrue (s.heard i) → mute n s i ≡ false
    at_last true on keeps heard = absurd (keeps (record { interface = _; listed = its.listed; poisons = on }))
    at_last false off keeps heard =
        let off' : poisons n i ≡ false = its_poison n i _ its.listed ∙ off in
        ap (λ (b : Bool). b || not (s.heard i)) off' ∙ ap not heard

    back : TellsMetric n s i p m → metric_at (told n s) i p ≡ Some m
    back (inl shown) = told_shown (mute n s) s i p m lt shown
    back (inr (heard, none, keeps, is)) =
        told_silent (mute n s) s i p lt none
        ∙ ap (λ (b : Bool). cond b None (Some 16)) (at_last its.interface.poison refl keeps heard)
        ∙ ap Some (sym is)

-- a metric below 16 that is told is shown
pub shown_metric : (n : Network) (s : State) (i r l c p m : ℕ) → IsInterface n i r l c → p < length s.prefixes → m < 16 → metric_at (told n s) i p ≡ Some m → metric_at s i p ≡ Some m
shown_metric n s i r l c p m its lt small e = elim ((told_metrics n s i r l c p m its lt).0 e) [ inl shown ↦ shown | inr (heard, none, keeps, is) ↦ absurd (omega (arith, small, is)) ]

-- nothing and 16 offer the same
unwrapped : (poison : Bool) (x : Option ℕ) → unwrap_or (told_of poison x) 16 ≡ unwrap_or x 16
unfolding told_of
unwrapped poison (Some m) = refl
unwrapped true None = refl
unwrapped false None = refl

pub told_offered : (poison : ℕ → Bool) (s : State) (i k : ℕ) → k < length s.prefixes → unwrap_or (metric_at (told_where poison s) i k) 16 ≡ unwrap_or (metric_at s i k) 16
told_offered poison s i k lt = ap (λ (o : Option ℕ). unwrap_or o 16) (told_metric poison s i k lt) ∙ unwrapped (poison i) (metric_at s i k)

pub told_range : (n : Network) (poison : ℕ → Bool) (s : State) → IsInRange n s → IsInRange n (told_where poison s)
unfolding told_of
told_range n poison s range i r l c p m its tells = go (slice_get s.prefixes p) refl tells
  where
    by_poison : (b : Bool) → cond b None (Some 16) ≡ Some m → (1 ≤ m) × (m ≤ 16)
    by_poison true e = absurd (none-some m e)
    by_poison false e = let same : 16 ≡ m = same_Some 16 m e in (omega (arith, same), omega (arith, same))

    by_shown : (o : Option ℕ) → metric_at s i p ≡ o → told_of (poison i) o ≡ Some m → (1 ≤ m) × (m ≤ 16)
    by_shown None at e = by_poison (poison i) e
    by_shown (Some v) at e = range i r l c p m its (at ∙ e)

    go : (o : Option Block) → slice_get s.prefixes p ≡ o → option_and_then (λ b. told_of (poison i) (s.shows i b)) o ≡ Some m → (1 ≤ m) × (m ≤ 16)
    go None at e = absurd (none-some m e)
    go (Some b) at e = by_shown (s.shows i b) (ap (option_and_then (λ q. s.shows i q)) at) e
