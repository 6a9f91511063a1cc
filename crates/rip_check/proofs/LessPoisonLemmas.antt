-- Where fewer interfaces poison, the same right tables are shown.
use Rattle.std.proofs.Common.{◌≡◌, ℕ, ◌<◌, ◌≤◌, ◌+◌, inl, inr, Bool, true, false, Option, None, Some, length, min, refl, sym, ◌∙◌, ap, subst, arith, slice_get}
use Rattle.std.specs.Option.{option_map_or}
use Rattle.std.proofs.lemmas.Option.{none-some}
use mathlib.Core.Path.{fun_ext}
use Rattle.rip_wire.specs.Prefix.{Block}
use Rattle.rip_plan.specs.Network.{Network}
use Rattle.rip_plan.specs.declared.parts.Interface.{Interface}
use Rattle.rip_plan.specs.Relations.{IsKept, IsLawful, IsLeaf}
use Rattle.rip_plan.specs.PrefixNetworks.{IsNetwork}
use Rattle.rip_plan.proofs.PrefixNetworkLemmas.{prefix_network}
use Rattle.rip_table.specs.State.{State}
use Rattle.rip_check.specs.Networks.{block_at, network_at}
use Rattle.rip_check.specs.declared.way.Way.{Way}
use Rattle.rip_check.specs.declared.way.Way.TheVariants.{Unreachable, Here, Over}
use Rattle.rip_check.specs.Metrics.{metric_at}
use Rattle.rip_check.specs.Settled.{AllRight, Holds}
use Rattle.rip_check.specs.Tables.{FitsWay, IsHiddenRoute, IsLeastOffer, IsSilent, MayHoldBack, MayShow, Offers, Route, Shows, Tables}
use Rattle.rip_check.specs.Told.{EachPoisons, poisons, told, told_of, told_where}
use Rattle.rip_check.proofs.ConverseLemmas.{holds}
use Rattle.rip_check.proofs.PlanLemmas.{kept_own}
use Rattle.rip_check.proofs.ToldTableLemmas.{surely_mute, surely_poisons, told_metric, told_offered}

-- ---- where all poison

told_same : (x : Option ℕ) → told_of true x ≡ x
unfolding told_of
told_same None = refl
told_same (Some m) = refl

pub told_is_shown : (n : Network) (s : State) → EachPoisons n → told n s ≡ s
told_is_shown n s each =
    ap (λ (f : ℕ → Block → Option ℕ). record s { shows = f }) (fun_ext
    (λ i. fun_ext (λ p. ap (λ (b : Bool). told_of b (s.shows i p)) (surely_mute n s i (on i (slice_get n.interfaces i) refl)) ∙ told_same (s.shows i p))))
  where
    on : (i : ℕ) (o : Option Interface) → slice_get n.interfaces i ≡ o → poisons n i ≡ true
    on i None at = ap (λ (o : Option Interface). option_map_or (λ x. x.poison) o true) at
    on i (Some x) at = surely_poisons n i (each i x.router x.link x.cost (record { interface = x; listed = at; router = refl; link = refl; cost = refl }))

-- ---- where fewer poison

-- an interface of which nothing is shown tells nothing before, and nothing or 16 now
data Change (before now : Option ℕ) : Type 0 where
  same : before ≡ now → Change before now
  silent : before ≡ None → now ≡ Some 16 → Change before now

change : (a b : Bool) → (b ≡ true → a ≡ true) → (x : Option ℕ) → Change (told_of a x) (told_of b x)
unfolding told_of
change a b fewer (Some m) = same refl
change true true fewer None = same refl
change false false fewer None = same refl
change true false fewer None = silent refl refl
change false true fewer None = absurd (let clash : false ≡ true = fewer refl in cc clash)

still_shown : (n : Network) (r l p m : ℕ) (w : Way) (before now : Option ℕ) → Change before now → MayShow n r l p m w before → MayShow n r l p m w now
still_shown n r l p m w before now (same e) h = subst (MayShow n r l p m w) e h
still_shown n r l p m Unreachable before now (silent e f) h = inr f
still_shown n r l p m Here before now (silent e f) (inl h) = absurd (none-some m (sym e ∙ h.1))
still_shown n r l p m Here before now (silent e f) (inr h) = inr (h.0, inr f)
still_shown n r l p m (Over k) before now (silent e f) (inl h) = absurd (none-some 16 (sym e ∙ h.1))
still_shown n r l p m (Over k) before now (silent e f) (inr h) = absurd (none-some m (sym e ∙ h.1))

was_silent : (before now : Option ℕ) → Change before now → IsSilent now → IsSilent before
was_silent before now (same e) h = subst IsSilent (sym e) h
was_silent before now (silent e f) h = inl e

still_silent : (before now : Option ℕ) → Change before now → IsSilent before → IsSilent now
still_silent before now (same e) h = subst IsSilent e h
still_silent before now (silent e f) h = inr f

-- a way that is silent where nothing is told, and not to hold back the router's own route
nowhere : (n : Network) (r l p m : ℕ) (w : Way) → (MayHoldBack n r p l → ⊥) → FitsWay n r p m w → (x : Option ℕ) → x ≡ None → MayShow n r l p m w x → (w ≡ Unreachable) × (m ≡ 16)
nowhere n r l p m Unreachable tells fits x e h = (refl, fits)
nowhere n r l p m Here tells fits x e (inl h) = absurd (none-some m (sym e ∙ h.1))
nowhere n r l p m Here tells fits x e (inr h) = absurd (tells h.0)
nowhere n r l p m (Over k) tells fits x e (inl h) = absurd (none-some 16 (sym e ∙ h.1))
nowhere n r l p m (Over k) tells fits x e (inr h) = absurd (none-some m (sym e ∙ h.1))

module _ (n : Network) (s : State) (more fewer : ℕ → Bool) (T : Tables) (plan : IsLawful n) (less : (i : ℕ) → fewer i ≡ true → more i ≡ true) (was : Shows n (told_where more s) T)
    (right : AllRight n s.prefixes T) where
  -- the network of a prefix, and the laws that it keeps
  abbrev net : ℕ → Network
  net p = network_at n s.prefixes p

  its : (p : ℕ) → IsNetwork (net p)
  its p = prefix_network n plan (block_at s.prefixes p)

  changed : (i p : ℕ) → p < length s.prefixes → Change (metric_at (told_where more s) i p) (metric_at (told_where fewer s) i p)
  changed i p lt =
      subst (λ (x : Option ℕ). Change x (metric_at (told_where fewer s) i p)) (sym (told_metric more s i p lt))
      (subst (Change (told_of (more i) (metric_at s i p))) (sym (told_metric fewer s i p lt)) (change (more i) (fewer i) (less i) (metric_at s i p)))

  still_offered : (r l t p v : ℕ) → p < length s.prefixes → Offers (net p) (told_where fewer s) r l t p v → Offers (net p) (told_where more s) r l t p v
  still_offered r l t p v lt o = record {
    neighbour = o.neighbour;
    cost = o.cost;
    here = o.here;
    interface = o.interface;
    its_cost = o.its_cost;
    there = o.there;
    value = o.value ∙ ap (λ (m : ℕ). min 16 (o.cost + m)) (told_offered fewer s o.interface p lt ∙ sym (told_offered more s o.interface p lt));
  }

  offered_still : (r l t p v : ℕ) → p < length s.prefixes → Offers (net p) (told_where more s) r l t p v → Offers (net p) (told_where fewer s) r l t p v
  offered_still r l t p v lt o = record {
    neighbour = o.neighbour;
    cost = o.cost;
    here = o.here;
    interface = o.interface;
    its_cost = o.its_cost;
    there = o.there;
    value = o.value ∙ ap (λ (m : ℕ). min 16 (o.cost + m)) (told_offered more s o.interface p lt ∙ sym (told_offered fewer s o.interface p lt));
  }

  still_least : (r p h : ℕ) → p < length s.prefixes → IsLeastOffer (net p) (told_where more s) r p h → IsLeastOffer (net p) (told_where fewer s) r p h
  still_least r p h lt is = record {
    reached = elim is.reached [ inl e ↦ inl e | inr o ↦ inr (o.0, o.1, offered_still r o.0 o.1 p h lt o.2) ];
    most = is.most;
    least = λ l t v o. is.least l t v (still_offered r l t p v lt o);
  }

  -- where a place with metric 16 holds, nothing less is offered
  none_less : (r p : ℕ) → p < length s.prefixes → (route : Route) → route.metric ≡ 16 → Holds (net p) (told_where more s) r p route → IsLeastOffer (net p) (told_where fewer s) r p 16
  none_less r p lt route e place = record {
    reached = inl refl;
    most = omega arith;
    least = λ l t v o. omega (arith, e, place.choice.least v (inr (inr (takes, (l, t, still_offered r l t p v lt o)))));
  }
    where
      takes : IsKept (net p) r p → ⊥
      takes kept =
          let (k, c, own) = kept_own (net p) r p kept in
          let most : c ≤ 15 = (its p).own_cost_most k p r c own in
          let low : route.metric ≤ c = place.choice.least c (inr (inl (k, inr own))) in
          omega (arith, most, low, e)

  hidden_still : (r i l c p : ℕ) → r < length n.routers → p < length s.prefixes → IsLeaf (net p) r i l c → IsHiddenRoute (net p) (told_where fewer s) r i l p (T r p)
  hidden_still r i l c p router lt leaf =
      let fits = (was.fits r p router lt).fits in
      let hidden = fits.hidden i l c leaf in
      let place = holds n (told_where more s) T plan was right r p router lt in
      record {
        held_back = λ held silent. hidden.held_back held (was_silent _ _ (changed i p lt) silent);
        learned = λ tells shows. learned_still fits.told.way_fits (fits.told.as_told i l c leaf.has) hidden place tells shows (changed i p lt);
      }
    where
      learned_still : FitsWay (net p) r p (T r p).metric (T r p).way → MayShow (net p) r l p (T r p).metric (T r p).way (metric_at (told_where more s) i p)
          → IsHiddenRoute (net p) (told_where more s) r i l p (T r p) → Holds (net p) (told_where more s) r p (T r p) → (MayHoldBack (net p) r p l → ⊥)
          → metric_at (told_where fewer s) i p ≡ Some 16 → Change (metric_at (told_where more s) i p) (metric_at (told_where fewer s) i p)
          → IsLeastOffer (net p) (told_where fewer s) r p (T r p).metric × ((T r p).metric < 16 → (T r p).way ≡ Over l) × ((T r p).metric ≡ 16 → (T r p).way ≡ Unreachable)
      learned_still way_fits shown hidden place tells shows (same e) =
          let old = hidden.learned tells (e ∙ shows) in
          (still_least r p (T r p).metric lt old.0, old.1, old.2)
      learned_still way_fits shown hidden place tells shows (silent e f) =
          let out = nowhere (net p) r l p (T r p).metric (T r p).way tells way_fits _ e shown in (
            subst (IsLeastOffer (net p) (told_where fewer s) r p) (sym out.1) (none_less r p lt (T r p) out.1 place),
            λ small. absurd (omega (arith, small, out.1)),
            λ is. out.0,
          )

  pub fewer_poison : Shows n (told_where fewer s) T
  fewer_poison = record {
    heard = was.heard;
    fits = λ r p router lt.
        let before = was.fits r p router lt in
        record {
          quiet = λ i l c its closed. still_silent _ _ (changed i p lt) (before.quiet i l c its closed);
          fits = record {
            told = record {
              way_fits = before.fits.told.way_fits;
              as_told = λ i l c its. still_shown (net p) r l p (T r p).metric (T r p).way _ _ (changed i p lt) (before.fits.told.as_told i l c its);
            };
            hidden = λ i l c leaf. hidden_still r i l c p router lt leaf;
            lone = before.fits.lone;
          };
        };
  }
