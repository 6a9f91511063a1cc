-- Tables stay good as lines are told.
use Rattle.std.proofs.Common.{◌≡◌, ◌⊎◌, ◌<◌, ◌≤◌, ℕ, zero, suc, Bool, true, false, not, List, [], ◌∷◌, ◌++◌, length, Option, Some, None, Result, Ok, Err, cond, arith, refl, sym, subst, ◌∙◌, ap, inl, inr, ◌==◌, ◌&&◌, eq-eqb, eqb-true}
use Rattle.std.specs.Prelude.{slice_get, is_some, nat_le, length}
use Rattle.std.specs.List.{list_any}
use Rattle.std.proofs.lemmas.Bool.{and_parts, or_right}
use Rattle.std.proofs.lemmas.List.{length-append}
use Rattle.std.proofs.lemmas.Option.{none-some, same_Some}
use Rattle.rip_wire.specs.Prefix.{Block}
use Rattle.rip_plan.specs.Network.{Network}
use Rattle.rip_plan.specs.Passes.{same_prefix}
use Rattle.rip_plan.proofs.ItemLemmas.{any_at, any_finds, get_left}
use Rattle.rip_plan.proofs.NumberingLemmas.{same_is, same_self}
use Rattle.rip_table.specs.State.{AreDistinct, is_among, with_prefix}
use Rattle.rip_table.proofs.AfterLemmas.{kept_among, new_among}
use Rattle.rip_table.proofs.PrefixListLemmas.{is_among-item}
use Rattle.rip_routes.specs.declared.error.RoutesCause.{RoutesCause}
use Rattle.rip_routes.specs.declared.error.RoutesCause.TheVariants as causes
use Rattle.rip_routes.specs.declared.next_hop.NextHop.{NextHop}
use Rattle.rip_routes.specs.declared.next_hop.NextHop.TheVariants.{Over, Via}
use Rattle.rip_routes.specs.declared.told.Told.{Told}
use Rattle.rip_routes.specs.declared.told.Way.{Way}
use Rattle.rip_routes.specs.declared.told.Way.TheVariants.{Here, To}
use Rattle.rip_routes.specs.OwnTables.{AreHopsOnce, OwnRoute, OwnTables}
use Rattle.rip_routes.specs.TableFacts.{AreGood, IsGoodRoute, are_some, has_way}
use Rattle.rip_routes.specs.Takes.{is_memory}
use Rattle.rip_routes.specs.Telling.{first_route, has_hop, is_full, route_with, same_hop, tell, tell_at, with_hop, with_told, with_way}
use Rattle.rip_routes.specs.Tolds.{IsTold}

-- ---- lists that grow

pub split_item : {A : Type 0} (xs : List A) (x y : A) (k : ℕ) → slice_get (xs ++ x ∷ []) k ≡ Some y → (slice_get xs k ≡ Some y) ⊎ ((k ≡ length xs) × (y ≡ x))
split_item [] x y zero h = inr (refl, sym (same_Some _ _ h))
split_item [] x y (suc k) h = absurd (none-some y h)
split_item (z ∷ zs) x y zero h = inl h
split_item (z ∷ zs) x y (suc k) h = elim (split_item zs x y k h) [ inl e ↦ inl e | inr e ↦ inr (ap suc e.0, e.1) ]

-- a new item that is not among the others
pub once_more : {A : Type 0} (xs : List A) (x : A) → ((j k : ℕ) (y : A) → slice_get xs j ≡ Some y → slice_get xs k ≡ Some y → j ≡ k) → ((j : ℕ) → slice_get xs j ≡ Some x → ⊥)
    → (j k : ℕ) (y : A) → slice_get (xs ++ x ∷ []) j ≡ Some y → slice_get (xs ++ x ∷ []) k ≡ Some y → j ≡ k
once_more {A} xs x once none j k y h i = by (split_item xs x y j h) (split_item xs x y k i)
  where
    by : (slice_get xs j ≡ Some y) ⊎ ((j ≡ length xs) × (y ≡ x)) → (slice_get xs k ≡ Some y) ⊎ ((k ≡ length xs) × (y ≡ x)) → j ≡ k
    by (inl a) (inl b) = once j k y a b
    by (inl a) (inr b) = absurd (none j (subst (λ (z : A). slice_get xs j ≡ Some z) b.1 a))
    by (inr a) (inl b) = absurd (none k (subst (λ (z : A). slice_get xs k ≡ Some z) a.1 b))
    by (inr a) (inr b) = a.0 ∙ sym b.0

pub distinct_with : (p : Block) (ps : List Block) → AreDistinct ps → AreDistinct (with_prefix p ps)
distinct_with p ps h = by (is_among p ps) refl
  where
    by : (b : Bool) → is_among p ps ≡ b → AreDistinct (cond b ps (ps ++ p ∷ []))
    by true e = h
    by false e = once_more ps p h (λ j at. absurd (cc (sym e ∙ is_among-item ps j p at)))

few_with : (p : Block) (ps : List Block) → length ps ≤ 2048 → (is_among p ps ≡ false → length ps < 2048) → length (with_prefix p ps) ≤ 2048
few_with p ps few room = by (is_among p ps) refl
  where
    by : (b : Bool) → is_among p ps ≡ b → length (cond b ps (ps ++ p ∷ [])) ≤ 2048
    by true e = few
    by false e = omega (arith, room e, length-append ps (p ∷ []))

any_with : (f : Block → Bool) (p : Block) (ps : List Block) → list_any f ps ≡ true → list_any f (with_prefix p ps) ≡ true
any_with f p ps h = by (is_among p ps)
  where
    by : (b : Bool) → list_any f (cond b ps (ps ++ p ∷ [])) ≡ true
    by true = h
    by false = let (k, x, at, passes) = any_finds f ps h in any_at f (ps ++ p ∷ []) k x (get_left ps (p ∷ []) k x at) passes

any_new : (f : Block → Bool) (p : Block) (ps : List Block) → f p ≡ true → list_any f (with_prefix p ps) ≡ true
any_new f p ps h =
    let (k, x, at, passes) = any_finds (same_prefix p) (with_prefix p ps) (new_among ps p) in
    any_at f (with_prefix p ps) k x at (ap f (sym (same_is p x passes)) ∙ h)

-- a prefix of which nothing is told comes last
pub good_prefix : (t : OwnTables) (p : Block) → AreGood t → (is_among p t.prefixes ≡ false → length t.prefixes < 2048) → AreGood (record t { prefixes = with_prefix p t.prefixes })
good_prefix t p h room = record {
  differ = distinct_with p t.prefixes h.differ;
  few = few_with p t.prefixes h.few room;
  told = λ r q route is. let both = h.told r q route is in (both.0, kept_among t.prefixes p q both.1);
  marked = h.marked;
  some = λ r is. any_with (λ q. is_some (t.routes r q)) p t.prefixes (h.some r is);
}

-- ---- routes

pub same_hop_is : (a b : NextHop) → same_hop a b ≡ true → a ≡ b
same_hop_is (Over l) (Over m) h = ap Over (eqb-true l m h)
same_hop_is (Over l) (Via b) h = absurd (cc h)
same_hop_is (Via a) (Over m) h = absurd (cc h)
same_hop_is (Via a) (Via b) h = ap Via (eqb-true a b h)

pub same_hop_self : (a : NextHop) → same_hop a a ≡ true
same_hop_self (Over l) = eq-eqb l l refl
same_hop_self (Via a) = eq-eqb a a refl

hops_once : (hop : NextHop) (hops : List NextHop) → AreHopsOnce hops → AreHopsOnce (with_hop hop hops)
hops_once hop hops h = by (has_hop hop hops) refl
  where
    by : (b : Bool) → has_hop hop hops ≡ b → AreHopsOnce (cond b hops (hops ++ hop ∷ []))
    by true e = h
    by false e = once_more hops hop h (λ j at. absurd (cc (sym e ∙ any_at (same_hop hop) hops j hop at (same_hop_self hop))))

some_more : (hops : List NextHop) (hop : NextHop) → are_some (hops ++ hop ∷ []) ≡ true
some_more [] hop = refl
some_more (h ∷ hops) hop = refl

some_with : (hop : NextHop) (hops : List NextHop) → are_some (with_hop hop hops) ≡ true
some_with hop [] = refl
some_with hop (h ∷ hops) = by (has_hop hop (h ∷ hops))
  where
    by : (b : Bool) → are_some (cond b (h ∷ hops) ((h ∷ hops) ++ hop ∷ [])) ≡ true
    by true = refl
    by false = refl

-- of a route, or of a new one, a way is told
module _ (n : Network) (told : Told) (is : IsTold n told) where
  below : (way : Way) → told.way ≡ Some way → told.metric ≡ 16 → ⊥
  below way e sixteen = none-some way (sym (is.unreachable sixteen) ∙ e)

  way_good : (route : OwnRoute) (way : Option Way) → told.way ≡ way → route.metric ≡ told.metric → (told.metric ≡ 16 → has_way route ≡ false) → AreHopsOnce route.hops → IsGoodRoute (with_way route way)
  way_good route None e same none once = record {
    least = omega (arith, same, is.least);
    most = omega (arith, same, is.most);
    way = λ lt. let (way, some) = is.way (omega (arith, same, lt)) in absurd (none-some way (sym e ∙ some));
    unreachable = λ sixteen. none (sym same ∙ sixteen);
    once = once;
  }
  way_good route (Some Here) e same none once = record {
    least = omega (arith, same, is.least);
    most = omega (arith, same, is.most);
    way = λ lt. refl;
    unreachable = λ sixteen. absurd (below Here e (sym same ∙ sixteen));
    once = once;
  }
  way_good route (Some (To hop)) e same none once = record {
    least = omega (arith, same, is.least);
    most = omega (arith, same, is.most);
    way = λ lt. or_right route.here (are_some (with_hop hop route.hops)) (some_with hop route.hops);
    unreachable = λ sixteen. absurd (below (To hop) e (sym same ∙ sixteen));
    once = hops_once hop route.hops once;
  }

  route_good : (o : Option OwnRoute) → ((route : OwnRoute) → o ≡ Some route → IsGoodRoute route × (route.metric ≡ told.metric)) → IsGoodRoute (route_with o told)
  route_good None h = way_good (first_route told.metric) told.way refl refl (λ _. refl) (λ i j hop at. absurd (none-some hop at))
  route_good (Some route) h =
      let (good, same) = h route refl in
      way_good route told.way refl same (λ sixteen. good.unreachable (same ∙ sixteen)) good.once

-- a line that is told is of a place of which nothing was told, with room, or of its metric
pub told_cases : (t : OwnTables) (told : Told) (o : Option OwnRoute) (u : OwnTables) → tell_at t told o ≡ Ok u
    → ((route : OwnRoute) → o ≡ Some route → route.metric ≡ told.metric) × (o ≡ None → is_full t told.prefix ≡ false)
told_cases t told None u h = (λ route e. absurd (none-some route e), λ _. by (is_full t told.prefix) h)
  where
    by : (b : Bool) → cond b (Err causes.TooManyPrefixes) (Ok (with_told t told)) ≡ Ok u → b ≡ false
    by true e = absurd (cc e)
    by false e = refl
told_cases t told (Some route) u h = (λ other e. subst (λ (x : OwnRoute). x.metric ≡ told.metric) (same_Some _ _ e) (by (route.metric == told.metric) refl h), λ e. absurd (none-some route (sym e)))
  where
    by : (b : Bool) → (route.metric == told.metric) ≡ b → cond b (Ok (with_told t told)) (Err (causes.Changed told.prefix route.metric told.metric)) ≡ Ok u → route.metric ≡ told.metric
    by true e k = eqb-true route.metric told.metric e
    by false e k = absurd (cc k)

-- there is room for its prefix
pub told_room : (t : OwnTables) (told : Told) (u : OwnTables) → AreGood t → tell t told ≡ Ok u → is_among told.prefix t.prefixes ≡ false → length t.prefixes < 2048
told_room t told u good h absent = by (t.routes told.router told.prefix) refl
  where
    not_full : nat_le 2048 (length t.prefixes) && not (is_among told.prefix t.prefixes) ≡ false → length t.prefixes < 2048
    not_full e = grind (arith, e, absent)

    by : (o : Option OwnRoute) → t.routes told.router told.prefix ≡ o → length t.prefixes < 2048
    by None e = not_full ((told_cases t told None u (ap (tell_at t told) (sym e) ∙ h)).1 refl)
    by (Some route) e = absurd (cc (sym absent ∙ (good.told told.router told.prefix route e).1))

-- tables with what a line tells
pub good_told : (n : Network) (t : OwnTables) (told : Told) (u : OwnTables) → AreGood t → IsTold n told → tell t told ≡ Ok u → AreGood (with_told t told)
good_told n t told u good is h = record {
  differ = distinct_with told.prefix t.prefixes good.differ;
  few = few_with told.prefix t.prefixes good.few (told_room t told u good h);
  told = λ r p route e. told_by ((r == told.router) && same_prefix p told.prefix) r p refl route e;
  marked = λ r p route e. mark (r == told.router) r refl p route e;
  some = λ r e. some_by (r == told.router) r refl e;
}
  where
    here : IsGoodRoute (route_with (t.routes told.router told.prefix) told)
    here = route_good n told is (t.routes told.router told.prefix) (λ route e. ((good.told told.router told.prefix route e).0, (told_cases t told (t.routes told.router told.prefix) u h).0 route e))

    told_by : (b : Bool) (r : ℕ) (p : Block) → ((r == told.router) && same_prefix p told.prefix) ≡ b → (route : OwnRoute)
        → cond b (Some (route_with (t.routes told.router told.prefix) told)) (t.routes r p) ≡ Some route → IsGoodRoute route × (is_among p (with_prefix told.prefix t.prefixes) ≡ true)
    told_by true r p e route k = (
      subst IsGoodRoute (same_Some _ _ k) here,
      ap (λ (q : Block). is_among q (with_prefix told.prefix t.prefixes)) (same_is p told.prefix (and_parts (r == told.router) (same_prefix p told.prefix) e).1) ∙ new_among t.prefixes told.prefix,
    )
    told_by false r p e route k = let both = good.told r p route k in (both.0, kept_among t.prefixes told.prefix p both.1)

    mark : (b : Bool) (r : ℕ) → (r == told.router) ≡ b → (p : Block) (route : OwnRoute)
        → cond (b && same_prefix p told.prefix) (Some (route_with (t.routes told.router told.prefix) told)) (t.routes r p) ≡ Some route → cond b true (t.listed r) ≡ true
    mark true r e p route k = refl
    mark false r e p route k = good.marked r p route k

    some_by : (b : Bool) (r : ℕ) → (r == told.router) ≡ b → cond b true (t.listed r) ≡ true
        → list_any (λ p. is_some (cond (b && same_prefix p told.prefix) (Some (route_with (t.routes told.router told.prefix) told)) (t.routes r p))) (with_prefix told.prefix t.prefixes) ≡ true
    some_by true r e k =
        any_new (λ p. is_some (cond (same_prefix p told.prefix) (Some (route_with (t.routes told.router told.prefix) told)) (t.routes r p))) told.prefix t.prefixes
        (ap (λ b. is_some (cond b (Some (route_with (t.routes told.router told.prefix) told)) (t.routes r told.prefix))) (same_self told.prefix))
    some_by false r e k = any_with (λ p. is_some (t.routes r p)) told.prefix t.prefixes (good.some r k)

-- no line is refused for memory
pub tell_no_memory : (t : OwnTables) (told : Told) (cause : RoutesCause) → tell t told ≡ Err cause → is_memory cause ≡ false
tell_no_memory t told cause h = by (t.routes told.router told.prefix) h
  where
    full : (b : Bool) → cond b (Err causes.TooManyPrefixes) (Ok (with_told t told)) ≡ Err cause → is_memory cause ≡ false
    full true e = sym (ap (λ (r : Result OwnTables RoutesCause). elim r [ Ok x ↦ false | Err c ↦ is_memory c ]) e)
    full false e = absurd (cc e)

    changed : (b : Bool) (old : ℕ) → cond b (Ok (with_told t told)) (Err (causes.Changed told.prefix old told.metric)) ≡ Err cause → is_memory cause ≡ false
    changed true old e = absurd (cc e)
    changed false old e = sym (ap (λ (r : Result OwnTables RoutesCause). elim r [ Ok x ↦ false | Err c ↦ is_memory c ]) e)

    by : (o : Option OwnRoute) → tell_at t told o ≡ Err cause → is_memory cause ≡ false
    by None e = full (is_full t told.prefix) e
    by (Some route) e = changed (route.metric == told.metric) route.metric e
