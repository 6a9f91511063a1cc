-- Tables fit a plan as lines are told.
use Rattle.std.proofs.Common.{◌≡◌, ◌⊎◌, ℕ, Bool, true, false, List, [], ◌∷◌, ◌++◌, Option, Some, None, Result, Ok, Err, cond, refl, sym, subst, ap, ◌∙◌, inl, inr, ◌==◌, ◌&&◌, ◌||◌, eqb-true, append_assoc, append-nil}
use Rattle.std.specs.Prelude.{Contains, slice_get}
use Rattle.std.proofs.lemmas.Bool.{and_parts}
use Rattle.std.proofs.lemmas.Option.{none-some, same_Some}
use Rattle.rip_wire.specs.Prefix.{Block}
use Rattle.rip_plan.specs.Network.{Network}
use Rattle.rip_plan.specs.Passes.{same_prefix}
use Rattle.rip_plan.specs.Relations.{IsLawful, IsOn, IsPrefix}
use Rattle.rip_plan.proofs.BelowLemmas.{at_contains, contains_at}
use Rattle.rip_plan.proofs.ItemLemmas.{get_left}
use Rattle.rip_plan.proofs.NumberingLemmas.{same_is}
use Rattle.rip_log.specs.Fields.{fields_of}
use Rattle.rip_table.specs.State.{is_among}
use Rattle.rip_table.proofs.PrefixListLemmas.{is_among-append, is_among-item}
use Rattle.rip_routes.specs.declared.error.RoutesCause.{RoutesCause}
use Rattle.rip_routes.specs.declared.error.RoutesCause.TheVariants as causes
use Rattle.rip_routes.specs.declared.next_hop.NextHop.{NextHop}
use Rattle.rip_routes.specs.declared.next_hop.NextHop.TheVariants.{Over}
use Rattle.rip_routes.specs.declared.told.Told.{Told}
use Rattle.rip_routes.specs.declared.told.Way.{Way}
use Rattle.rip_routes.specs.declared.told.Way.TheVariants.{Here, To}
use Rattle.rip_routes.specs.OwnTables.{FitsOwn, OwnRoute, OwnTables}
use Rattle.rip_routes.specs.RouteLines.{before_comma, told_by_bare}
use Rattle.rip_routes.specs.Telling.{first_route, has_hop, is_full, new_tables, route_with, tell_at, tell_said, with_hop, with_told, with_way}
use Rattle.rip_routes.specs.Tolds.{IsTold}
use Rattle.rip_routes.proofs.OwnLemmas.{split_item}
use Rattle.rip_routes.proofs.ToldLemmas.{line_is}

pub fits_new : (n : Network) → FitsOwn n (new_tables n)
fits_new n = record { others = []; prefixes = sym (append-nil n.prefixes); unplanned = λ k p is. refl; over = λ r l p route e has. absurd (none-some route e) }

told_tables : (t : OwnTables) (told : Told) (o : Option OwnRoute) (u : OwnTables) → tell_at t told o ≡ Ok u → with_told t told ≡ u
told_tables t told None u h = by (is_full t told.prefix) h
  where
    by : (b : Bool) → cond b (Err causes.TooManyPrefixes) (Ok (with_told t told)) ≡ Ok u → with_told t told ≡ u
    by true e = absurd (cc e)
    by false e = cc e
told_tables t told (Some route) u h = by (route.metric == told.metric) h
  where
    by : (b : Bool) → cond b (Ok (with_told t told)) (Err (causes.Changed told.prefix route.metric told.metric)) ≡ Ok u → with_told t told ≡ u
    by true e = cc e
    by false e = absurd (cc e)

hop_of : (hop h : NextHop) (hops : List NextHop) → Contains (with_hop hop hops) h → Contains hops h ⊎ (h ≡ hop)
hop_of hop h hops has = by (has_hop hop hops) has
  where
    last : (k : ℕ) → slice_get (hops ++ hop ∷ []) k ≡ Some h → Contains hops h ⊎ (h ≡ hop)
    last k at = elim (split_item hops hop h k at) [ inl e ↦ inl (contains_at hops k h e) | inr e ↦ inr e.1 ]

    by : (b : Bool) → Contains (cond b hops (hops ++ hop ∷ [])) h → Contains hops h ⊎ (h ≡ hop)
    by true has = inl has
    by false has = let (k, at) = at_contains (hops ++ hop ∷ []) h has in last k at

module _ (n : Network) (t : OwnTables) (told : Told) (fits : FitsOwn n t) (is : IsTold n told) where
  way_over : (route : OwnRoute) (way : Option Way) → told.way ≡ way → ((l : ℕ) → Contains route.hops (Over l) → IsOn n told.router l) → (l : ℕ) → Contains (with_way route way).hops (Over l) → IsOn n told.router l
  way_over route None e known l has = known l has
  way_over route (Some Here) e known l has = known l has
  way_over route (Some (To hop)) e known l has =
      elim (hop_of hop (Over l) route.hops has) [
        | inl old ↦ known l old
        | inr same ↦ is.over l (e ∙ ap (λ (h : NextHop). Some (To h)) (sym same))
      ]

  route_over : (o : Option OwnRoute) → t.routes told.router told.prefix ≡ o → (l : ℕ) → Contains (route_with o told).hops (Over l) → IsOn n told.router l
  route_over None e l has = way_over (first_route told.metric) told.way refl (λ m none. nothing m (at_contains [] (Over m) none)) l has
    where
      nothing : (m : ℕ) → ((k : ℕ) × (slice_get [] k ≡ Some (Over m))) → IsOn n told.router m
      nothing m (k, at) = absurd (none-some (Over m) at)
  route_over (Some route) e l has = way_over route told.way refl (λ m old. fits.over told.router m told.prefix route e old) l has

  grown_fits : (b : Bool) → is_among told.prefix t.prefixes ≡ b
      → (others : List Block) × (cond b t.prefixes (t.prefixes ++ told.prefix ∷ []) ≡ n.prefixes ++ others) × ((k : ℕ) (p : Block) → IsPrefix n k p → is_among p others ≡ false)
  grown_fits true e = (fits.others, fits.prefixes, fits.unplanned)
  grown_fits false e = (
    fits.others ++ told.prefix ∷ [],
    ap (λ ps. ps ++ told.prefix ∷ []) fits.prefixes ∙ append_assoc n.prefixes fits.others (told.prefix ∷ []),
    λ k p planned. is_among-append p fits.others (told.prefix ∷ []) ∙ ap (λ b. b || (same_prefix p told.prefix || false)) (fits.unplanned k p planned) ∙ apart (same_prefix p told.prefix) k p planned refl,
  )
    where
      apart : (b : Bool) (k : ℕ) (p : Block) → IsPrefix n k p → same_prefix p told.prefix ≡ b → (false || (b || false)) ≡ false
      apart false k p planned same = refl
      apart true k p planned same =
          let there : is_among p t.prefixes ≡ true = ap (is_among p) fits.prefixes ∙ is_among-item (n.prefixes ++ fits.others) k p (get_left n.prefixes fits.others k p planned) in
          let clash : false ≡ true = sym e ∙ ap (λ (q : Block). is_among q t.prefixes) (sym (same_is p told.prefix same)) ∙ there in
          absurd (cc clash)

  fits_told : FitsOwn n (with_told t told)
  fits_told =
      let (others, prefixes, unplanned) = grown_fits (is_among told.prefix t.prefixes) refl in
      record { others = others; prefixes = prefixes; unplanned = unplanned; over = λ r l p route e has. by ((r == told.router) && same_prefix p told.prefix) r l p route refl e has }
    where
      by : (b : Bool) (r l : ℕ) (p : Block) (route : OwnRoute) → ((r == told.router) && same_prefix p told.prefix) ≡ b
          → cond b (Some (route_with (t.routes told.router told.prefix) told)) (t.routes r p) ≡ Some route → Contains route.hops (Over l) → IsOn n r l
      by true r l p route at e has =
          let router : r ≡ told.router = eqb-true r told.router (and_parts (r == told.router) (same_prefix p told.prefix) at).0 in
          subst (λ (s : ℕ). IsOn n s l) (sym router) (route_over (t.routes told.router told.prefix) refl l (subst (λ (x : OwnRoute). Contains x.hops (Over l)) (sym (same_Some _ _ e)) has))
      by false r l p route at e has = fits.over r l p route e has

-- tables fit the plan once a line is told
pub fits_said : (n : Network) → IsLawful n → (t u : OwnTables) (bare : List ℕ) → FitsOwn n t → tell_said t (told_by_bare n bare) ≡ Ok u → FitsOwn n u
fits_said n laws t u bare fits h = by (told_by_bare n bare) refl h
  where
    by : (said : Result (Option Told) RoutesCause) → told_by_bare n bare ≡ said → tell_said t said ≡ Ok u → FitsOwn n u
    by (Ok None) e h = let same : t ≡ u = cc h in subst (FitsOwn n) same fits
    by (Ok (Some told)) e h =
        subst (FitsOwn n) (told_tables t told (t.routes told.router told.prefix) u h) (fits_told n t told fits (line_is n laws (fields_of (before_comma bare)) told e))
    by (Err cause) e h = absurd (cc h)
