-- What routes make of tables, one after the other.
use Rattle.std.proofs.Common.{◌≡◌, ◌≢◌, ◌⊎◌, ◌↔◌, ◌<◌, ◌+◌, ℕ, zero, suc, Bool, true, false, List, [], ◌∷◌, ◌++◌, length, Option, Some, None, cond, arith, refl, sym, subst, ◌∙◌, ap, inl, inr, append_assoc, append-nil, ◌==◌, ◌&&◌, eq-eqb, eqb-true}
use mathlib.Core.Path.{fun_ext}
use Rattle.std.specs.Prelude.{slice_get}
use Rattle.std.proofs.lemmas.Bool.{and_from, and_parts}
use Rattle.std.proofs.lemmas.Option.{none-some, slice_get_within}
use Rattle.rip_wire.specs.Prefix.{Block}
use Rattle.rip_plan.specs.Network.{Network}
use Rattle.rip_plan.specs.Relations.{IsPrefix}
use Rattle.rip_plan.specs.Passes.{same_prefix}
use Rattle.rip_plan.proofs.ItemLemmas.{any_at, any_finds, get_left, get_last, get_past}
use Rattle.rip_plan.proofs.NumberingLemmas.{same_is, same_self}
use Rattle.rip_table.specs.State.{is_among, with_prefix}
use Rattle.rip_routes.specs.declared.next_hop.NextHop.{NextHop}
use Rattle.rip_routes.specs.declared.told.Told.{Told}
use Rattle.rip_routes.specs.declared.told.Way.{Way}
use Rattle.rip_routes.specs.declared.told.Way.TheVariants.{Here, To}
use Rattle.rip_routes.specs.OwnTables.{OwnRoute, OwnTables}
use Rattle.rip_routes.specs.RouteText.{AreFirsts, HasOther, HasWay, IsOfPlace, MakePlace, MakeRoute, MakeTables}
use Rattle.rip_routes.specs.Telling.{first_route, has_hop, new_tables, route_with, same_hop, with_hop, with_told, with_way}
use Rattle.rip_routes.proofs.FirstsLemmas.{again_firsts, more_firsts, no_firsts, one_firsts, same_firsts}
use Rattle.rip_routes.proofs.OwnLemmas.{same_hop_is, same_hop_self, split_item}

-- ---- there is one table of them

same_truth : (a b : Bool) → (a ≡ true → b ≡ true) → (b ≡ true → a ≡ true) → a ≡ b
same_truth true b to from = sym (to refl)
same_truth false true to from = from refl
same_truth false false to from = refl

one_route : (tolds : List Told) (r : ℕ) (p : Block) (a b : OwnRoute) → MakeRoute tolds r p a → MakeRoute tolds r p b → a ≡ b
one_route tolds r p a b h k =
    let (i, told, is) = h.some in
    let metric : a.metric ≡ b.metric = sym (h.metric i told is) ∙ k.metric i told is in
    let here : a.here ≡ b.here = same_truth a.here b.here (λ e. k.here.1 (h.here.0 e)) (λ e. h.here.1 (k.here.0 e)) in
    let hops : a.hops ≡ b.hops = one_firsts a.hops b.hops h.hops k.hops in
    ap (λ (m : ℕ). route m a.here a.hops) metric ∙ ap (λ (x : Bool). route b.metric x a.hops) here ∙ ap (λ (l : List NextHop). route b.metric b.here l) hops
  where
    route : ℕ → Bool → List NextHop → OwnRoute
    route m x l = record { metric = m; here = x; hops = l }

one_place : (tolds : List Told) (r : ℕ) (p : Block) (a b : Option OwnRoute) → MakePlace tolds r p a → MakePlace tolds r p b → a ≡ b
one_place tolds r p None None h k = refl
one_place tolds r p None (Some b) h k = let (i, told, is) = k.some in absurd (h i told is)
one_place tolds r p (Some a) None h k = let (i, told, is) = h.some in absurd (k i told is)
one_place tolds r p (Some a) (Some b) h k = ap (λ (x : OwnRoute). Some x) (one_route tolds r p a b h k)

pub one_made : (n : Network) (tolds : List Told) (t u : OwnTables) → MakeTables n tolds t → MakeTables n tolds u → t ≡ u
one_made n tolds t u h k =
    let prefixes : t.prefixes ≡ u.prefixes = h.prefixes ∙ ap (λ ps. n.prefixes ++ ps) (one_firsts h.others k.others h.firsts k.firsts) ∙ sym k.prefixes in
    let listed : t.listed ≡ u.listed = fun_ext (λ r. same_truth (t.listed r) (u.listed r) (λ e. (k.listed r).1 ((h.listed r).0 e)) (λ e. (h.listed r).1 ((k.listed r).0 e))) in
    let routes : t.routes ≡ u.routes = fun_ext (λ r. fun_ext (λ p. one_place tolds r p (t.routes r p) (u.routes r p) (h.routes r p) (k.routes r p))) in
    ap (λ ps. tables ps t.listed t.routes) prefixes ∙ ap (λ f. tables u.prefixes f t.routes) listed ∙ ap (λ f. tables u.prefixes u.listed f) routes
  where
    tables : List Block → (ℕ → Bool) → (ℕ → Block → Option OwnRoute) → OwnTables
    tables ps f g = record { prefixes = ps; listed = f; routes = g }

-- ---- nothing is told

pub new_made : (n : Network) → MakeTables n [] (new_tables n)
new_made n = record {
  others = [];
  prefixes = sym (append-nil n.prefixes);
  firsts = no_firsts (λ k p has. let (told, at, is, other) = has in none-some told at);
  listed = λ r. (λ e. absurd (cc e), λ has. let (k, told, at, is) = has in absurd (none-some told at));
  routes = λ r p k told is. none-some told is.0;
}

-- ---- one more route

module _ (tolds : List Told) (new : Told) where
  abbrev more : List Told
  more = tolds ++ new ∷ []

  of_old : (r : ℕ) (p : Block) (k : ℕ) (told : Told) → IsOfPlace tolds r p k told → IsOfPlace more r p k told
  of_old r p k told is = (get_left tolds (new ∷ []) k told is.0, is.1, is.2)

  of_more : (r : ℕ) (p : Block) (k : ℕ) (told : Told) → IsOfPlace more r p k told → IsOfPlace tolds r p k told ⊎ ((k ≡ length tolds) × (told ≡ new) × (new.router ≡ r) × (new.prefix ≡ p))
  of_more r p k told (at, router, prefix) =
      elim (split_item tolds new told k at) [
        | inl old ↦ inl (old, router, prefix)
        | inr e ↦ inr (e.0, e.1, ap (λ (x : Told). x.router) (sym e.1) ∙ router, ap (λ (x : Told). x.prefix) (sym e.1) ∙ prefix)
      ]

  way_old : (r : ℕ) (p : Block) (k : ℕ) (way : Way) → HasWay tolds r p k way → HasWay more r p k way
  way_old r p k way (told, is, e) = (told, of_old r p k told is, e)

  way_more : (r : ℕ) (p : Block) (k : ℕ) (way : Way) → HasWay more r p k way → HasWay tolds r p k way ⊎ ((k ≡ length tolds) × (new.way ≡ Some way) × (new.router ≡ r) × (new.prefix ≡ p))
  way_more r p k way (told, is, e) =
      elim (of_more r p k told is) [
        | inl old ↦ inl (told, old, e)
        | inr same ↦ inr (same.0, ap (λ (x : Told). x.way) (sym same.1) ∙ e, same.2, same.3)
      ]

  way_low : (r : ℕ) (p : Block) (k : ℕ) (way : Way) → HasWay tolds r p k way → k < length tolds
  way_low r p k way (told, is, e) = slice_get_within tolds k told is.0

  -- a place of which the new one does not tell
  place_kept : (r : ℕ) (p : Block) (o : Option OwnRoute) → (new.router ≡ r → new.prefix ≡ p → ⊥) → MakePlace tolds r p o → MakePlace more r p o
  place_kept r p None other h = λ k told is. elim (of_more r p k told is) [ inl old ↦ h k told old | inr e ↦ other e.2 e.3 ]
  place_kept r p (Some route) other h = record {
    some = let (k, told, is) = h.some in (k, told, of_old r p k told is);
    metric = λ k told is. elim (of_more r p k told is) [ inl old ↦ h.metric k told old | inr e ↦ absurd (other e.2 e.3) ];
    here = (λ e. let (k, has) = h.here.0 e in (k, way_old r p k Here has), λ has. h.here.1 (has.0, back Here has.0 has.1));
    hops = same_firsts route.hops (λ k hop. way_old r p k (To hop)) (λ k hop. back (To hop) k) h.hops;
  }
    where
      back : (way : Way) (k : ℕ) → HasWay more r p k way → HasWay tolds r p k way
      back way k has = elim (way_more r p k way has) [ inl old ↦ old | inr e ↦ absurd (other e.2 e.3) ]

  -- the place of which it tells
  record Part (route : OwnRoute) : Type 0 where
    metric : (k : ℕ) (told : Told) → IsOfPlace tolds new.router new.prefix k told → told.metric ≡ route.metric
    here : (route.here ≡ true) ↔ ((k : ℕ) × HasWay tolds new.router new.prefix k Here)
    hops : AreFirsts (λ k hop. HasWay tolds new.router new.prefix k (To hop)) route.hops

  is_new : IsOfPlace more new.router new.prefix (length tolds) new
  is_new = (get_last tolds new, refl, refl)

  metric_more : (route : OwnRoute) → Part route → route.metric ≡ new.metric → (k : ℕ) (told : Told) → IsOfPlace more new.router new.prefix k told → told.metric ≡ route.metric
  metric_more route h same k told is = elim (of_more new.router new.prefix k told is) [ inl old ↦ h.metric k told old | inr e ↦ ap (λ (x : Told). x.metric) e.1 ∙ sym same ]

  -- a way that is not the new one's
  way_back : (way : Way) (k : ℕ) → new.way ≢ Some way → HasWay more new.router new.prefix k way → HasWay tolds new.router new.prefix k way
  way_back way k other has = elim (way_more new.router new.prefix k way has) [ inl old ↦ old | inr e ↦ absurd (other e.1) ]

  here_kept : (route : OwnRoute) → Part route → new.way ≢ Some Here → (route.here ≡ true) ↔ ((k : ℕ) × HasWay more new.router new.prefix k Here)
  here_kept route h other =
      (λ e. let (k, has) = h.here.0 e in (k, way_old new.router new.prefix k Here has), λ has. h.here.1 (has.0, way_back Here has.0 other has.1))

  hops_kept : (route : OwnRoute) → Part route → ((hop : NextHop) → new.way ≢ Some (To hop)) → AreFirsts (λ k hop. HasWay more new.router new.prefix k (To hop)) route.hops
  hops_kept route h other = same_firsts route.hops (λ k hop. way_old new.router new.prefix k (To hop)) (λ k hop has. way_back (To hop) k (other hop) has) h.hops

  hops_more : (route : OwnRoute) (hop : NextHop) → Part route → new.way ≡ Some (To hop) → AreFirsts (λ k hop. HasWay more new.router new.prefix k (To hop)) (with_hop hop route.hops)
  hops_more route hop h e = by (has_hop hop route.hops) refl
    where
      S : ℕ → NextHop → Type 0
      S k x = HasWay tolds new.router new.prefix k (To x)

      T : ℕ → NextHop → Type 0
      T k x = HasWay more new.router new.prefix k (To x)

      same_way : (x : NextHop) → new.way ≡ Some (To x) → x ≡ hop
      same_way x f = let both : ◌≡◌ {A = Option Way} (Some (To x)) (Some (To hop)) = sym f ∙ e in cc both

      from : (k : ℕ) (x : NextHop) → T k x → S k x ⊎ ((k ≡ length tolds) × (x ≡ hop))
      from k x has = elim (way_more new.router new.prefix k (To x) has) [ inl old ↦ inl old | inr f ↦ inr (f.0, same_way x f.1) ]

      by : (b : Bool) → has_hop hop route.hops ≡ b → AreFirsts T (cond b route.hops (route.hops ++ hop ∷ []))
      by true f =
          let (i, x, at, same) = any_finds (same_hop hop) route.hops f in
          again_firsts {A = NextHop} {S = S} {T = T} (length tolds) hop route.hops (λ k x. way_low new.router new.prefix k (To x)) (λ k x. way_old new.router new.prefix k (To x)) from (new, is_new, e) h.hops i
          (at ∙ ap (λ (y : NextHop). Some y) (sym (same_hop_is hop x same)))
      by false f =
          more_firsts {A = NextHop} {S = S} {T = T} (length tolds) hop route.hops (λ k x. way_low new.router new.prefix k (To x)) (λ k x. way_old new.router new.prefix k (To x)) from (new, is_new, e) h.hops
          (λ i at. let clash = sym f ∙ any_at (same_hop hop) route.hops i hop at (same_hop_self hop) in cc clash)

  way_made : (route : OwnRoute) (way : Option Way) → new.way ≡ way → Part route → route.metric ≡ new.metric → MakeRoute more new.router new.prefix (with_way route way)
  way_made route None e h same = record {
    some = (length tolds, new, is_new);
    metric = metric_more route h same;
    here = here_kept route h (λ f. none-some Here (sym e ∙ f));
    hops = hops_kept route h (λ hop f. none-some (To hop) (sym e ∙ f));
  }
  way_made route (Some Here) e h same = record {
    some = (length tolds, new, is_new);
    metric = metric_more route h same;
    here = (λ f. (length tolds, (new, is_new, e)), λ has. refl);
    hops = hops_kept route h (λ hop f. let clash : ◌≡◌ {A = Option Way} (Some Here) (Some (To hop)) = sym e ∙ f in cc clash);
  }
  way_made route (Some (To hop)) e h same = record {
    some = (length tolds, new, is_new);
    metric = metric_more route h same;
    here = here_kept route h (λ f. let clash : ◌≡◌ {A = Option Way} (Some (To hop)) (Some Here) = sym e ∙ f in cc clash);
    hops = hops_more route hop h e;
  }

  place_made : (o : Option OwnRoute) → MakePlace tolds new.router new.prefix o → ((route : OwnRoute) → o ≡ Some route → route.metric ≡ new.metric) → MakeRoute more new.router new.prefix (route_with o new)
  place_made None h same =
      way_made (first_route new.metric) new.way refl
      (record {
        metric = λ k told is. absurd (h k told is);
        here = (λ e. absurd (cc e), λ has. let (k, (told, is, f)) = has in absurd (h k told is));
        hops = no_firsts (λ k hop has. let (told, is, f) = has in h k told is);
      })
      refl
  place_made (Some route) h same = way_made route new.way refl (record { metric = h.metric; here = h.here; hops = h.hops }) (same route refl)

-- ---- prefixes

split_at : {A : Type 0} (xs ys : List A) (k : ℕ) (x : A) → slice_get (xs ++ ys) k ≡ Some x → (slice_get xs k ≡ Some x) ⊎ ((j : ℕ) × (slice_get ys j ≡ Some x))
split_at [] ys k x h = inr (k, h)
split_at (y ∷ xs) ys zero x h = inl h
split_at (y ∷ xs) ys (suc k) x h = split_at xs ys k x h

pub among_at : (p : Block) (ps : List Block) → is_among p ps ≡ true → (k : ℕ) × (slice_get ps k ≡ Some p)
among_at p ps h = let (k, q, at, same) = any_finds (same_prefix p) ps h in (k, at ∙ ap (λ (x : Block). Some x) (sym (same_is p q same)))

pub at_among : (p : Block) (ps : List Block) (k : ℕ) → slice_get ps k ≡ Some p → is_among p ps ≡ true
at_among p ps k at = any_at (same_prefix p) ps k p at (same_self p)

module _ (n : Network) (tolds : List Told) (new : Told) (t : OwnTables) (h : MakeTables n tolds t) where
  other_old : (k : ℕ) (p : Block) → HasOther n tolds k p → HasOther n (tolds ++ new ∷ []) k p
  other_old k p (told, at, is, other) = (told, get_left tolds (new ∷ []) k told at, is, other)

  other_low : (k : ℕ) (p : Block) → HasOther n tolds k p → k < length tolds
  other_low k p (told, at, is, other) = slice_get_within tolds k told at

  other_more : (k : ℕ) (p : Block) → HasOther n (tolds ++ new ∷ []) k p → HasOther n tolds k p ⊎ ((k ≡ length tolds) × (p ≡ new.prefix))
  other_more k p (told, at, is, other) =
      elim (split_item tolds new told k at) [ inl old ↦ inl (told, old, is, other) | inr e ↦ inr (e.0, sym is ∙ ap (λ (x : Told). x.prefix) e.1) ]

  record Others : Type 0 where
    others : List Block
    prefixes : with_prefix new.prefix t.prefixes ≡ n.prefixes ++ others
    firsts : AreFirsts (HasOther n (tolds ++ new ∷ [])) others

  is_other : ((j : ℕ) → ¬ IsPrefix n j new.prefix) → HasOther n (tolds ++ new ∷ []) (length tolds) new.prefix
  is_other none = (new, get_last tolds new, refl, none)

  abbrev both : Bool → List Block
  both b = cond b t.prefixes (t.prefixes ++ new.prefix ∷ [])

  others_made : Others
  others_made = by (is_among new.prefix t.prefixes) refl
    where
      found : is_among new.prefix t.prefixes ≡ true → (k : ℕ) → slice_get (n.prefixes ++ h.others) k ≡ Some new.prefix → Others
      found e k at =
          let same : with_prefix new.prefix t.prefixes ≡ n.prefixes ++ h.others = ap both e ∙ h.prefixes in
          elim (split_at n.prefixes h.others k new.prefix at) [
            | inl planned ↦ record {
              others = h.others;
              prefixes = same;
              firsts = same_firsts h.others other_old (λ j p has. planned_back k planned j p has) h.firsts;
            }
            | inr there ↦ known e same there.0 there.1
          ]
        where
          planned_back : (k : ℕ) → IsPrefix n k new.prefix → (j : ℕ) (p : Block) → HasOther n (tolds ++ new ∷ []) j p → HasOther n tolds j p
          planned_back k planned j p has = elim (other_more j p has) [ inl old ↦ old | inr f ↦ absurd (has.3 k (planned ∙ ap (λ (x : Block). Some x) (sym f.1))) ]

          known : is_among new.prefix t.prefixes ≡ true → with_prefix new.prefix t.prefixes ≡ n.prefixes ++ h.others → (j : ℕ) → slice_get h.others j ≡ Some new.prefix → Others
          known e same j at =
              let (k, has) = (h.firsts.all new.prefix).0 (j, at) in
              record {
                others = h.others;
                prefixes = same;
                firsts = again_firsts {A = Block} {S = HasOther n tolds} {T = HasOther n (tolds ++ new ∷ [])} (length tolds) new.prefix h.others other_low other_old other_more (is_other has.3) h.firsts j at;
              }

      by : (b : Bool) → is_among new.prefix t.prefixes ≡ b → Others
      by true e = let (k, at) = among_at new.prefix t.prefixes e in found e k (ap (λ ps. slice_get ps k) (sym h.prefixes) ∙ at)
      by false e = record {
        others = h.others ++ new.prefix ∷ [];
        prefixes = ap both e ∙ ap (λ ps. ps ++ new.prefix ∷ []) h.prefixes ∙ append_assoc n.prefixes h.others (new.prefix ∷ []);
        firsts = more_firsts {A = Block} {S = HasOther n tolds} {T = HasOther n (tolds ++ new ∷ [])} (length tolds) new.prefix h.others other_low other_old other_more
            (is_other (λ j at. absent j (get_left n.prefixes h.others j new.prefix at))) h.firsts (λ j at. past j at);
      }
        where
          absent : (j : ℕ) → slice_get (n.prefixes ++ h.others) j ≡ Some new.prefix → ⊥
          absent j at = let clash = sym e ∙ at_among new.prefix t.prefixes j (ap (λ ps. slice_get ps j) h.prefixes ∙ at) in cc clash

          past : (j : ℕ) → slice_get h.others j ≡ Some new.prefix → ⊥
          past j at = absent (length n.prefixes + j) (get_past n.prefixes h.others j (length n.prefixes + j) (omega arith) ∙ at)

  -- one more route makes the tables that are computed
  pub made_more : ((route : OwnRoute) → t.routes new.router new.prefix ≡ Some route → route.metric ≡ new.metric) → MakeTables n (tolds ++ new ∷ []) (with_told t new)
  made_more same = record {
    others = others_made.others;
    prefixes = others_made.prefixes;
    firsts = others_made.firsts;
    listed = λ r. listed (r == new.router) r refl;
    routes = λ r p. route ((r == new.router) && same_prefix p new.prefix) r p refl;
  }
    where
      listed : (b : Bool) (r : ℕ) → (r == new.router) ≡ b
          → (cond b true (t.listed r) ≡ true) ↔ ((k : ℕ) × (told : Told) × (slice_get (tolds ++ new ∷ []) k ≡ Some told) × (told.router ≡ r))
      listed true r e = (λ f. (length tolds, new, get_last tolds new, sym (eqb-true r new.router e)), λ has. refl)
      listed false r e = (
        λ f. let (k, told, at, is) = (h.listed r).0 f in (k, told, get_left tolds (new ∷ []) k told at, is),
        λ has.
            let (k, told, at, is) = has in
            elim (split_item tolds new told k at) [
              | inl old ↦ (h.listed r).1 (k, told, old, is)
              | inr f ↦ let clash = sym e ∙ eq-eqb r new.router (sym is ∙ ap (λ (x : Told). x.router) f.1) in absurd (cc clash)
            ],
      )

      route : (b : Bool) (r : ℕ) (p : Block) → ((r == new.router) && same_prefix p new.prefix) ≡ b
          → MakePlace (tolds ++ new ∷ []) r p (cond b (Some (route_with (t.routes new.router new.prefix) new)) (t.routes r p))
      route true r p e =
          let (router, prefix) = and_parts (r == new.router) (same_prefix p new.prefix) e in
          let made = place_made tolds new (t.routes new.router new.prefix) (h.routes new.router new.prefix) same in
          subst (λ (s : ℕ). MakeRoute (tolds ++ new ∷ []) s p (route_with (t.routes new.router new.prefix) new)) (sym (eqb-true r new.router router))
          (subst (λ (q : Block). MakeRoute (tolds ++ new ∷ []) new.router q (route_with (t.routes new.router new.prefix) new)) (sym (same_is p new.prefix prefix)) made)
      route false r p e =
          place_kept tolds new r p (t.routes r p)
          (λ router prefix.
          let clash = sym e ∙ and_from (r == new.router) (same_prefix p new.prefix) (eq-eqb r new.router (sym router)) (ap (λ (q : Block). same_prefix p q) prefix ∙ same_self p) in
          cc clash)
          (h.routes r p)
