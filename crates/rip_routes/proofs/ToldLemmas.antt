-- What holds of what a line tells.
use Rattle.std.proofs.Common.{◌≡◌, ◌⊎◌, ◌<◌, ◌≤◌, ℕ, Bool, true, false, List, [], ◌∷◌, length, Option, Some, None, Result, Ok, Err, IfOk, IfSome, cond, arith, refl, sym, subst, ◌∙◌, ap, inl, inr, ◌==◌, ◌&&◌, eq-eqb, eqb-true}
use Rattle.std.specs.Prelude.{codes, option_map, unwrap_or, nat_le}
use Rattle.rip_wire.specs.Address.{address_in}
use Rattle.std.specs.Str.{bytes_eq}
use Rattle.std.proofs.lemmas.Bool.{cases_Bool}
use Rattle.std.proofs.lemmas.Option.{none-some, same_Some}
use Rattle.rip_wire.specs.Prefix.{Block, prefix_in}
use Rattle.rip_plan.specs.Network.{Network}
use Rattle.rip_plan.specs.Relations.{IsLawful, IsOn}
use Rattle.rip_routes.specs.declared.error.RoutesCause.{RoutesCause}
use Rattle.rip_routes.specs.declared.error.RoutesCause.TheVariants as causes
use Rattle.rip_routes.specs.declared.next_hop.NextHop.{NextHop}
use Rattle.rip_routes.specs.declared.next_hop.NextHop.TheVariants.{Over, Via}
use Rattle.rip_routes.specs.declared.told.Told.{Told}
use Rattle.rip_routes.specs.declared.told.Way.{Way}
use Rattle.rip_routes.specs.declared.told.Way.TheVariants.{Here, To}
use Rattle.rip_routes.specs.RouteLines.{direct_in, hop_in, is_on_link, is_silent, link_in, metric_in, over_in, router_in, told_alone, told_by, told_by_fields, told_by_line, told_hop, told_of_router, told_rest, told_unreachable, told_with}
use Rattle.rip_routes.specs.Tolds.{IsTold}
use Rattle.rip_routes.proofs.PlanLemmas.{direct_bounds, named_below, on_link_exact}

abbrev Said : Type 0
Said = Result (Option Told) RoutesCause

-- what a choice that says a route has chosen
first_said : (b : Bool) (x : Said) (e : RoutesCause) (told : Told) → cond b x (Err e) ≡ Ok (Some told) → (b ≡ true) × (x ≡ Ok (Some told))
first_said true x e told h = (refl, h)
first_said false x e told h = absurd (cc h)

not_silent : (b : Bool) (x : Said) (told : Told) → cond b (Ok None) x ≡ Ok (Some told) → x ≡ Ok (Some told)
not_silent true x told h = absurd (cc h)
not_silent false x told h = h

one_of : (b : Bool) (x y : Said) (told : Told) → cond b x y ≡ Ok (Some told) → (x ≡ Ok (Some told)) ⊎ (y ≡ Ok (Some told))
one_of true x y told h = inl h
one_of false x y told h = inr h

one_hop : (b c : Bool) (x y : Option NextHop) (hop : NextHop) → cond b x (cond c y None) ≡ Some hop → (x ≡ Some hop) ⊎ (y ≡ Some hop)
one_hop true c x y hop h = inl h
one_hop false true x y hop h = inr h
one_hop false false x y hop h = absurd (none-some hop h)

no_via : (o : Option ℕ) (l : ℕ) → option_map Via o ≡ Some (Over l) → ⊥
no_via None l h = absurd (none-some (Over l) h)
no_via (Some a) l h = cc h

same_told : (a b : Told) → ◌≡◌ {A = Said} (Ok (Some a)) (Ok (Some b)) → a ≡ b
same_told a b h = cc h

pub metric_bounds : (text : List ℕ) (m : ℕ) → metric_in text ≡ Some m → (1 ≤ m) × (m ≤ 16)
metric_bounds [] m h = absurd (none-some m h)
metric_bounds (a ∷ []) m h = grind arith
metric_bounds (a ∷ b ∷ []) m h = grind arith
metric_bounds (a ∷ b ∷ c ∷ rest) m h = absurd (none-some m h)

module _ (n : Network) (laws : IsLawful n) (r : ℕ) (p : Block) (known : r < length n.routers) where
  by_is : (m : ℕ) (way : Way) → 1 ≤ m → m ≤ 16 → ((l : ℕ) → way ≡ To (Over l) → IsOn n r l) → IsTold n (told_by r p m way)
  by_is m way least most over =
      elim (cases_Bool (m == 16)) [
        | inl e ↦ record {
          router = known;
          least = least;
          most = most;
          way = λ lt. absurd (omega (arith, lt, eqb-true m 16 e));
          unreachable = λ _. ap (λ b. cond b None (Some way)) e;
          over = λ l h. absurd (none-some (To (Over l)) (sym (ap (λ b. cond b None (Some way)) e) ∙ h));
        }
        | inr e ↦ record {
          router = known;
          least = least;
          most = most;
          way = λ _. (way, ap (λ b. cond b None (Some way)) e);
          unreachable = λ is. absurd (cc (sym e ∙ eq-eqb m 16 is));
          over = λ l h. over l (same_Some _ _ (sym (ap (λ b. cond b None (Some way)) e) ∙ h));
        }
      ]

  unreachable_is : IsTold n (told_unreachable r p)
  unreachable_is = record {
    router = known;
    least = omega arith;
    most = omega arith;
    way = λ lt. absurd (omega (arith, lt));
    unreachable = λ _. refl;
    over = λ l h. absurd (none-some (To (Over l)) h);
  }

  here_is : (m : ℕ) → 1 ≤ m → m ≤ 16 → IsTold n (told_by r p m Here)
  here_is m least most = by_is m Here least most (λ l h. absurd (cc h))

  here_bounds : (o : Option ℕ) → o ≡ direct_in n r p → (1 ≤ unwrap_or o 1) × (unwrap_or o 1 ≤ 16)
  here_bounds None h = (omega arith, omega arith)
  here_bounds (Some c) h = let bounds = direct_bounds n laws r p c (sym h) in (bounds.0, omega (arith, bounds.1))

  alone_is : (word : List ℕ) (told : Told) → told_alone n r p word ≡ Ok (Some told) → IsTold n told
  alone_is word told h =
      let bounds = here_bounds (direct_in n r p) refl in
      subst (IsTold n) (same_told _ told (first_said (bytes_eq word (codes "here")) _ causes.Way told h).1) (here_is (unwrap_or (direct_in n r p) 1) bounds.0 bounds.1)

  with_is : (word : List ℕ) (o : Option ℕ) (told : Told) → ((m : ℕ) → o ≡ Some m → (1 ≤ m) × (m ≤ 16)) → told_with r p word o ≡ Ok (Some told) → IsTold n told
  with_is word None told bounds h = absurd (cc h)
  with_is word (Some m) told bounds h =
      elim (one_of (bytes_eq word (codes "here")) (Ok (Some (told_by r p m Here))) _ told h) [
        | inl e ↦ let both = bounds m refl in subst (IsTold n) (same_told _ told e) (here_is m both.0 both.1)
        | inr e ↦ subst (IsTold n) (same_told _ told (first_said (bytes_eq word (codes "unreachable") && m == 16) (Ok (Some (told_unreachable r p))) causes.Way told e).1) unreachable_is
      ]

  over_is : (o : Option ℕ) (l : ℕ) → over_in n r o ≡ Some (Over l) → IsOn n r l
  over_is None l h = absurd (none-some (Over l) h)
  over_is (Some k) l h =
      elim (cases_Bool (is_on_link n r k)) [
        | inl e ↦ let same : k ≡ l = cc (rw e at h) in subst (IsOn n r) same ((on_link_exact n r k).0 e)
        | inr e ↦ absurd (none-some (Over l) (rw e at h))
      ]

  hop_is : (word name : List ℕ) (l : ℕ) → hop_in n r word name ≡ Some (Over l) → IsOn n r l
  hop_is word name l h =
      elim (one_hop (bytes_eq word (codes "over")) (bytes_eq word (codes "via")) (over_in n r (link_in n name)) (option_map Via (address_in name)) (Over l) h) [
        | inl e ↦ over_is (link_in n name) l e
        | inr e ↦ absurd (no_via (address_in name) l e)
      ]

  hop_told : (o : Option ℕ) (hop : Option NextHop) (told : Told) → ((m : ℕ) → o ≡ Some m → (1 ≤ m) × (m ≤ 16)) → ((l : ℕ) → hop ≡ Some (Over l) → IsOn n r l)
      → told_hop r p o hop ≡ Ok (Some told) → IsTold n told
  hop_told None hop told bounds over h = absurd (cc h)
  hop_told (Some m) None told bounds over h = absurd (cc h)
  hop_told (Some m) (Some hop) told bounds over h =
      let both = bounds m refl in
      subst (IsTold n) (same_told _ told h) (by_is m (To hop) both.0 both.1 (λ l e. over l (ap (λ (x : NextHop). Some x) (to_hop hop (Over l) e))))
    where
      to_hop : (a b : NextHop) → ◌≡◌ {A = Way} (To a) (To b) → a ≡ b
      to_hop a b e = cc e

  rest_is : (rest : List (List ℕ)) (told : Told) → told_rest n r p rest ≡ Ok (Some told) → IsTold n told
  rest_is [] told h = absurd (cc h)
  rest_is (word ∷ []) told h = alone_is word told h
  rest_is (m ∷ word ∷ []) told h = with_is word (metric_in m) told (metric_bounds m) h
  rest_is (m ∷ word ∷ name ∷ []) told h = hop_told (metric_in m) (hop_in n r word name) told (metric_bounds m) (hop_is word name) h
  rest_is (m ∷ word ∷ name ∷ more ∷ rest) told h = absurd (cc h)

module _ (n : Network) (laws : IsLawful n) where
  place_is : (r : Option ℕ) (p : Option Block) (rest : List (List ℕ)) (told : Told) → ((k : ℕ) → r ≡ Some k → k < length n.routers) → told_of_router n r p rest ≡ Ok (Some told) → IsTold n told
  place_is None p rest told known h = absurd (cc h)
  place_is (Some r) None rest told known h = absurd (cc h)
  place_is (Some r) (Some p) rest told known h = rest_is n laws r p (known r refl) rest told h

  fields_are : (fields : List (List ℕ)) (told : Told) → told_by_fields n fields ≡ Ok (Some told) → IsTold n told
  fields_are [] told h = absurd (cc h)
  fields_are (router ∷ []) told h = absurd (cc h)
  fields_are (router ∷ prefix ∷ rest) told h =
      place_is (router_in n router) (prefix_in prefix) rest told (named_below n.routers laws.router_names_differ router)
      (first_said (nat_le 1 (length rest) && nat_le (length rest) 3) _ causes.Fields told h).1

  pub line_is : (fields : List (List ℕ)) (told : Told) → told_by_line n fields ≡ Ok (Some told) → IsTold n told
  line_is [] told h = absurd (cc h)
  line_is (first ∷ rest) told h = fields_are (first ∷ rest) told (not_silent (is_silent first) (told_by_fields n (first ∷ rest)) told h)

  -- what is told is so
  pub all_told : (said : Said) (fields : List (List ℕ)) → said ≡ told_by_line n fields → IfOk said (λ told. IfSome told (IsTold n))
  all_told (Ok (Some told)) fields h = line_is fields told (sym h)
  all_told (Ok None) fields h = tt
  all_told (Err cause) fields h = tt
