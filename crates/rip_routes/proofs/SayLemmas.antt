-- What a line says in words is what is computed of it.
use Rattle.std.proofs.Common.{◌≡◌, ◌≢◌, ◌⊎◌, ◌↔◌, ◌<◌, ◌≤◌, ◌^◌, ◌-◌, ◌+◌, ℕ, zero, suc, Bool, true, false, List, [], ◌∷◌, ◌++◌, length, Option, Some, None, Result, Ok, Err, cond, arith, refl, sym, subst, ◌∙◌, ap, inl, inr, ◌==◌, ◌&&◌, ◌||◌, eq-eqb, eqb-true}
use Rattle.std.specs.Prelude.{codes, decimal, nat_le, nat_lt, option_and_then, option_map, unwrap_or}
use Rattle.std.specs.List.{AllByRecursion}
use Rattle.std.specs.Fmt.{digits}
use Rattle.std.specs.Str.{bytes_eq}
use Rattle.std.specs.Io.BufRead.{strip_last}
use Rattle.std.proofs.lemmas.Bool.{and_parts, false_from_ne_true, or_cases, or_left, or_right}
use Rattle.std.proofs.lemmas.Option.{none-some, same_Some}
use Rattle.std.proofs.lemmas.Slice.Eq.{bytes_eq-Decides}
use Rattle.rip_wire.specs.Address.{address_in, address_text}
use Rattle.rip_wire.specs.Prefix.{Block, IsBlock, prefix_in, prefix_text}
use Rattle.rip_plan.specs.Names.{number_of_name}
use Rattle.rip_plan.specs.Network.{Network, direct_at, number_of_prefix}
use Rattle.rip_plan.specs.Relations.{IsLawful, IsLinkName, IsRouterName}
use Rattle.rip_plan.proofs.ItemLemmas.{cases_option}
use Rattle.rip_plan.proofs.LookupLemmas.{named_exact, number_of_planned, prefix_of_number}
use Rattle.rip_plan.proofs.PlanAnswerLemmas.{direct_exact}
use Rattle.rip_log.specs.Fields.{fields_of, is_comment}
use Rattle.rip_log.proofs.FieldRelations.{AreFields-fields_of, fields_of-AreFields, IsBare-strip_last, strip_last-IsBare}
use Rattle.rip_log.proofs.LineRelations.{not-eq}
use Rattle.rip_routes.specs.declared.error.RoutesCause.{RoutesCause}
use Rattle.rip_routes.specs.declared.error.RoutesCause.TheVariants as causes
use Rattle.rip_routes.specs.declared.next_hop.NextHop.{NextHop}
use Rattle.rip_routes.specs.declared.next_hop.NextHop.TheVariants.{Over, Via}
use Rattle.rip_routes.specs.declared.told.Told.{Told}
use Rattle.rip_routes.specs.declared.told.Way.{Way}
use Rattle.rip_routes.specs.declared.told.Way.TheVariants.{Here, To}
use Rattle.rip_routes.specs.RouteLines.{before_comma, direct_in, hop_in, is_on_link, is_silent, line_said, link_in, metric_in, over_in, router_in, told_alone, told_by, told_by_bare, told_by_fields, told_by_line, told_hop, told_of_prefix, told_of_router, told_rest, told_unreachable, told_with}
use Rattle.rip_routes.specs.RouteText.{BreakRule, FieldsSay, GiveRoute, GiveWay, HasFields, HasItself, HasRest, IsBeforeComma, IsFromComma, IsMetricText, IsOwnMetric, IsWay, KeepMetric, LineSays, NamesPlace, SaysNothing, TellRoute}
use Rattle.rip_routes.specs.RouteText.BreakRule.{no_metric, no_prefix, no_router, no_way, other_fields}
use Rattle.rip_routes.specs.OwnTables.{OwnTables}
use Rattle.rip_routes.specs.Telling.{tell_line, tell_said}
use Rattle.rip_routes.proofs.PlanLemmas.{direct_bounds, on_link_exact}

abbrev Said : Type 0
Said = Result (Option Told) RoutesCause

-- ---- the fields of a line

comma_byte : (b : ℕ) (bytes front : List ℕ) (x : Bool) → (b == 44) ≡ x → IsBeforeComma bytes front → IsBeforeComma (b ∷ bytes) (cond x [] (b ∷ front))
comma_byte b bytes front true e r = record { no_comma = tt; rest = b ∷ bytes; from = eqb-true b 44 e; whole = refl }
comma_byte b bytes front false e r = record { no_comma = (not-eq b 44 e, r.no_comma); rest = r.rest; from = r.from; whole = ap (λ (l : List ℕ). b ∷ l) r.whole }

before_is : (bytes : List ℕ) → IsBeforeComma bytes (before_comma bytes)
before_is [] = record { no_comma = tt; rest = []; from = tt; whole = refl }
before_is (b ∷ bytes) = comma_byte b bytes (before_comma bytes) (b == 44) refl (before_is bytes)

before_same : (front rest : List ℕ) → AllByRecursion (λ b. b ≢ 44) front → IsFromComma rest → before_comma (front ++ rest) ≡ front
before_same [] [] none from = refl
before_same [] (b ∷ rest) none from = ap (λ x. cond x [] (b ∷ before_comma rest)) (eq-eqb b 44 from)
before_same (b ∷ front) rest none from =
    ap (λ x. cond x [] (b ∷ before_comma (front ++ rest))) (false_from_ne_true (b == 44) (λ e. none.0 (eqb-true b 44 e))) ∙ ap (λ (l : List ℕ). b ∷ l) (before_same front rest none.1 from)

is_before : (bare front : List ℕ) → IsBeforeComma bare front → before_comma bare ≡ front
is_before bare front h = ap before_comma h.whole ∙ before_same front h.rest h.no_comma h.from

has_fields : (line : List ℕ) → length line ≤ 2048 → HasFields line (fields_of (before_comma (strip_last 13 line)))
has_fields line short = record {
  short = short;
  bare = strip_last 13 line;
  is_bare = IsBare-strip_last line;
  front = before_comma (strip_last 13 line);
  is_front = before_is (strip_last 13 line);
  are_fields = AreFields-fields_of (before_comma (strip_last 13 line));
}

same_fields : (line : List ℕ) (fields : List (List ℕ)) → HasFields line fields → fields_of (before_comma (strip_last 13 line)) ≡ fields
same_fields line fields h =
    ap (λ bare. fields_of (before_comma bare)) (strip_last-IsBare line h.bare h.is_bare) ∙ ap fields_of (is_before h.bare h.front h.is_front) ∙ fields_of-AreFields h.front fields h.are_fields

-- ---- lines that say nothing

comment_first : (first : List ℕ) → is_comment (first ∷ []) ≡ true → (more : List ℕ) × (first ≡ 35 ∷ more)
comment_first [] h = absurd (cc h)
comment_first (b ∷ first) h = (first, ap (λ (k : ℕ). k ∷ first) (eqb-true b 35 h))

silent_says : (first : List ℕ) (rest : List (List ℕ)) → is_silent first ≡ true → SaysNothing (first ∷ rest)
silent_says first rest h =
    elim (or_cases (is_comment (first ∷ [])) (bytes_eq first (codes "routes:") || bytes_eq first (codes "expect:")) h) [
      | inl e ↦ inl (comment_first first e)
      | inr e ↦
          elim (or_cases (bytes_eq first (codes "routes:")) (bytes_eq first (codes "expect:")) e) [
            | inl f ↦ inr (inl ((bytes_eq-Decides first (codes "routes:")).0 f))
            | inr f ↦ inr (inr ((bytes_eq-Decides first (codes "expect:")).0 f))
          ]
    ]

says_silent : (first : List ℕ) (rest : List (List ℕ)) → SaysNothing (first ∷ rest) → is_silent first ≡ true
says_silent first rest (inl (more, e)) = or_left (is_comment (first ∷ [])) _ (ap (λ (f : List ℕ). is_comment (f ∷ [])) e)
says_silent first rest (inr (inl e)) = or_right (is_comment (first ∷ [])) _ (or_left (bytes_eq first (codes "routes:")) _ ((bytes_eq-Decides first (codes "routes:")).1 e))
says_silent first rest (inr (inr e)) = or_right (is_comment (first ∷ [])) _ (or_right (bytes_eq first (codes "routes:")) _ ((bytes_eq-Decides first (codes "expect:")).1 e))

-- ---- metrics

digit_text : (m : ℕ) → 1 ≤ m → m ≤ 9 → (m + 48) ∷ [] ≡ decimal m
unfolding digits
digit_text zero least most = absurd (omega (arith, least))
digit_text (suc zero) least most = refl
digit_text (suc (suc zero)) least most = refl
digit_text (suc (suc (suc zero))) least most = refl
digit_text (suc (suc (suc (suc zero)))) least most = refl
digit_text (suc (suc (suc (suc (suc zero))))) least most = refl
digit_text (suc (suc (suc (suc (suc (suc zero)))))) least most = refl
digit_text (suc (suc (suc (suc (suc (suc (suc zero))))))) least most = refl
digit_text (suc (suc (suc (suc (suc (suc (suc (suc zero)))))))) least most = refl
digit_text (suc (suc (suc (suc (suc (suc (suc (suc (suc zero))))))))) least most = refl
digit_text (suc (suc (suc (suc (suc (suc (suc (suc (suc (suc m)))))))))) least most = absurd (omega (arith, most))

ten_text : (m : ℕ) → m ≤ 6 → 49 ∷ (m + 48) ∷ [] ≡ decimal (m + 10)
unfolding digits
ten_text zero most = refl
ten_text (suc zero) most = refl
ten_text (suc (suc zero)) most = refl
ten_text (suc (suc (suc zero))) most = refl
ten_text (suc (suc (suc (suc zero)))) most = refl
ten_text (suc (suc (suc (suc (suc zero))))) most = refl
ten_text (suc (suc (suc (suc (suc (suc zero)))))) most = refl
ten_text (suc (suc (suc (suc (suc (suc (suc m))))))) most = absurd (omega (arith, most))

one_digit : (a m : ℕ) → metric_in (a ∷ []) ≡ Some m → (1 ≤ m) × (m ≤ 9) × (a ≡ m + 48)
one_digit a m h = grind arith

two_digits : (a b m : ℕ) → metric_in (a ∷ b ∷ []) ≡ Some m → (a ≡ 49) × (10 ≤ m) × (m ≤ 16) × (b + 10 ≡ m + 48)
two_digits a b m h = grind arith

metric_says : (text : List ℕ) (m : ℕ) → metric_in text ≡ Some m → IsMetricText text m
metric_says [] m h = absurd (none-some m h)
metric_says (a ∷ []) m h =
    let (least, most, is) = one_digit a m h in
    record { least = least; most = omega (arith, most); spelled = ap (λ (k : ℕ). k ∷ []) is ∙ digit_text m least most }
metric_says (a ∷ b ∷ []) m h =
    let (ten, least, most, is) = two_digits a b m h in
    let low : m - 10 ≤ 6 = omega (arith, most) in
    let second : b ≡ (m - 10) + 48 = omega (arith, is, least) in
    let back : (m - 10) + 10 ≡ m = omega (arith, least) in
    record {
      least = omega (arith, least);
      most = most;
      spelled = ap (λ (k : ℕ). k ∷ b ∷ []) ten ∙ ap (λ (k : ℕ). 49 ∷ k ∷ []) second ∙ ten_text (m - 10) low ∙ ap decimal back;
    }
metric_says (a ∷ b ∷ c ∷ rest) m h = absurd (none-some m h)

metric_of : (m : ℕ) → 1 ≤ m → m ≤ 16 → metric_in (decimal m) ≡ Some m
unfolding digits
metric_of zero least most = absurd (omega (arith, least))
metric_of (suc zero) least most = refl
metric_of (suc (suc zero)) least most = refl
metric_of (suc (suc (suc zero))) least most = refl
metric_of (suc (suc (suc (suc zero)))) least most = refl
metric_of (suc (suc (suc (suc (suc zero))))) least most = refl
metric_of (suc (suc (suc (suc (suc (suc zero)))))) least most = refl
metric_of (suc (suc (suc (suc (suc (suc (suc zero))))))) least most = refl
metric_of (suc (suc (suc (suc (suc (suc (suc (suc zero)))))))) least most = refl
metric_of (suc (suc (suc (suc (suc (suc (suc (suc (suc zero))))))))) least most = refl
metric_of (suc (suc (suc (suc (suc (suc (suc (suc (suc (suc zero)))))))))) least most = refl
metric_of (suc (suc (suc (suc (suc (suc (suc (suc (suc (suc (suc zero))))))))))) least most = refl
metric_of (suc (suc (suc (suc (suc (suc (suc (suc (suc (suc (suc (suc zero)))))))))))) least most = refl
metric_of (suc (suc (suc (suc (suc (suc (suc (suc (suc (suc (suc (suc (suc zero))))))))))))) least most = refl
metric_of (suc (suc (suc (suc (suc (suc (suc (suc (suc (suc (suc (suc (suc (suc zero)))))))))))))) least most = refl
metric_of (suc (suc (suc (suc (suc (suc (suc (suc (suc (suc (suc (suc (suc (suc (suc zero))))))))))))))) least most = refl
metric_of (suc (suc (suc (suc (suc (suc (suc (suc (suc (suc (suc (suc (suc (suc (suc (suc zero)))))))))))))))) least most = refl
metric_of (suc (suc (suc (suc (suc (suc (suc (suc (suc (suc (suc (suc (suc (suc (suc (suc (suc m))))))))))))))))) least most = absurd (omega (arith, most))

says_metric : (text : List ℕ) (m : ℕ) → IsMetricText text m → metric_in text ≡ Some m
says_metric text m h = ap metric_in h.spelled ∙ metric_of m h.least h.most

-- ---- what the crates below say of texts

pub record TextLaws : Type 0 where
  pub prefixes : (text : List ℕ) (p : Block) → (prefix_in text ≡ Some p) ↔ (IsBlock p × (text ≡ prefix_text p))
  pub addresses : (text : List ℕ) (a : ℕ) → (address_in text ≡ Some a) ↔ ((a < 2 ^ 32) × (text ≡ address_text a))

module _ (laws : TextLaws) (n : Network) (lawful : IsLawful n) where
  -- ---- names and direct costs

  router_is : (name : List ℕ) (r : ℕ) → (router_in n name ≡ Some r) ↔ IsRouterName n r name
  router_is name r = named_exact n.routers lawful.router_names_differ name (number_of_name name n.routers) refl r

  link_is : (name : List ℕ) (l : ℕ) → (link_in n name ≡ Some l) ↔ IsLinkName n l name
  link_is name l = named_exact n.links lawful.link_names_differ name (number_of_name name n.links) refl l

  abbrev direct_of : ℕ → Option ℕ → Option ℕ
  direct_of r o = option_and_then (λ k. direct_at r k n.interfaces n.places) o

  itself_of : (r : ℕ) (p : Block) (c : ℕ) → direct_in n r p ≡ Some c → HasItself n r p c
  itself_of r p c h =
      elim (cases_option (number_of_prefix p n.prefixes)) [
        | inl e ↦ absurd (none-some c (sym (ap (direct_of r) e) ∙ h))
        | inr (k, e) ↦ (k, prefix_of_number n p k e, (direct_exact n lawful r k (direct_at r k n.interfaces n.places) refl c).0 (sym (ap (direct_of r) e) ∙ h))
      ]

  of_itself : (r : ℕ) (p : Block) (c : ℕ) → HasItself n r p c → direct_in n r p ≡ Some c
  of_itself r p c (k, is, direct) = ap (direct_of r) (number_of_planned n lawful p k is) ∙ (direct_exact n lawful r k (direct_at r k n.interfaces n.places) refl c).1 direct

  own_is : (r : ℕ) (p : Block) (o : Option ℕ) → direct_in n r p ≡ o → IsOwnMetric n r p (unwrap_or o 1)
  own_is r p None e = inr (λ c has. none-some c (sym e ∙ of_itself r p c has), refl)
  own_is r p (Some c) e = inl (itself_of r p c e)

  is_own : (r : ℕ) (p : Block) (m : ℕ) (o : Option ℕ) → direct_in n r p ≡ o → IsOwnMetric n r p m → unwrap_or o 1 ≡ m
  is_own r p m None e (inl has) = absurd (none-some m (sym e ∙ of_itself r p m has))
  is_own r p m (Some c) e (inl has) = same_Some _ _ (sym e ∙ of_itself r p m has)
  is_own r p m None e (inr (none, one)) = sym one
  is_own r p m (Some c) e (inr (none, one)) = absurd (none c (itself_of r p c e))

  own_low : (r : ℕ) (p : Block) (m : ℕ) → IsOwnMetric n r p m → m < 16
  own_low r p m (inl has) = let bounds = direct_bounds n lawful r p m (of_itself r p m has) in omega (arith, bounds.1)
  own_low r p m (inr (none, one)) = omega (arith, one)

  -- ---- ways

  module _ (r : ℕ) (p : Block) where
    abbrev said : ℕ → Option Way → Said
    said m way = Ok (Some (record { router = r; prefix = p; metric = m; way = way }))

    kept : (m : ℕ) (way : Way) → m < 16 → ◌≡◌ {A = Said} (Ok (Some (told_by r p m way))) (said m (Some way))
    kept m way low = ap (λ b. said m (cond b None (Some way))) (false_from_ne_true (m == 16) (λ e. omega (arith, low, eqb-true m 16 e)))

    dropped : (m : ℕ) (way : Way) → m ≡ 16 → ◌≡◌ {A = Said} (Ok (Some (told_by r p m way))) (said m None)
    dropped m way is = ap (λ b. said m (cond b None (Some way))) (eq-eqb m 16 is)

    -- from the words to what is computed
    way_told : (text : List ℕ) (words : List (List ℕ)) (m : ℕ) (way : Way) → metric_in text ≡ Some m → IsWay n r words way → told_rest n r p (text ∷ words) ≡ Ok (Some (told_by r p m way))
    way_told text words m Here e is = ap (λ ws. told_rest n r p (text ∷ ws)) is ∙ ap (told_with r p (codes "here")) e
    way_told text words m (To (Over l)) e (name, is, named, on) =
        ap (λ ws. told_rest n r p (text ∷ ws)) is
        ∙ ap (λ o. told_hop r p o (over_in n r (link_in n name))) e
        ∙ ap (λ o. told_hop r p (Some m) (over_in n r o)) ((link_is name l).1 named)
        ∙ ap (λ b. told_hop r p (Some m) (cond b (Some (Over l)) None)) ((on_link_exact n r l).1 on)
    way_told text words m (To (Via a)) e (fits, is) =
        ap (λ ws. told_rest n r p (text ∷ ws)) is
        ∙ ap (λ o. told_hop r p o (option_map Via (address_in (address_text a)))) e
        ∙ ap (λ o. told_hop r p (Some m) (option_map Via o)) ((laws.addresses (address_text a) a).1 (fits, refl))

    gives_told : (text : List ℕ) (words : List (List ℕ)) (m : ℕ) (way : Option Way) → metric_in text ≡ Some m → GiveWay n r words m way → told_rest n r p (text ∷ words) ≡ said m way
    gives_told text words m (Some way) e (low, is) = way_told text words m way e is ∙ kept m way low
    gives_told text words m None e (sixteen, inr (way, is)) = way_told text words m way e is ∙ dropped m way sixteen
    gives_told text words m None e (sixteen, inl is) =
        ap (λ ws. told_rest n r p (text ∷ ws)) is
        ∙ ap (told_with r p (codes "unreachable")) e
        ∙ ap (λ b. cond b (Ok (Some (told_unreachable r p))) (Err causes.Way)) (eq-eqb m 16 sixteen)
        ∙ ap (λ (k : ℕ). said k None) (sym sixteen)

    route_told : (rest : List (List ℕ)) (m : ℕ) (way : Option Way) → GiveRoute n r p rest m way → told_rest n r p rest ≡ said m way
    route_told rest m way (inl (is, own, here)) =
        ap (told_rest n r p) is
        ∙ ap (λ (k : ℕ). Ok (Some (told_by r p k Here))) (is_own r p m (direct_in n r p) refl own)
        ∙ kept m Here (own_low r p m own)
        ∙ ap (said m) (sym here)
    route_told rest m way (inr (text, words, is, metric, gives)) = ap (told_rest n r p) is ∙ gives_told text words m way (says_metric text m metric) gives

    -- from what is computed to the words
    data RestSays (rest : List (List ℕ)) : Said → Type 0 where
      route : (told : Told) → told.router ≡ r → told.prefix ≡ p → GiveRoute n r p rest told.metric told.way → RestSays rest (Ok (Some told))
      metric_missing : ¬ KeepMetric rest → RestSays rest (Err causes.Metric)
      way_missing : KeepMetric rest → RestSays rest (Err causes.Way)

    told_way : (text : List ℕ) (words : List (List ℕ)) (m : ℕ) (way : Way) → metric_in text ≡ Some m → IsWay n r words way → RestSays (text ∷ words) (Ok (Some (told_by r p m way)))
    told_way text words m way e is = route (told_by r p m way) refl refl (inr (text, words, refl, metric_says text m e, by (m == 16) refl))
      where
        by : (b : Bool) → (m == 16) ≡ b → GiveWay n r words m (cond b None (Some way))
        by true t = (eqb-true m 16 t, inr (way, is))
        by false t = let most = (metric_says text m e).most in let other = not-eq m 16 t in (omega (arith, most, other), is)

    rest_one : (word : List ℕ) → RestSays (word ∷ []) (told_alone n r p word)
    rest_one word = by (bytes_eq word (codes "here")) refl
      where
        by : (b : Bool) → bytes_eq word (codes "here") ≡ b → RestSays (word ∷ []) (cond b (Ok (Some (told_by r p (unwrap_or (direct_in n r p) 1) Here))) (Err causes.Way))
        by true e =
            let own = own_is r p (direct_in n r p) refl in
            let low = own_low r p (unwrap_or (direct_in n r p) 1) own in
            let other = false_from_ne_true (unwrap_or (direct_in n r p) 1 == 16) (λ t. omega (arith, low, eqb-true (unwrap_or (direct_in n r p) 1) 16 t)) in
            route (told_by r p (unwrap_or (direct_in n r p) 1) Here) refl refl (inl (ap (λ (w : List ℕ). w ∷ []) ((bytes_eq-Decides word (codes "here")).0 e), own, ap (λ b. cond b None (Some Here)) other))
        by false e = way_missing tt

    metric_kept : (text word : List ℕ) (words : List (List ℕ)) (m : ℕ) → metric_in text ≡ Some m → KeepMetric (text ∷ word ∷ words)
    metric_kept text word words m e = (m, metric_says text m e)

    metric_missed : (text word : List ℕ) (words : List (List ℕ)) → metric_in text ≡ None → ¬ KeepMetric (text ∷ word ∷ words)
    metric_missed text word words e (m, is) = none-some m (sym e ∙ says_metric text m is)

    rest_two : (text word : List ℕ) (o : Option ℕ) → metric_in text ≡ o → RestSays (text ∷ word ∷ []) (told_with r p word o)
    rest_two text word None e = metric_missing (metric_missed text word [] e)
    rest_two text word (Some m) e = by (bytes_eq word (codes "here")) refl
      where
        last : (b : Bool) → (bytes_eq word (codes "unreachable") && m == 16) ≡ b → RestSays (text ∷ word ∷ []) (cond b (Ok (Some (told_unreachable r p))) (Err causes.Way))
        last true t =
            let (word_is, m_is) = and_parts (bytes_eq word (codes "unreachable")) (m == 16) t in
            let sixteen = eqb-true m 16 m_is in
            route (told_unreachable r p) refl refl (inr (
              text,
              word ∷ [],
              refl,
              subst (IsMetricText text) sixteen (metric_says text m e),
              (refl, inl (ap (λ (w : List ℕ). w ∷ []) ((bytes_eq-Decides word (codes "unreachable")).0 word_is))),
            ))
        last false t = way_missing (metric_kept text word [] m e)

        by : (b : Bool) → bytes_eq word (codes "here") ≡ b
            → RestSays (text ∷ word ∷ []) (cond b (Ok (Some (told_by r p m Here))) (cond (bytes_eq word (codes "unreachable") && m == 16) (Ok (Some (told_unreachable r p))) (Err causes.Way)))
        by true t = told_way text (word ∷ []) m Here e (ap (λ (w : List ℕ). w ∷ []) ((bytes_eq-Decides word (codes "here")).0 t))
        by false t = last (bytes_eq word (codes "unreachable") && m == 16) refl

    hop_way : (word name : List ℕ) (hop : NextHop) → hop_in n r word name ≡ Some hop → IsWay n r (word ∷ name ∷ []) (To hop)
    hop_way word name hop h = by (bytes_eq word (codes "over")) refl (bytes_eq word (codes "via")) refl h
      where
        over : word ≡ codes "over" → (o : Option ℕ) → link_in n name ≡ o → over_in n r o ≡ Some hop → IsWay n r (word ∷ name ∷ []) (To hop)
        over is None e k = absurd (none-some hop k)
        over is (Some l) e k = on (is_on_link n r l) refl k
          where
            on : (b : Bool) → is_on_link n r l ≡ b → cond b (Some (Over l)) None ≡ Some hop → IsWay n r (word ∷ name ∷ []) (To hop)
            on true t k =
                subst (λ (h : NextHop). IsWay n r (word ∷ name ∷ []) (To h)) (same_Some _ _ k)
                (name, ap (λ (w : List ℕ). w ∷ name ∷ []) is, (link_is name l).0 e, (on_link_exact n r l).0 t)
            on false t k = absurd (none-some hop k)

        via : word ≡ codes "via" → (o : Option ℕ) → address_in name ≡ o → option_map Via o ≡ Some hop → IsWay n r (word ∷ name ∷ []) (To hop)
        via is None e k = absurd (none-some hop k)
        via is (Some a) e k =
            let (fits, text) = (laws.addresses name a).0 e in
            subst (λ (h : NextHop). IsWay n r (word ∷ name ∷ []) (To h)) (same_Some _ _ k)
            (fits, ap (λ (w : List ℕ). w ∷ name ∷ []) is ∙ ap (λ (t : List ℕ). codes "via" ∷ t ∷ []) text)

        by : (b : Bool) → bytes_eq word (codes "over") ≡ b → (c : Bool) → bytes_eq word (codes "via") ≡ c
            → cond b (over_in n r (link_in n name)) (cond c (option_map Via (address_in name)) None) ≡ Some hop → IsWay n r (word ∷ name ∷ []) (To hop)
        by true s c t k = over ((bytes_eq-Decides word (codes "over")).0 s) (link_in n name) refl k
        by false s true t k = via ((bytes_eq-Decides word (codes "via")).0 t) (address_in name) refl k
        by false s false t k = absurd (none-some hop k)

    rest_three : (text word name : List ℕ) (o : Option ℕ) (hop : Option NextHop) → metric_in text ≡ o → hop_in n r word name ≡ hop → RestSays (text ∷ word ∷ name ∷ []) (told_hop r p o hop)
    rest_three text word name None hop e f = metric_missing (metric_missed text word (name ∷ []) e)
    rest_three text word name (Some m) None e f = way_missing (metric_kept text word (name ∷ []) m e)
    rest_three text word name (Some m) (Some hop) e f = told_way text (word ∷ name ∷ []) m (To hop) e (hop_way word name hop f)

    rest_says : (rest : List (List ℕ)) → 1 ≤ length rest → length rest ≤ 3 → RestSays rest (told_rest n r p rest)
    rest_says [] least most = absurd (omega (arith, least))
    rest_says (word ∷ []) least most = rest_one word
    rest_says (text ∷ word ∷ []) least most = rest_two text word (metric_in text) refl
    rest_says (text ∷ word ∷ name ∷ []) least most = rest_three text word name (metric_in text) (hop_in n r word name) refl refl
    rest_says (text ∷ word ∷ name ∷ more ∷ rest) least most = absurd (omega (arith, most))

    -- a route keeps the rule of metrics
    route_keeps : (rest : List (List ℕ)) (m : ℕ) (way : Option Way) → GiveRoute n r p rest m way → KeepMetric rest
    route_keeps rest m way (inl (is, own, here)) = subst KeepMetric (sym is) tt
    route_keeps rest m way (inr (text, [], is, metric, gives)) = subst KeepMetric (sym is) tt
    route_keeps rest m way (inr (text, word ∷ words, is, metric, gives)) = subst KeepMetric (sym is) (m, metric)

    metric_refused : (rest : List (List ℕ)) → 1 ≤ length rest → length rest ≤ 3 → ¬ KeepMetric rest → told_rest n r p rest ≡ Err causes.Metric
    metric_refused rest least most none = by (told_rest n r p rest) (rest_says rest least most)
      where
        by : (x : Said) → RestSays rest x → x ≡ Err causes.Metric
        by x (route told router prefix gives) = absurd (none (route_keeps rest told.metric told.way gives))
        by x (metric_missing missing) = refl
        by x (way_missing keeps) = absurd (none keeps)

    way_refused : (rest : List (List ℕ)) → 1 ≤ length rest → length rest ≤ 3 → KeepMetric rest → ((m : ℕ) (way : Option Way) → ¬ GiveRoute n r p rest m way) → told_rest n r p rest ≡ Err causes.Way
    way_refused rest least most keeps none = by (told_rest n r p rest) (rest_says rest least most)
      where
        by : (x : Said) → RestSays rest x → x ≡ Err causes.Way
        by x (route told router prefix gives) = absurd (none told.metric told.way gives)
        by x (metric_missing missing) = absurd (missing keeps)
        by x (way_missing keeps) = refl

  -- ---- fields

  says_no : (fields : List (List ℕ)) → ¬ SaysNothing fields → told_by_line n fields ≡ told_by_fields n fields
  says_no [] says = absurd (says tt)
  says_no (first ∷ rest) says = ap (λ b. cond b (Ok None) (told_by_fields n (first ∷ rest))) (false_from_ne_true (is_silent first) (λ e. says (silent_says first rest e)))

  between : (k : ℕ) → 1 ≤ k → k ≤ 3 → (nat_le 1 k && nat_le k 3) ≡ true
  between k least most = grind (arith, least, most)

  rest_read : (fields : List (List ℕ)) (router prefix : List ℕ) (rest : List (List ℕ)) → HasRest fields router prefix rest → told_by_fields n fields ≡ told_of_router n (router_in n router) (prefix_in prefix) rest
  rest_read fields router prefix rest has =
      ap (told_by_fields n) has.whole ∙ ap (λ b. cond b (told_of_router n (router_in n router) (prefix_in prefix) rest) (Err causes.Fields)) (between (length rest) has.least has.most)

  place_read : (fields : List (List ℕ)) (r : ℕ) (p : Block) (rest : List (List ℕ)) → NamesPlace n fields r p rest → told_by_fields n fields ≡ told_rest n r p rest
  place_read fields r p rest h =
      rest_read fields h.router h.prefix rest h.has
      ∙ ap (λ o. told_of_router n o (prefix_in h.prefix) rest) ((router_is h.router r).1 h.named)
      ∙ ap (λ o. told_of_prefix n r o rest) ((laws.prefixes h.prefix p).1 (h.is_prefix.is_block, h.is_prefix.spelled))

  none_of : {A : Type 0} (o : Option A) → ((x : A) → o ≡ Some x → ⊥) → o ≡ None
  none_of None h = refl
  none_of (Some x) h = absurd (h x refl)

  few_fields : (fields : List (List ℕ)) → (length fields < 3) ⊎ (5 < length fields) → told_by_fields n fields ≡ Err causes.Fields
  few_fields [] h = refl
  few_fields (a ∷ []) h = refl
  few_fields (a ∷ b ∷ rest) h =
      ap (λ x. cond x (told_of_router n (router_in n a) (prefix_in b) rest) (Err causes.Fields)) (elim h [ inl low ↦ low_not (length rest) low | inr high ↦ high_not (length rest) high ])
    where
      low_not : (k : ℕ) → suc (suc k) < 3 → (nat_le 1 k && nat_le k 3) ≡ false
      low_not k low = grind (arith, low)

      high_not : (k : ℕ) → 5 < suc (suc k) → (nat_le 1 k && nat_le k 3) ≡ false
      high_not k high = grind (arith, high)

  -- from the words to what is computed
  broken : (fields : List (List ℕ)) (cause : RoutesCause) → BreakRule n fields cause → told_by_fields n fields ≡ Err cause
  broken fields cause (other_fields h) = few_fields fields h
  broken fields cause (no_router router prefix rest has none) =
      rest_read fields router prefix rest has ∙ ap (λ o. told_of_router n o (prefix_in prefix) rest) (none_of (router_in n router) (λ r e. none r ((router_is router r).0 e)))
  broken fields cause (no_prefix router prefix rest has r named none) =
      rest_read fields router prefix rest has
      ∙ ap (λ o. told_of_router n o (prefix_in prefix) rest) ((router_is router r).1 named)
      ∙ ap (λ o. told_of_prefix n r o rest) (none_of (prefix_in prefix) (λ p e. let both = (laws.prefixes prefix p).0 e in none p (record { is_block = both.0; spelled = both.1 })))
  broken fields cause (no_metric r p rest place none) = place_read fields r p rest place ∙ metric_refused r p rest place.has.least place.has.most none
  broken fields cause (no_way r p rest place keeps none) = place_read fields r p rest place ∙ way_refused r p rest place.has.least place.has.most keeps none

  fields_told : (fields : List (List ℕ)) (x : Said) → FieldsSay n fields x → told_by_line n fields ≡ x
  fields_told [] (Ok None) h = refl
  fields_told (first ∷ rest) (Ok None) h = ap (λ b. cond b (Ok None) (told_by_fields n (first ∷ rest))) (says_silent first rest h)
  fields_told fields (Ok (Some told)) (says, h) =
      says_no fields says ∙ place_read fields told.router told.prefix h.rest h.place ∙ route_told told.router told.prefix h.rest told.metric told.way h.gives
  fields_told fields (Err cause) (says, h) = says_no fields says ∙ broken fields cause h

  -- from what is computed to the words
  abbrev Speak : List (List ℕ) → Said → Type 0
  Speak fields (Ok None) = ⊥
  Speak fields (Ok (Some told)) = TellRoute n fields told
  Speak fields (Err cause) = BreakRule n fields cause

  rest_speaks : (fields : List (List ℕ)) (r : ℕ) (p : Block) (rest : List (List ℕ)) → NamesPlace n fields r p rest → (x : Said) → told_rest n r p rest ≡ x → RestSays r p rest x → Speak fields x
  rest_speaks fields r p rest place x e (route told router prefix gives) = record {
    rest = rest;
    place = subst (λ (s : ℕ). NamesPlace n fields s told.prefix rest) (sym router) (subst (λ (q : Block). NamesPlace n fields r q rest) (sym prefix) place);
    gives = subst (λ (s : ℕ). GiveRoute n s told.prefix rest told.metric told.way) (sym router) (subst (λ (q : Block). GiveRoute n r q rest told.metric told.way) (sym prefix) gives);
  }
  rest_speaks fields r p rest place x e (metric_missing none) = no_metric r p rest place none
  rest_speaks fields r p rest place x e (way_missing keeps) = no_way r p rest place keeps (λ m way gives. let clash = sym e ∙ route_told r p rest m way gives in cc clash)

  place_speaks : (fields : List (List ℕ)) (router prefix : List ℕ) (rest : List (List ℕ)) → HasRest fields router prefix rest
      → (o : Option ℕ) → router_in n router ≡ o → (q : Option Block) → prefix_in prefix ≡ q → Speak fields (told_of_router n o q rest)
  place_speaks fields router prefix rest has None e q f = no_router router prefix rest has (λ r named. none-some r (sym e ∙ (router_is router r).1 named))
  place_speaks fields router prefix rest has (Some r) e None f =
      no_prefix router prefix rest has r ((router_is router r).0 e) (λ p is. none-some p (sym f ∙ (laws.prefixes prefix p).1 (is.is_block, is.spelled)))
  place_speaks fields router prefix rest has (Some r) e (Some p) f =
      let both = (laws.prefixes prefix p).0 f in
      rest_speaks fields r p rest
      (record { router = router; prefix = prefix; has = has; named = (router_is router r).0 e; is_prefix = record { is_block = both.0; spelled = both.1 } })
      (told_rest n r p rest) refl (rest_says r p rest has.least has.most)

  speaks : (fields : List (List ℕ)) → Speak fields (told_by_fields n fields)
  speaks [] = other_fields (inl (omega arith))
  speaks (a ∷ []) = other_fields (inl (omega arith))
  speaks (a ∷ b ∷ rest) = by (nat_le 1 (length rest) && nat_le (length rest) 3) refl
    where
      is_between : (k : ℕ) → (nat_le 1 k && nat_le k 3) ≡ true → (1 ≤ k) × (k ≤ 3)
      is_between k h = grind (arith, h)

      is_out : (k : ℕ) → (nat_le 1 k && nat_le k 3) ≡ false → (suc (suc k) < 3) ⊎ (5 < suc (suc k))
      is_out k h = grind (arith, h)

      by : (x : Bool) → (nat_le 1 (length rest) && nat_le (length rest) 3) ≡ x → Speak (a ∷ b ∷ rest) (cond x (told_of_router n (router_in n a) (prefix_in b) rest) (Err causes.Fields))
      by true e =
          let bounds = is_between (length rest) e in
          place_speaks (a ∷ b ∷ rest) a b rest (record { whole = refl; least = bounds.0; most = bounds.1 }) (router_in n a) refl (prefix_in b) refl
      by false e = other_fields (is_out (length rest) e)

  speak_says : (fields : List (List ℕ)) (x : Said) → ¬ SaysNothing fields → Speak fields x → FieldsSay n fields x
  speak_says fields (Ok None) says h = absurd h
  speak_says fields (Ok (Some told)) says h = (says, h)
  speak_says fields (Err cause) says h = (says, h)

  fields_say : (fields : List (List ℕ)) → FieldsSay n fields (told_by_line n fields)
  fields_say [] = tt
  fields_say (first ∷ rest) = by (is_silent first) refl
    where
      by : (b : Bool) → is_silent first ≡ b → FieldsSay n (first ∷ rest) (cond b (Ok None) (told_by_fields n (first ∷ rest)))
      by true e = silent_says first rest e
      by false e = speak_says (first ∷ rest) (told_by_fields n (first ∷ rest)) (λ says. let clash = sym e ∙ says_silent first rest says in cc clash) (speaks (first ∷ rest))

  -- ---- lines

  pub line_says_it : (line : List ℕ) → LineSays n line (line_said n line)
  line_says_it line = by (nat_lt 2048 (length line)) refl
    where
      long : nat_lt 2048 (length line) ≡ true → 2048 < length line
      long e = grind (arith, e)

      short : nat_lt 2048 (length line) ≡ false → length line ≤ 2048
      short e = grind (arith, e)

      by : (b : Bool) → nat_lt 2048 (length line) ≡ b → LineSays n line (cond b (Err causes.LongLine) (told_by_bare n (strip_last 13 line)))
      by true e = inl (long e, refl)
      by false e = let fields = fields_of (before_comma (strip_last 13 line)) in inr (fields, has_fields line (short e), fields_say fields)

  pub line_is_said : (line : List ℕ) (x : Said) → LineSays n line x → line_said n line ≡ x
  line_is_said line x (inl (long, is)) = ap (λ b. cond b (Err causes.LongLine) (told_by_bare n (strip_last 13 line))) (over long) ∙ sym is
    where
      over : 2048 < length line → nat_lt 2048 (length line) ≡ true
      over h = grind (arith, h)
  line_is_said line x (inr (fields, has, says)) =
      ap (λ b. cond b (Err causes.LongLine) (told_by_bare n (strip_last 13 line))) (within has.short) ∙ ap (told_by_line n) (same_fields line fields has) ∙ fields_told fields x says
    where
      within : length line ≤ 2048 → nat_lt 2048 (length line) ≡ false
      within h = grind (arith, h)

  pub line_says_by : (line : List ℕ) (x : Said) → line_said n line ≡ x → LineSays n line x
  line_says_by line x e = subst (LineSays n line) e (line_says_it line)

-- a line is told by what it says
pub tells_said : (n : Network) (t : OwnTables) (line : List ℕ) → tell_line n t line ≡ tell_said t (line_said n line)
tells_said n t line = by (nat_lt 2048 (length line))
  where
    by : (b : Bool) → cond b (Err causes.LongLine) (tell_said t (told_by_bare n (strip_last 13 line))) ≡ tell_said t (cond b (Err causes.LongLine) (told_by_bare n (strip_last 13 line)))
    by true = refl
    by false = refl
