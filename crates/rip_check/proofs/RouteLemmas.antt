-- What is shown tells of the routes: never two sets of tables, and one set where each place has a route that fits.
use Rattle.std.proofs.Common.{◌≡◌, ◌≢◌, ℕ, length, slice_get, ◌<◌, ◌≤◌, ◌⊎◌, inl, inr, Option, None, Some, unwrap_or, refl, sym, ◌∙◌, ap, arith}
use Rattle.rip_plan.proofs.LookupLemmas.{direct_once, direct_or_not}
use Rattle.std.proofs.lemmas.Bool.{cases_lt, cases_eq}
use Rattle.std.proofs.lemmas.Option.{slice_get_within, same_Some}
use Rattle.rip_check.proofs.PlanLemmas.{find_below, held_back_once, holds_back_or_not}
use Rattle.rip_plan.specs.declared.parts.Interface.{Interface}
use Rattle.rip_plan.specs.Network.{Network}
use Rattle.rip_plan.specs.Relations.{IsInterface, IsLeaf}
use Rattle.rip_plan.specs.PrefixNetworks.{IsNetwork}
use Rattle.rip_table.specs.State.{State}
use Rattle.rip_check.specs.Tables.{Tables, FitsShown, IsLoneRoute, IsOff, Route, FitsWay, MayHoldBack, MayShow, IsSilent, IsLeastOffer}
use Rattle.rip_check.specs.declared.way.Way.{Way}
use Rattle.rip_check.specs.declared.way.Way.TheVariants.{Unreachable, Here, Over}
use Rattle.rip_check.proofs.ShownLemmas.{some_is, shown_below, metric_most}
use Rattle.rip_check.specs.Metrics.{metric_at}

-- router r has more than one interface
abbrev pub TwoInterfaces : Network → ℕ → Type 0
TwoInterfaces n r = (i j l k c d : ℕ) × IsInterface n i r l c × IsInterface n j r k d × (i ≢ j)

-- interface j is another one of router r
record IsAnother (n : Network) (r i j : ℕ) : Type 0 where
  own : Interface
  other : j ≢ i
  listed : slice_get n.interfaces j ≡ Some own
  its : own.router ≡ r

another_or_not : (n : Network) (r i j : ℕ) → IsAnother n r i j ⊎ (IsAnother n r i j → ⊥)
another_or_not n r i j = go (cases_eq j i) (slice_get n.interfaces j) refl
  where
    go : (j ≡ i) ⊎ (j ≡ i → ⊥) → (x : Option Interface) → slice_get n.interfaces j ≡ x → IsAnother n r i j ⊎ (IsAnother n r i j → ⊥)
    go (inl same) x e = inr (λ h. h.other same)
    go (inr other) None e = inr (λ h. cc (h.listed, e))
    go (inr other) (Some x) e =
        elim (cases_eq x.router r) [
          | inl its ↦ inl (record { own = x; other = other; listed = e; its = its })
          | inr not ↦ inr (λ h. not (ap (λ (y : Interface). y.router) (same_Some _ _ (sym e ∙ h.listed)) ∙ h.its))
        ]

pub two_or_leaf : (n : Network) (r i l c : ℕ) → IsInterface n i r l c → TwoInterfaces n r ⊎ IsLeaf n r i l c
two_or_leaf n r i l c has =
    elim (find_below (IsAnother n r i) (another_or_not n r i) (length n.interfaces)) [
      | inl h ↦
          let x = h.2 in
          let there : IsInterface n h.0 r x.own.link x.own.cost = record { interface = x.own; listed = x.listed; router = x.its; link = refl; cost = refl } in
          inl (i, h.0, l, x.own.link, c, x.own.cost, has, there, λ e. x.other (sym e))
      | inr none ↦
          inr (record {
            has = has;
            only = λ j k d h.
                elim (cases_eq j i) [
                  | inl e ↦ e
                  | inr other ↦ absurd (none j (slice_get_within n.interfaces j _ h.listed) (record { own = h.interface; other = other; listed = h.listed; its = h.router }))
                ];
          })
    ]

-- a router has two interfaces, or one, or none
abbrev pub Kind : Network → ℕ → Type 0
Kind n r = TwoInterfaces n r ⊎ (((i l c : ℕ) × IsLeaf n r i l c) ⊎ IsOff n r)

pub kind_of : (n : Network) (r : ℕ) → Kind n r
kind_of n r =
    elim (find_below (IsAnother n r (length n.interfaces)) (another_or_not n r (length n.interfaces)) (length n.interfaces)) [
      | inl h ↦
          let x = h.2 in
          let here : IsInterface n h.0 r x.own.link x.own.cost = record { interface = x.own; listed = x.listed; router = x.its; link = refl; cost = refl } in
          elim (two_or_leaf n r h.0 x.own.link x.own.cost here) [
            | inl two ↦ inl two
            | inr leaf ↦ inr (inl (h.0, x.own.link, x.own.cost, leaf))
          ]
      | inr none ↦
          inr (inr (λ i l c h.
          let within = slice_get_within n.interfaces i _ h.listed in
          none i within (record { own = h.interface; other = λ e. omega (arith, e, within); listed = h.listed; its = h.router })))
    ]

module _ (n : Network) (plan : IsNetwork n) (shown : State) where
  -- two interfaces of a router are on two links
  links_differ : (i j r l k c d : ℕ) → IsInterface n i r l c → IsInterface n j r k d → i ≢ j → l ≢ k
  links_differ i j r l k c d a b not e =
      let b' : IsInterface n j r l d = rw (← e) at b in
      not (plan.one_on_link i j r l c d a b')

  -- a router may hold back a route on one of its links at most
  held_back_at_one : (i j r l k c d p : ℕ) → IsInterface n i r l c → IsInterface n j r k d → i ≢ j → MayHoldBack n r p l → MayHoldBack n r p k → ⊥
  held_back_at_one i j r l k c d p a b not x y =
      links_differ i j r l k c d a b not (held_back_once n plan r p l k (c, (i, a)) (d, (j, b)) x y)

  -- a route below 16 is shown by some interface
  pub speaks_case : (i j r l k c d p m : ℕ) (w : Way) → IsInterface n i r l c → IsInterface n j r k d → i ≢ j → FitsWay n r p m w → m < 16 →
      MayShow n r l p m w (metric_at shown i p) → MayShow n r k p m w (metric_at shown j p) →
      (x y z : ℕ) × IsInterface n x r y z × (metric_at shown x p ≡ Some m)
  speaks_case i j r l k c d p m Unreachable a b not fits small t u = absurd (omega (arith, fits, small))
  speaks_case i j r l k c d p m Here a b not fits small (inl e) u = (i, l, c, a, e.1)
  speaks_case i j r l k c d p m Here a b not fits small (inr h) (inl e) = (j, k, d, b, e.1)
  speaks_case i j r l k c d p m Here a b not fits small (inr h) (inr g) = absurd (held_back_at_one i j r l k c d p a b not h.0 g.0)
  speaks_case i j r l k c d p m (Over o) a b not fits small (inr h) u = (i, l, c, a, h.1)
  speaks_case i j r l k c d p m (Over o) a b not fits small (inl h) (inr g) = (j, k, d, b, g.1)
  speaks_case i j r l k c d p m (Over o) a b not fits small (inl h) (inl g) =
      absurd (links_differ i j r l k c d a b not (cc (h.0, g.0)))

  pub speaks : (r p : ℕ) (t : Route) → TwoInterfaces n r → FitsShown n shown r p t → t.metric < 16 →
      (x y z : ℕ) × IsInterface n x r y z × (metric_at shown x p ≡ Some t.metric)
  speaks r p t two fits small =
      speaks_case two.0 two.1 r two.2 two.3 two.4 two.5 p t.metric t.way two.6 two.7 two.8 fits.told.way_fits small
      (fits.told.as_told two.0 two.2 two.4 two.6) (fits.told.as_told two.1 two.3 two.5 two.7)

  -- so two routes that fit have one metric
  metric_told : (r p : ℕ) (t u : Route) → TwoInterfaces n r → FitsShown n shown r p t → FitsShown n shown r p u → t.metric < 16 → t.metric ≡ u.metric
  metric_told r p t u at ft fu small =
      let h = speaks r p t at ft small in
      let e = some_is (metric_at shown h.0 p) t.metric h.4 in
      let less : unwrap_or (metric_at shown h.0 p) 16 < 16 = omega (arith, e, small) in
      let e' = shown_below n r h.1 p u.metric u.way (metric_at shown h.0 p) (fu.told.as_told h.0 h.1 h.2 h.3) less in
      omega (arith, e, e')

  same_metric : (r p : ℕ) (t u : Route) → TwoInterfaces n r → FitsShown n shown r p t → FitsShown n shown r p u → t.metric ≡ u.metric
  same_metric r p t u at ft fu =
      let x = metric_most n r p t.metric t.way ft.told.way_fits in
      let y = metric_most n r p u.metric u.way fu.told.way_fits in
      let split : (t.metric < 16) ⊎ (16 ≤ t.metric) = cases_lt t.metric 16 in
      let split' : (u.metric < 16) ⊎ (16 ≤ u.metric) = cases_lt u.metric 16 in
      elim split [
        | inl small ↦ metric_told r p t u at ft fu small
        | inr big ↦ elim split' [
          | inl small ↦ sym (metric_told r p u t at fu ft small)
          | inr big' ↦ omega (arith, x, y, big, big')
        ]
      ]

  -- a way over a link is told by the 16 there
  not_here : (r p m l : ℕ) → FitsWay n r p m (Over l) →
      ((i k c : ℕ) → IsInterface n i r k c → MayShow n r k p m (Over l) (metric_at shown i p)) →
      ((i k c : ℕ) → IsInterface n i r k c → MayShow n r k p m Here (metric_at shown i p)) → ⊥
  not_here r p m l fits over here =
      let on = fits.2 in
      go (over on.1.0 l on.0 on.1.1) (here on.1.0 l on.0 on.1.1)
    where
      go : MayShow n r l p m (Over l) (metric_at shown fits.2.1.0 p) → MayShow n r l p m Here (metric_at shown fits.2.1.0 p) → ⊥
      go (inr h) u = h.0 refl
      go (inl h) (inr g) = fits.3 g.0
      go (inl h) (inl e) = omega (arith, fits.1, some_is (metric_at shown fits.2.1.0 p) 16 h.1, some_is (metric_at shown fits.2.1.0 p) m e.1)

  same_link : (r p m l k : ℕ) → FitsWay n r p m (Over l) →
      ((i o c : ℕ) → IsInterface n i r o c → MayShow n r o p m (Over l) (metric_at shown i p)) →
      ((i o c : ℕ) → IsInterface n i r o c → MayShow n r o p m (Over k) (metric_at shown i p)) → k ≡ l
  same_link r p m l k fits t u =
      let on = fits.2 in
      go (t on.1.0 l on.0 on.1.1) (u on.1.0 l on.0 on.1.1)
    where
      go : MayShow n r l p m (Over l) (metric_at shown fits.2.1.0 p) → MayShow n r l p m (Over k) (metric_at shown fits.2.1.0 p) → k ≡ l
      go (inr h) v = absurd (h.0 refl)
      go (inl h) (inl g) = g.0
      go (inl h) (inr g) = absurd (omega (arith, fits.1, some_is (metric_at shown fits.2.1.0 p) 16 h.1, some_is (metric_at shown fits.2.1.0 p) m g.1))

  same_way : (r p m : ℕ) (w v : Way) → FitsWay n r p m w → FitsWay n r p m v →
      ((i o c : ℕ) → IsInterface n i r o c → MayShow n r o p m w (metric_at shown i p)) →
      ((i o c : ℕ) → IsInterface n i r o c → MayShow n r o p m v (metric_at shown i p)) → w ≡ v
  same_way r p m Unreachable Unreachable f g t u = refl
  same_way r p m Unreachable Here f g t u = absurd (omega (arith, f, g))
  same_way r p m Unreachable (Over l) f g t u = absurd (omega (arith, f, g))
  same_way r p m Here Unreachable f g t u = absurd (omega (arith, f, g))
  same_way r p m Here Here f g t u = refl
  same_way r p m Here (Over l) f g t u = absurd (not_here r p m l g u t)
  same_way r p m (Over l) Unreachable f g t u = absurd (omega (arith, f, g))
  same_way r p m (Over l) Here f g t u = absurd (not_here r p m l f t u)
  same_way r p m (Over l) (Over k) f g t u = ap Over (sym (same_link r p m l k f t u))

  -- routes of one metric that fit go one way
  one_way : (r p : ℕ) (t u : Route) → t.metric ≡ u.metric → FitsShown n shown r p t → FitsShown n shown r p u → t ≡ u
  one_way r p t u e ft fu =
      let gu : FitsWay n r p t.metric u.way = rw e fu.told.way_fits in
      let tu : (i o c : ℕ) → IsInterface n i r o c → MayShow n r o p t.metric u.way (metric_at shown i p) = rw e fu.told.as_told in
      let e' = same_way r p t.metric t.way u.way ft.told.way_fits gu ft.told.as_told tu in
      λ i. record { metric = e i; way = e' i }

  -- what is not below 16 is silence
  silent_from : (l p m : ℕ) (r : ℕ) (w : Way) (x : Option ℕ) → FitsWay n r p m w → MayShow n r l p m w x → 16 ≤ unwrap_or x 16 → IsSilent x
  silent_from l p m r Unreachable x fits told big = told
  silent_from l p m r Here x fits (inl e) big = absurd (omega (arith, some_is x m e.1, fits, big))
  silent_from l p m r Here x fits (inr h) big = h.1
  silent_from l p m r (Over k) x fits (inl h) big = inr h.1
  silent_from l p m r (Over k) x fits (inr h) big = absurd (omega (arith, some_is x m h.1, fits.1, big))

  -- where a leaf shows nothing on a link where it may not hold back its route, it has none
  unreachable_from : (l p m : ℕ) (r : ℕ) (w : Way) (x : Option ℕ) → FitsWay n r p m w → MayShow n r l p m w x → (MayHoldBack n r p l → ⊥) → x ≡ None → m ≡ 16
  unreachable_from l p m r Unreachable x fits told off e = fits
  unreachable_from l p m r Here x fits (inl h) off e = cc (e, h.1)
  unreachable_from l p m r Here x fits (inr h) off e = absurd (off h.0)
  unreachable_from l p m r (Over k) x fits (inl h) off e = cc (e, h.1)
  unreachable_from l p m r (Over k) x fits (inr h) off e = cc (e, h.1)

  least_below : (r p h g : ℕ) → IsLeastOffer n shown r p h → IsLeastOffer n shown r p g → h ≤ g
  least_below r p h g a b =
      elim b.reached [
        | inl e ↦ omega (arith, a.most, e)
        | inr o ↦ a.least o.0 o.1 g o.2
      ]

  -- what a leaf shows, and whether it may hold back its route, tell its metric
  leaf_metric : (r i l c p : ℕ) (t u : Route) → IsLeaf n r i l c → FitsShown n shown r p t → FitsShown n shown r p u →
      MayHoldBack n r p l ⊎ (MayHoldBack n r p l → ⊥) → IsSilent (metric_at shown i p) → t.metric ≡ u.metric
  leaf_metric r i l c p t u leaf ft fu (inl on) silent =
      let a = (ft.hidden i l c leaf).held_back on silent in
      let b = (fu.hidden i l c leaf).held_back on silent in
      direct_once n plan.touched_once plan.one_on_link r p t.metric u.metric a.1 b.1
  leaf_metric r i l c p t u leaf ft fu (inr off) (inl is) =
      let a = unreachable_from l p t.metric r t.way (metric_at shown i p) ft.told.way_fits (ft.told.as_told i l c leaf.has) off is in
      let b = unreachable_from l p u.metric r u.way (metric_at shown i p) fu.told.way_fits (fu.told.as_told i l c leaf.has) off is in
      omega (arith, a, b)
  leaf_metric r i l c p t u leaf ft fu (inr off) (inr is) =
      let a = (ft.hidden i l c leaf).learned off is in
      let b = (fu.hidden i l c leaf).learned off is in
      omega (arith, least_below r p t.metric u.metric a.0 b.0, least_below r p u.metric t.metric b.0 a.0)

  leaf_same : (r i l c p : ℕ) (t u : Route) → IsLeaf n r i l c → FitsShown n shown r p t → FitsShown n shown r p u → t.metric ≡ u.metric
  leaf_same r i l c p t u leaf ft fu =
      let x = metric_at shown i p in
      let told = ft.told.as_told i l c leaf.has in
      let split : (unwrap_or x 16 < 16) ⊎ (16 ≤ unwrap_or x 16) = cases_lt (unwrap_or x 16) 16 in
      elim split [
        | inl small ↦
            let a = shown_below n r l p t.metric t.way x told small in
            let b = shown_below n r l p u.metric u.way x (fu.told.as_told i l c leaf.has) small in
            omega (arith, a, b)
        | inr big ↦ leaf_metric r i l c p t u leaf ft fu (holds_back_or_not n r p l) (silent_from l p t.metric r t.way x ft.told.way_fits told big)
      ]

  -- a router without an interface has one route
  lone_same : (r p : ℕ) (t u : Route) → IsLoneRoute n r p t → IsLoneRoute n r p u → t ≡ u
  lone_same r p t u a b =
      elim (direct_or_not n r p) [
        | inl (c, direct) ↦ same ((a.own c direct).0 ∙ sym (b.own c direct).0) ((a.own c direct).1 ∙ sym (b.own c direct).1)
        | inr none ↦ same ((a.none none).0 ∙ sym (b.none none).0) ((a.none none).1 ∙ sym (b.none none).1)
      ]
    where
      same : t.way ≡ u.way → t.metric ≡ u.metric → t ≡ u
      same way metric = λ i. record { metric = metric i; way = way i }

  -- no two routes fit what a router shows
  pub one_route : (r p : ℕ) (t u : Route) → r < length n.routers → FitsShown n shown r p t → FitsShown n shown r p u → t ≡ u
  one_route r p t u at ft fu =
      elim (kind_of n r) [
        | inl two ↦ one_way r p t u (same_metric r p t u two ft fu) ft fu
        | inr (inl (i, l, c, leaf)) ↦ one_way r p t u (leaf_same r i l c p t u leaf ft fu) ft fu
        | inr (inr off) ↦ lone_same r p t u (ft.lone off) (fu.lone off)
      ]

-- a value for each number below the bound is a function
pub choose : {X : Type 0} (P : ℕ → X → Type 0) (bound : ℕ) → X → ((k : ℕ) → k < bound → (x : X) × P k x) →
    (f : ℕ → X) × ((k : ℕ) → k < bound → P k (f k))
choose {X} P bound d h = (f, holds)
  where
    at : (k : ℕ) → (k < bound) ⊎ (bound ≤ k) → X
    at k (inl b) = (h k b).0
    at k (inr b) = d

    f : ℕ → X
    f k = at k (cases_lt k bound)

    at_holds : (k : ℕ) → k < bound → (s : (k < bound) ⊎ (bound ≤ k)) → P k (at k s)
    at_holds k b (inl b') = (h k b').1
    at_holds k b (inr b') = absurd (omega arith)

    holds : (k : ℕ) → k < bound → P k (f k)
    holds k b = at_holds k b (cases_lt k bound)

-- where each place has a route, there are tables
pub tables_of : (routers count : ℕ) (P : ℕ → ℕ → Route → Type 0) →
    ((r p : ℕ) → r < routers → p < count → (t : Route) × P r p t) →
    (T : Tables) × ((r p : ℕ) → r < routers → p < count → P r p (T r p))
tables_of routers count P h =
    let none : Route = record { metric = 16; way = Unreachable } in
    let rows = choose (λ r row. (p : ℕ) → p < count → P r p (row p)) routers (λ p. none)
    (λ r at. choose (λ p t. P r p t) count none (λ p known. h r p at known)) in
    (rows.0, λ r p at known. rows.1 r at p known)
