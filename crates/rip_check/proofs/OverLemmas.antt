-- Least paths: their ways, and the neighbours over which they go.
use Rattle.std.proofs.Common.{◌≡◌, ◌≢◌, ℕ, ◌+◌, ◌<◌, ◌≤◌, ◌⊎◌, ◌↔◌, Decides, Bool, inl, inr, List, [], ◌∷◌, get_or, refl, sym, ◌∙◌, length, arith}
use Rattle.std.specs.List.{Contains}
use Rattle.std.proofs.lemmas.Bool.{cases_lt}
use Rattle.rip_plan.specs.declared.parts.Interface.{Interface}
use Rattle.rip_plan.specs.Network.{Network}
use Rattle.rip_plan.specs.Relations.{IsAttached, IsInterface, HasCost, IsDirect}
use Rattle.rip_plan.specs.PrefixNetworks.{IsNetwork}
use Rattle.rip_check.specs.Paths.{Hop, IsPath, IsLeast, HasPathOver, MayHop}
use Rattle.rip_check.specs.Tables.{MayHoldBack}
use Rattle.rip_check.proofs.PlanLemmas.{attached_kept, carried_direct}
use Rattle.rip_check.specs.Expected.{IsExpected}
use Rattle.rip_check.specs.declared.way.Way.{Way}
use Rattle.rip_check.specs.declared.way.Way.TheVariants.{Unreachable, Here, Over}
use Rattle.rip_check.proofs.AcrossLemmas.{across_place}
use Rattle.rip_check.proofs.OwnedLemmas.{its_link}
use Rattle.rip_check.proofs.TellingLemmas.{hops_cost, reached_most}

-- a router has one cost on a link
pub one_cost : (n : Network) → IsNetwork n → (r l c d : ℕ) → HasCost n r l c → HasCost n r l d → c ≡ d
one_cost n plan r l c d a b =
    let number = plan.one_on_link a.0 b.0 r l c d a.1 b.1 in
    let same : IsInterface n b.0 r l c = rw number at a.1 in
    (its_link n b.0 r l c r l d same b.1).2

-- there is one least metric
pub one_least : (n : Network) (p r v w : ℕ) → IsLeast n p r v → IsLeast n p r w → v ≡ w
one_least n p r v w a b = omega (arith, le v w a b, le w v b a)
  where
    le : (x y : ℕ) → IsLeast n p r x → IsLeast n p r y → x ≤ y
    le x y is is' = go is'.reached
      where
        go : (y ≡ 16) ⊎ ((y < 16) × ((hops : List Hop) × IsPath n p r hops y)) → x ≤ y
        go (inl e) = omega (arith, e, reached_most n p r x is.reached)
        go (inr h) = is.least h.1.0 y h.1.1

pub least_most : (n : Network) (p r v : ℕ) → IsLeast n p r v → v ≤ 16
least_most n p r v is = reached_most n p r v is.reached

pub least_low : (n : Network) → IsNetwork n → (p r v : ℕ) → IsLeast n p r v → 1 ≤ v
least_low n plan p r v is = go is.reached
  where
    go : (v ≡ 16) ⊎ ((v < 16) × ((hops : List Hop) × IsPath n p r hops v)) → 1 ≤ v
    go (inl e) = omega (arith, e)
    go (inr h) = omega (arith, hops_cost n p plan r h.1.0 v h.1.1)

-- where a neighbour's least metric and the cost give the metric, a path goes over the link
pub path_over : (n : Network) (p r l s c v m : ℕ) → HasCost n r l c → MayHop n p r l s → IsLeast n p s v → c + v ≡ m → m < 16 → HasPathOver n p r l m
path_over n p r l s c v m has near is e small = go is.reached
  where
    go : (v ≡ 16) ⊎ ((v < 16) × ((hops : List Hop) × IsPath n p s hops v)) → HasPathOver n p r l m
    go (inl big) = absurd (omega (arith, big, e, small))
    go (inr h) = (s, h.1.0, (c, v, has, near, h.1.1, sym e))

-- and where a least path goes over the link, the neighbour's metric and the cost give the metric
pub over_path : (n : Network) → IsNetwork n → (p r l c m : ℕ) → HasCost n r l c → IsLeast n p r m → m < 16 → (o : HasPathOver n p r l m) →
    MayHop n p r l o.0 × ((v : ℕ) → IsLeast n p o.0 v → c + v ≡ m)
over_path n plan p r l c m has is small o = (path.3, sum)
  where
    path : IsPath n p r (record { link = l; to = o.0 } ∷ o.1) m
    path = o.2

    same : path.0 ≡ c
    same = one_cost n plan r l path.0 c path.2 has

    sum : (v : ℕ) → IsLeast n p o.0 v → c + v ≡ m
    sum v least = go least.reached
      where
        le : v ≤ path.1
        le = least.least o.1 path.1 path.4

        go : (v ≡ 16) ⊎ ((v < 16) × ((hops : List Hop) × IsPath n p o.0 hops v)) → c + v ≡ m
        go (inl big) = absurd (omega (arith, big, le, path.5, small))
        go (inr h) =
            let ge = is.least (record { link = l; to = o.0 } ∷ h.1.0) (c + v) (c, v, has, path.3, h.1.1, refl) in
            omega (arith, ge, le, path.5, same)

-- no least path begins over a link where the router may hold back its own route
pub no_way_back : (n : Network) → IsNetwork n → (p r l m : ℕ) → IsLeast n p r m → HasPathOver n p r l m → MayHoldBack n r p l → ⊥
no_way_back n plan p r l m is o held_back = go held_back
  where
    path : IsPath n p r (record { link = l; to = o.0 } ∷ o.1) m
    path = o.2

    low : length o.1 + 1 ≤ path.1
    low = hops_cost n p plan o.0 o.1 path.1 path.4

    go : MayHoldBack n r p l → ⊥
    go (inl carried) =
        let direct = carried_direct n plan r l path.0 p path.2 carried in
        omega (arith, is.least [] direct.0 direct.1, direct.2, low, path.5)
    go (inr attached) = path.3.goes_on (attached_kept n r p l attached)

-- so a way over a link is right where a least path below 16 begins over it
pub over_expected : (n : Network) → IsNetwork n → (p r l m : ℕ) → IsLeast n p r m → m < 16 → HasPathOver n p r l m → IsExpected n r p (record { metric = m; way = Over l })
over_expected n plan p r l m is small o =
    record {
      right = record { least = is; goes = o };
      way_fits = (least_low n plan p r m is, small, (o.2.0, o.2.2), λ held_back. no_way_back n plan p r l m is o held_back);
    }

-- each least metric has a way
pub some_way : (n : Network) → IsNetwork n → (p r m : ℕ) → IsLeast n p r m → (way : Way) × IsExpected n r p (record { metric = m; way = way })
some_way n plan p r m is = go is.reached
  where
    by : m < 16 → (hops : List Hop) → IsPath n p r hops m → (way : Way) × IsExpected n r p (record { metric = m; way = way })
    by small [] path = (Here, record { right = record { least = is; goes = path }; way_fits = (least_low n plan p r m is, small) })
    by small (h ∷ hops) path = (Over h.link, over_expected n plan p r h.link m is small (h.to, hops, path))

    go : (m ≡ 16) ⊎ ((m < 16) × ((hops : List Hop) × IsPath n p r hops m)) → (way : Way) × IsExpected n r p (record { metric = m; way = way })
    go (inl e) = (Unreachable, record { right = record { least = is; goes = tt }; way_fits = e })
    go (inr h) = by h.0 h.1.0 h.1.1

-- the cost and the router's least metric are not this metric, or the router does not tell it on the link
abbrev pub GivesNot : Network → ℕ → ℕ → ℕ → ℕ → ℕ → Type 0
GivesNot n p l cost m s = (v : ℕ) → IsLeast n p s v → cost + v ≡ m → (IsAttached n s p l → ⊥) → ⊥

module _ (n : Network) (p r l cost m : ℕ) (numbers : List ℕ) (exact : (i : ℕ) → Contains numbers i ↔ ((s c : ℕ) × IsInterface n i s l c)) where
  -- one more place of a link
  pub one_more_not : (k : ℕ) (x : Interface) → IsInterface n (get_or numbers k 0) x.router x.link x.cost → (x.router ≢ r → GivesNot n p l cost m x.router) →
      ((j s d : ℕ) → j < k → IsInterface n (get_or numbers j 0) s l d → s ≢ r → GivesNot n p l cost m s) →
      (j s d : ℕ) → j < k + 1 → IsInterface n (get_or numbers j 0) s l d → s ≢ r → GivesNot n p l cost m s
  one_more_not k x is here before j s d lt at other =
      elim (cases_lt j k) [
        | inl sooner ↦ before j s d sooner at other
        | inr late ↦
            let e : j ≡ k = omega arith in
            let at' : IsInterface n (get_or numbers k 0) s l d = rw e at at in
            let same = (its_link n (get_or numbers k 0) x.router x.link x.cost s l d is at').0 in
            let q = here (λ mine. other (sym same ∙ mine)) in
            rw same at q
      ]

  -- where none gives the metric, no least path goes over the link
  pub none_over : IsNetwork n → r < length n.routers → (k : ℕ) → length numbers ≤ k → HasCost n r l cost → IsLeast n p r m → m < 16 → ((s : ℕ) → s < length n.routers → (v : ℕ) × IsLeast n p s v) →
      ((j s d : ℕ) → j < k → IsInterface n (get_or numbers j 0) s l d → s ≢ r → GivesNot n p l cost m s) → HasPathOver n p r l m → ⊥
  none_over plan at_r k end has is small metrics none o =
      let h = over_path n plan p r l cost m has is small o in
      let near = h.0.neighbour in
      let place = across_place n l numbers exact near.there.1.0 o.0 near.there.0 near.there.1.1 in
      let least = metrics o.0 (plan.neighbour_known r l o.0 at_r near) in
      let at : IsInterface n (get_or numbers place.0 0) o.0 l near.there.0 = rw place.2 near.there.1.1 in
      none place.0 o.0 near.there.0 (omega (arith, place.1, end)) at near.other least.0 least.1 (h.1 least.0 least.1) h.0.tells

-- ---- what decides a way

module _ (n : Network) (plan : IsNetwork n) (p r v m : ℕ) (b : Bool) (way : Way) (least : IsLeast n p r v) (is : IsLeast n p r m) (small : v < 16) where
  same : v ≡ m
  same = one_least n p r v m least is

  pub here_right : way ≡ Here → Decides b (IsDirect n r p v) → Decides b (IsExpected n r p (record { metric = m; way = way }))
  here_right is_way d =
      rw is_way (
        λ t. record { right = record { least = is; goes = rw same at (d.0 t) }; way_fits = (least_low n plan p r m is, omega (arith, small, same)) },
        λ x. d.1 (rw same x.right.goes),
      )

  pub over_right : (l : ℕ) → way ≡ Over l → Decides b (HasPathOver n p r l v) → Decides b (IsExpected n r p (record { metric = m; way = way }))
  over_right l is_way d =
      rw is_way (λ t. over_expected n plan p r l m is (omega (arith, small, same)) (rw same at (d.0 t)), λ x. d.1 (rw same x.right.goes))
