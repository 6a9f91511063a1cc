-- Metrics that are told: from direct costs to the least costs of paths.
use Rattle.std.proofs.Common.{◌≡◌, ℕ, ◌+◌, ◌<◌, ◌≤◌, ◌⊎◌, inl, inr, Bool, List, [], ◌∷◌, get_or, length, slice_set, refl, sym, ◌∙◌, arith}
use Rattle.std.proofs.lemmas.Bool.{cases_lt, cases_eq}
use Rattle.std.proofs.lemmas.List.{get_or-set_other}
use Rattle.std.proofs.lemmas.Grind.{get_or-set_at}
use Rattle.rip_plan.specs.Network.{Network}
use Rattle.rip_plan.specs.Relations.{HasCost, IsDirect, IsNeighbour}
use Rattle.rip_plan.specs.PrefixNetworks.{IsNetwork}
use Rattle.rip_check.specs.Paths.{Hop, IsPath, IsLeast, MayHop}
use Rattle.rip_check.specs.Tellings.{AreTold, HasTold, IsTelling, IsTold}
use Rattle.rip_check.proofs.PlanLemmas.{direct_least}

-- 16, or what a path costs
abbrev pub IsReached : Network → ℕ → ℕ → ℕ → Type 0
IsReached n p r v = (v ≡ 16) ⊎ ((v < 16) × ((hops : List Hop) × IsPath n p r hops v))

-- so of each router's metric
abbrev pub AreReached : Network → ℕ → List ℕ → Type 0
AreReached n p metrics = (r : ℕ) → r < length n.routers → IsReached n p r (get_or metrics r 0)

module _ (n : Network) (p : ℕ) where
  pub reached_most : (r v : ℕ) → IsReached n p r v → v ≤ 16
  reached_most r v (inl e) = omega (arith, e)
  reached_most r v (inr h) = omega (arith, h.0)

  -- what a neighbour's metric gives is reached
  reached_over : (r l s c v w : ℕ) → HasCost n r l c → MayHop n p r l s → v ≡ c + w → v < 16 → IsReached n p s w → IsReached n p r v
  reached_over r l s c v w has near e small (inl big) = absurd (omega (arith, e, small, big))
  reached_over r l s c v w has near e small (inr h) = inr (small, (record { link = l; to = s } ∷ h.1.0, (c, w, has, near, h.1.1, e)))

  module _ (plan : IsNetwork n) where
    -- a path costs at least 1 a hop and 1 at its end
    pub hops_cost : (r : ℕ) (hops : List Hop) (w : ℕ) → IsPath n p r hops w → length hops + 1 ≤ w
    hops_cost r [] w path = direct_least n plan r p w path
    hops_cost r (h ∷ hops) w path =
        let cost = plan.cost_least path.2.0 r h.link path.0 path.2.1 in
        let ih = hops_cost h.to hops path.1 path.4 in
        omega (arith, cost, ih, path.5)

-- ---- tellings, in a network whose interfaces cost something and whose routers have no other neighbours

pub record IsSound (n : Network) : Type 0 where
  pub costs : (r l c : ℕ) → HasCost n r l c → 1 ≤ c
  pub known : (r l s : ℕ) → r < length n.routers → IsNeighbour n r l s → s < length n.routers

-- routers whose metrics are below m have told them
abbrev pub AreSettled : Network → ℕ → ℕ → List ℕ → Type 0
AreSettled n p m metrics =
    (r : ℕ) → r < length n.routers → get_or metrics r 0 < m → (s l c : ℕ) → HasCost n s l c → MayHop n p s l r → get_or metrics s 0 ≤ c + get_or metrics r 0

module _ (n : Network) (p : ℕ) (sound : IsSound n) where
  module _ (m : ℕ) where
    -- a metric of at most m is not lowered
    pub telling_same : (before after : List ℕ) → IsTelling n p m before after → (r : ℕ) → get_or before r 0 ≤ m → get_or after r 0 ≡ get_or before r 0
    telling_same before after telling r small = go (telling.chosen r)
      where
        go : (get_or after r 0 ≡ get_or before r 0) ⊎ ((l s c : ℕ) × HasCost n r l c × MayHop n p r l s × (get_or before s 0 ≡ m) × (get_or after r 0 ≡ c + m)) → get_or after r 0 ≡ get_or before r 0
        go (inl e) = e
        go (inr h) = absurd (omega (arith, h.6, sound.costs r h.0 h.2 h.3, telling.at_most r, small))

    -- and no metric becomes one of at most m
    pub telling_was : (before after : List ℕ) → IsTelling n p m before after → (r : ℕ) → get_or after r 0 ≤ m → get_or after r 0 ≡ get_or before r 0
    telling_was before after telling r small = go (telling.chosen r)
      where
        go : (get_or after r 0 ≡ get_or before r 0) ⊎ ((l s c : ℕ) × HasCost n r l c × MayHop n p r l s × (get_or before s 0 ≡ m) × (get_or after r 0 ≡ c + m)) → get_or after r 0 ≡ get_or before r 0
        go (inl e) = e
        go (inr h) = absurd (omega (arith, h.6, sound.costs r h.0 h.2 h.3, small))

    pub telling_then : (a b c : List ℕ) → IsTelling n p m a b → IsTelling n p m b c → IsTelling n p m a c
    telling_then a b c first second = record {
      at_most = λ r. omega (arith, first.at_most r, second.at_most r);
      chosen = λ r. go r (second.chosen r);
    }
      where
        go : (r : ℕ) → (get_or c r 0 ≡ get_or b r 0) ⊎ ((l s d : ℕ) × HasCost n r l d × MayHop n p r l s × (get_or b s 0 ≡ m) × (get_or c r 0 ≡ d + m)) →
            (get_or c r 0 ≡ get_or a r 0) ⊎ ((l s d : ℕ) × HasCost n r l d × MayHop n p r l s × (get_or a s 0 ≡ m) × (get_or c r 0 ≡ d + m))
        go r (inl e) = rw e (first.chosen r)
        go r (inr h) =
            let was = telling_was a b first h.1 (omega (arith, h.5)) in
            inr (h.0, h.1, h.2, h.3, h.4, sym was ∙ h.5, h.6)

    -- one router takes what it is given
    pub telling_one : (xs : List ℕ) (r l s c v : ℕ) → r < length xs → HasCost n r l c → MayHop n p r l s → get_or xs s 0 ≡ m → v ≡ c + m → v ≤ get_or xs r 0 → IsTelling n p m xs (slice_set xs r v)
    telling_one xs r l s c v lt has hop tells is less = record {
      at_most = λ q. elim (cases_eq q r) [
        | inl mine ↦ rw mine (rw (get_or-set_at xs r r v 0 refl lt) less)
        | inr other ↦ rw (get_or-set_other xs r q v 0 other) (omega arith)
      ];
      chosen = λ q. elim (cases_eq q r) [
        | inl mine ↦ rw mine (inr (l, s, c, has, hop, tells, get_or-set_at xs r r v 0 refl lt ∙ is))
        | inr other ↦ inl (get_or-set_other xs r q v 0 other)
      ];
    }

    pub telling_told : (before after : List ℕ) (l : ℕ) → IsTelling n p m before after → IsTold n p m before l → IsTold n p m after l
    telling_told before after l telling told r c has takes = omega (arith, telling.at_most r, told r c has takes)

    pub telling_reached : (before after : List ℕ) → m < 16 → IsTelling n p m before after → AreReached n p before → AreReached n p after
    telling_reached before after small telling was r lt = go (telling.chosen r)
      where
        go : (get_or after r 0 ≡ get_or before r 0) ⊎ ((l s c : ℕ) × HasCost n r l c × MayHop n p r l s × (get_or before s 0 ≡ m) × (get_or after r 0 ≡ c + m)) → IsReached n p r (get_or after r 0)
        go (inl e) = rw e (was r lt)
        go (inr h) =
            let most = reached_most n p r (get_or before r 0) (was r lt) in
            let s_at = sound.known r h.0 h.1 lt h.4.neighbour in
            let is : get_or after r 0 ≡ h.2 + get_or before h.1 0 = omega (arith, h.5, h.6) in
            elim (cases_lt (get_or after r 0) 16) [
              | inl less ↦ reached_over n p r h.0 h.1 h.2 (get_or after r 0) (get_or before h.1 0) h.3 h.4 is less (was h.1 s_at)
              | inr big ↦ inl (omega (arith, telling.at_most r, most, big))
            ]

    -- what was told is told where more is allowed
    pub told_more : (metrics : List ℕ) (marks : List Bool) → AreTold n p m metrics marks → AreTold n p (m + 1) metrics marks
    told_more metrics marks told l at r c has takes = omega (arith, told l at r c has takes)

  pub settled_more : (m : ℕ) (before after : List ℕ) (marks : List Bool) → AreSettled n p m before → IsTelling n p m before after → AreTold n p m after marks →
      ((r : ℕ) → r < length n.routers → get_or after r 0 ≡ m → HasTold n p marks r) → AreSettled n p (m + 1) after
  settled_more m before after marks settled telling told all r lt small s l c has hop =
      elim (cases_lt (get_or after r 0) m) [
        | inl less ↦
            let same = telling_was m before after telling r (omega (arith, less)) in
            let le = settled r lt (omega (arith, same, less)) s l c has hop in
            omega (arith, le, same, telling.at_most s)
        | inr big ↦
            let is : get_or after r 0 ≡ m = omega (arith, small, big) in
            let there = hop.neighbour.there in
            let le = told l (all r lt is l there.0 there.1 hop.tells) s c has hop.goes_on in
            omega (arith, le, is)
      ]

  -- where no router below 16 is above m, that is all
  pub settled_all : (m : ℕ) (metrics : List ℕ) → AreSettled n p (m + 1) metrics → ((r : ℕ) → r < length n.routers → m < get_or metrics r 0 → 16 ≤ get_or metrics r 0) → AreSettled n p 16 metrics
  settled_all m metrics settled none r lt small =
      elim (cases_lt m (get_or metrics r 0)) [
        | inl more ↦ absurd (omega (arith, none r lt more, small))
        | inr less ↦ settled r lt (omega (arith, less))
      ]

  module _ (metrics : List ℕ) (settled : AreSettled n p 16 metrics) (reached : AreReached n p metrics) (direct : (r c : ℕ) → IsDirect n r p c → get_or metrics r 0 ≤ c) where
    no_path_less : (r : ℕ) (hops : List Hop) (w : ℕ) → r < length n.routers → IsPath n p r hops w → get_or metrics r 0 ≤ w
    no_path_less r [] w lt path = direct r w path
    no_path_less r (h ∷ hops) w lt path =
        let to_at = sound.known r h.link h.to lt path.3.neighbour in
        let rest = no_path_less h.to hops path.1 to_at path.4 in
        let most = reached_most n p r (get_or metrics r 0) (reached r lt) in
        elim (cases_lt (get_or metrics h.to 0) 16) [
          | inl small ↦ omega (arith, rest, settled h.to to_at small r h.link path.0 path.2 path.3, path.5)
          | inr big ↦ omega (arith, rest, big, most, path.5)
        ]

    pub settled_least : (r : ℕ) → r < length n.routers → IsLeast n p r (get_or metrics r 0)
    settled_least r lt = record { reached = reached r lt; least = λ hops w path. no_path_less r hops w lt path }
