-- The paths and the right routes of a plan that says nothing beside what RFC 2453 does.
use Rattle.std.proofs.Common.{◌≡◌, ℕ, ◌⊎◌, inl, inr, List, [], ◌∷◌}
use Rattle.rip_plan.proofs.LookupLemmas.{interface_of}
use Rattle.rip_plan.specs.Network.{Network}
use Rattle.rip_plan.specs.Relations.{HasCost, IsConnected, IsDirect, IsOwnAt, IsPlace, IsPlain, Touches}
use Rattle.rip_plan.specs.declared.parts.Seat.TheVariants.{Link}
use Rattle.rip_check.specs.Paths.{HasAtCost, Hop, IsLeast, IsPath, IsPlainLeast, IsPlainPath}
use Rattle.rip_check.specs.Settled.{GoesPlainly, GoesRight, IsPlainRight, IsRight}
use Rattle.rip_check.specs.Tables.{Route}
use Rattle.rip_check.specs.declared.way.Way.{Way}
use Rattle.rip_check.specs.declared.way.Way.TheVariants.{Unreachable, Here, Over}
use Rattle.rip_check.proofs.PlanLemmas.{attached_kept, its_direct}

module _ (n : Network) (plain : IsPlain n) where
  direct_plain : (r p v : ℕ) → IsDirect n r p v → HasAtCost n r p v
  direct_plain r p v d = (d.0, go d.1)
    where
      go : Touches n d.0 p r v → ((l : ℕ) × IsPlace n d.0 p (Link l) × HasCost n r l v) ⊎ IsOwnAt n d.0 p r v
      go (inl h) =
          let at = h.2.1 in
          let its = interface_of n h.2.0 r h.0 v at in
          let same : v ≡ at.interface.cost = plain.direct h.2.0 r h.0 at.interface.cost v its at in
          inl (h.0, h.1, (h.2.0, rw same its))
      go (inr h) = inr h

  plain_direct : (r p v : ℕ) → HasAtCost n r p v → IsDirect n r p v
  plain_direct r p v h = (h.0, go h.1)
    where
      go : ((l : ℕ) × IsPlace n h.0 p (Link l) × HasCost n r l v) ⊎ IsOwnAt n h.0 p r v → Touches n h.0 p r v
      go (inl x) =
          let its = x.2.1 in
          let at = its_direct n x.2.0 r x.0 v its in
          let same : its.interface.direct ≡ v = plain.direct x.2.0 r x.0 v its.interface.direct its at in
          let at' : IsConnected n x.2.0 r x.0 v = rw same at at in
          inl (x.0, x.1, (x.2.0, at'))
      go (inr x) = inr x

  pub path_plain : (p r : ℕ) (hops : List Hop) (v : ℕ) → IsPath n p r hops v → IsPlainPath n p r hops v
  path_plain p r [] v path = direct_plain r p v path
  path_plain p r (h ∷ hops) v path = (path.0, path.1, path.2, path.3.neighbour, path_plain p h.to hops path.1 path.4, path.5)

  pub plain_path : (p r : ℕ) (hops : List Hop) (v : ℕ) → IsPlainPath n p r hops v → IsPath n p r hops v
  plain_path p r [] v path = plain_direct r p v path
  plain_path p r (h ∷ hops) v path = (
    path.0,
    path.1,
    path.2,
    record {
      neighbour = path.3;
      goes_on = plain.not_kept r p;
      tells = λ at. plain.not_kept h.to p (attached_kept n h.to p h.link at);
    },
    plain_path p h.to hops path.1 path.4,
    path.5,
  )

  least_plain : (p r v : ℕ) → IsLeast n p r v → IsPlainLeast n p r v
  least_plain p r v is = record {
    reached = elim is.reached [
      | inl big ↦ inl big
      | inr h ↦ inr (h.0, (h.1.0, path_plain p r h.1.0 v h.1.1))
    ];
    least = λ hops w path. is.least hops w (plain_path p r hops w path);
  }

  plain_least : (p r v : ℕ) → IsPlainLeast n p r v → IsLeast n p r v
  plain_least p r v is = record {
    reached = elim is.reached [
      | inl big ↦ inl big
      | inr h ↦ inr (h.0, (h.1.0, plain_path p r h.1.0 v h.1.1))
    ];
    least = λ hops w path. is.least hops w (path_plain p r hops w path);
  }

  goes_plainly : (p r m : ℕ) (w : Way) → GoesRight n p r m w → GoesPlainly n p r m w
  goes_plainly p r m Unreachable goes = tt
  goes_plainly p r m Here goes = direct_plain r p m goes
  goes_plainly p r m (Over l) goes = (goes.0, goes.1, path_plain p r (record { link = l; to = goes.0 } ∷ goes.1) m goes.2)

  plainly_goes : (p r m : ℕ) (w : Way) → GoesPlainly n p r m w → GoesRight n p r m w
  plainly_goes p r m Unreachable goes = tt
  plainly_goes p r m Here goes = plain_direct r p m goes
  plainly_goes p r m (Over l) goes = (goes.0, goes.1, plain_path p r (record { link = l; to = goes.0 } ∷ goes.1) m goes.2)

  pub right_plain : (r p : ℕ) (t : Route) → IsRight n r p t → IsPlainRight n r p t
  right_plain r p t is = record { least = least_plain p r t.metric is.least; goes = goes_plainly p r t.metric t.way is.goes }

  pub plain_right : (r p : ℕ) (t : Route) → IsPlainRight n r p t → IsRight n r p t
  plain_right r p t is = record { least = plain_least p r t.metric is.least; goes = plainly_goes p r t.metric t.way is.goes }
