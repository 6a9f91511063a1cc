-- What is wrong with a route does not go with a place that holds.
use Rattle.std.proofs.Common.{◌≡◌, ◌||◌, ℕ, inl, inr, Bool, true, false, not, Contains, Option, None, Some, IfNone, IfSome, refl, arith}
use Rattle.std.proofs.lemmas.Option.{get_or_from_slice_get, slice_get_within}
use Rattle.rip_plan.specs.Network.{Network}
use Rattle.rip_plan.specs.Relations.{IsDirect}
use Rattle.rip_table.specs.State.{State}
use Rattle.rip_routes.specs.OwnTables.{OwnRoute}
use Rattle.rip_routes.specs.declared.next_hop.NextHop.{NextHop}
use Rattle.rip_check.specs.Networks.{network_at}
use Rattle.rip_check.specs.OwnSettled.{IsHopGiven, OwnHolds}
use Rattle.rip_check.specs.OwnVerdicts.{IsFirstWrongHop, IsWrong}
use Rattle.rip_check.specs.Settled.{IsLeastChoice}
use mathlib.Core.Path.{fun_ext}
use Rattle.rip_check.specs.Told.{poisons, told, told_of}
use Rattle.rip_check.specs.declared.own_verdict.Wrong.{Wrong}

module _ (n : Network) (told : State) (r p : ℕ) (route : OwnRoute) where
  -- the network of the prefix
  abbrev net : Network
  net = network_at n told.prefixes p

  pub wrong_fails : (w : Wrong) → IsWrong n told r p route w → OwnHolds net told r p route → ⊥
  wrong_fails w (inl wrong) holds =
      wrong.2 (omega (arith, wrong.1.least route.metric holds.choice.chosen, holds.choice.least wrong.0 wrong.1.chosen))
  wrong_fails w (inr (choice, inl own)) holds = own.1 (holds.given.here own.0)
  wrong_fails w (inr (choice, inr (here, wrong))) holds =
      let listed : Contains route.hops wrong.hop = (wrong.number, slice_get_within route.hops wrong.number wrong.hop wrong.listed, get_or_from_slice_get route.hops wrong.number wrong.hop wrong.hop wrong.listed) in
      wrong.fails (holds.given.hops wrong.hop listed)

  -- the first wrong next hop, or none
  pub wrong_next : (o : Option Wrong) → IsLeastChoice net told r p route.metric → (route.here ≡ true → IsDirect net r p route.metric) → IfSome o (IsFirstWrongHop n told r p route) →
      IfSome o (IsWrong n told r p route)
  wrong_next None choice here wrong = tt
  wrong_next (Some w) choice here wrong = inr (choice, inr (here, wrong))

  pub holds_all : (o : Option Wrong) → IsLeastChoice net told r p route.metric → (route.here ≡ true → IsDirect net r p route.metric) →
      IfNone o ((h : NextHop) → Contains route.hops h → IsHopGiven net told r p route.metric h) → IfNone o (OwnHolds net told r p route)
  holds_all None choice here given = record { choice = choice; given = record { here = here; hops = given } }
  holds_all (Some w) choice here given = tt

-- where no interface was heard what is shown is told
silent_tells : (poisons heard : Bool) (x : Option ℕ) → heard ≡ false → told_of (poisons || not heard) x ≡ x
unfolding told_of
silent_tells poisons true x off = absurd cc
silent_tells true false None off = refl
silent_tells false false None off = refl
silent_tells true false (Some m) off = refl
silent_tells false false (Some m) off = refl

pub told_unheard : (n : Network) (s : State) → ((i : ℕ) → s.heard i ≡ false) → told n s ≡ s
told_unheard n s off = λ i. record s { shows = (fun_ext (λ j. fun_ext (λ p. silent_tells (poisons n j) (s.heard j) (s.shows j p) (off j)))) i }
