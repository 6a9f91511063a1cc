-- From the first place that does not hold to the verdict.
use Rattle.std.proofs.Common.{ℕ, ◌↔◌, Option, None, Some, IfNone, IsSome, length, refl}
use Rattle.rip_plan.specs.Network.{Network}
use Rattle.rip_plan.specs.Relations.{IsLawful}
use Rattle.rip_table.specs.State.{State}
use Rattle.rip_routes.specs.OwnTables.{AreOwnTables, OwnTables}
use Rattle.rip_check.specs.Firsts.{AreFine}
use Rattle.rip_check.specs.OwnSettled.{AreRightTables, EachOwnHolds, IsEachListed}
use Rattle.rip_check.specs.OwnTells.{IsToldBy}
use Rattle.rip_check.specs.OwnVerdicts.{IsNextUnlisted, IsNextWrong, IsOwnSound}
use Rattle.rip_check.specs.OwnWalks.{OwnPacketsArrive}
use Rattle.rip_check.specs.declared.own_verdict.OwnPlace.{OwnPlace}
use Rattle.rip_check.proofs.OwnConverseLemmas.{own_holds}
use Rattle.rip_check.proofs.OwnDescentLemmas.{own_right}
use Rattle.rip_check.proofs.OwnWalkLemmas.{own_arrive}

module _ (n : Network) (told : State) (t : OwnTables) (plan : IsLawful n) (are : AreOwnTables t) (by : IsToldBy n t told) where
  pub all_right : IsEachListed n t → AreFine n (length t.prefixes) None (IsOwnSound n told t) → AreRightTables n t
  all_right listed fine = record { listed = listed; right = own_right n told t plan are by (λ r p at known. fine r p at known tt) }

  -- the tables are right exactly where each place holds
  pub as_places : {P : Type 0} → P ↔ AreRightTables n t → P ↔ EachOwnHolds n told t
  as_places both = (
    λ p. let right = both.0 p in record { listed = right.listed; places = own_holds n told t plan are by right.right },
    λ each. both.1 (record { listed = each.listed; right = own_right n told t plan are by each.places }),
  )

  pub right_arrive : AreRightTables n t → OwnPacketsArrive n told t
  right_arrive right = own_arrive n told t plan are by (own_holds n told t plan are by right.right)

  pub not_right : (place : OwnPlace) → IsNextWrong n told t None place → AreRightTables n t → ⊥
  not_right place next right = next.first.fails (own_holds n told t plan are by right.right place.router place.prefix next.first.router next.first.prefix)

-- something is told of each router
pub not_unlisted : (n : Network) (t : OwnTables) (r : ℕ) → IsNextUnlisted n t 0 r → AreRightTables n t → ⊥
not_unlisted n t r next right = next.unlisted (right.listed r next.router)

pub some_place : (P : Type 0) (o : Option OwnPlace) → IfNone o P → (P → ⊥) → IsSome o
some_place P None holds fails = absurd (fails holds)
some_place P (Some place) holds fails = refl
