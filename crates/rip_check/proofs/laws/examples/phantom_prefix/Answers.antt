use Rattle.std.proofs.Common.{ℕ, ◌≤◌, List, [], ◌∷◌, inl, refl, arith}
use Rattle.rip_check.specs.Paths.{Hop, IsPath}
use Rattle.rip_check.specs.Examples.{triangle, phantom_shown, phantom_tables, nowhere_shown, triangle_tables, route}
use Rattle.rip_check.specs.declared.way.Way.TheVariants.{Over}
use Rattle.rip_check.proofs.CheckingLemmas.{Passes}
use Rattle.rip_check.proofs.CheckedPlaceLemmas.{no_direct, holds_gives}
use Rattle.rip_check.proofs.ExampleLemmas.{settled, unsettled}
use Rattle.rip_check.proofs.laws.examples.phantom_prefix.Goals as goal

passes : Passes triangle
passes = record { counts = refl; links = refl; lists = refl; routers = refl; interfaces = refl; inside = refl; prefixes = refl; places = refl; has = refl; also = refl }

-- no path leads to a prefix that nobody has
no_path : (r : ℕ) (hops : List Hop) (v : ℕ) → IsPath triangle 3 r hops v → 16 ≤ v
no_path r [] v direct = absurd (no_direct triangle r 3 refl v direct)
no_path r (h ∷ hops) v path = omega (arith, no_path h.to hops path.1 path.4, path.5)

pub returns-clause-unsettled : goal.returns-clause-unsettled
returns-clause-unsettled c =
    unsettled triangle phantom_shown phantom_tables passes (λ text. (c.names.ensures.exact text).0) (λ i. refl) refl 0 3 (omega arith) (omega arith) refl

pub returns-clause-least : goal.returns-clause-least
returns-clause-least c = record { reached = inl refl; least = no_path 0 }

pub returns-clause-nowhere : goal.returns-clause-nowhere
returns-clause-nowhere c = settled triangle nowhere_shown triangle_tables passes (λ text. (c.names.ensures.exact text).0) (λ i. refl) refl refl

pub returns-clause-offered : goal.returns-clause-offered
returns-clause-offered c = holds_gives triangle phantom_shown 0 3 (route 3 (Over 0)) refl
