use Rattle.std.proofs.Common.{refl, ap, arith}
use Rattle.rip_plan.proofs.PrefixNetworkLemmas.{plan_network}
use Rattle.rip_check.specs.Tables.{Route}
use Rattle.rip_check.specs.Examples.{with_leaf, leaf_shown, leaf_tables, route}
use Rattle.rip_check.specs.declared.way.Way.TheVariants.{Over, Unreachable}
use Rattle.rip_check.proofs.CheckingLemmas.{Passes, lawful}
use Rattle.rip_check.proofs.CheckedPlaceLemmas.{fits_gives}
use Rattle.rip_check.proofs.RouteLemmas.{one_route}
use Rattle.rip_check.proofs.ExampleLemmas.{settled}
use Rattle.rip_check.proofs.laws.examples.leaf.Goals as goal

passes : Passes with_leaf
passes = record { counts = refl; links = refl; lists = refl; routers = refl; interfaces = refl; inside = refl; prefixes = refl; places = refl; has = refl; also = refl }

pub returns-clause-settled : goal.returns-clause-settled
returns-clause-settled c = settled with_leaf leaf_shown leaf_tables passes (λ text. (c.names.ensures.exact text).0) (λ i. refl) refl refl

pub returns-clause-hidden : goal.returns-clause-hidden
returns-clause-hidden c = fits_gives with_leaf leaf_shown 3 0 (route 2 (Over 1)) refl

pub returns-clause-reachable : goal.returns-clause-reachable
returns-clause-reachable c = λ fits.
    let plan = lawful with_leaf passes (λ text. (c.names.ensures.exact text).0) in
    let one = one_route with_leaf (plan_network with_leaf plan) leaf_shown 3 0 (route 16 Unreachable) (route 2 (Over 1)) (omega arith) fits (fits_gives with_leaf leaf_shown 3 0 (route 2 (Over 1)) refl) in
    absurd (omega (arith, ap (λ (t : Route). t.metric) one))
