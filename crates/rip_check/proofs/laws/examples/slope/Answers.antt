use Rattle.std.proofs.Common.{inl, refl, arith}
use Rattle.rip_plan.specs.Relations.{IsConnected, IsInterface, IsNeighbour}
use Rattle.rip_check.specs.Paths.{MayHop}
use Rattle.rip_check.proofs.CheckedPlaceLemmas.{not_attached, takes}
use Rattle.rip_check.specs.Examples.{slope, slope_shown, slope_tables}
use Rattle.rip_check.proofs.CheckingLemmas.{Passes}
use Rattle.rip_check.proofs.ExampleLemmas.{settled, unsettled}
use Rattle.rip_check.proofs.laws.examples.slope.Goals as goal

passes : Passes slope
passes = record { counts = refl; links = refl; lists = refl; routers = refl; interfaces = refl; inside = refl; prefixes = refl; places = refl; has = refl; also = refl }

pub returns-clause-settled : goal.returns-clause-settled
returns-clause-settled c = settled slope (slope_shown 6) (slope_tables 6) passes (λ text. (c.names.ensures.exact text).0) (λ i. refl) refl refl

pub returns-clause-unsettled : goal.returns-clause-unsettled
returns-clause-unsettled c =
    unsettled slope (slope_shown 2) (slope_tables 2) passes (λ text. (c.names.ensures.exact text).0) (λ i. refl) refl 0 1 (omega arith) (omega arith) refl

pub returns-clause-path : goal.returns-clause-path
returns-clause-path c =
    let here : IsInterface slope 1 0 1 5 = record { interface = _; listed = refl; router = refl; link = refl; cost = refl } in
    let there : IsInterface slope 2 1 1 1 = record { interface = _; listed = refl; router = refl; link = refl; cost = refl } in
    let near : IsNeighbour slope 0 1 1 = record { other = λ e. absurd (omega (arith, e)); here = (5, (1, here)); there = (1, (2, there)) } in
    let last : IsConnected slope 3 1 2 1 = record { interface = _; listed = refl; router = refl; link = refl; direct = refl } in
    let hop : MayHop slope 1 0 1 1 = record { neighbour = near; goes_on = takes slope 0 1 refl; tells = not_attached slope 1 1 1 refl } in
    (5, 1, (1, here), hop, (1, inl (2, record { listed = refl }, (3, last))), refl)
