use Rattle.std.proofs.Common.{refl, arith}
use Rattle.rip_check.specs.Examples.{keeper, keeper_shown, keeper_tables, route}
use Rattle.rip_check.specs.declared.way.Way.TheVariants.{Here, Over}
use Rattle.rip_check.proofs.CheckingLemmas.{Passes}
use Rattle.rip_check.proofs.ExampleLemmas.{settled, unsettled}
use Rattle.rip_check.proofs.laws.examples.keeper.Goals as goal

passes : Passes keeper
passes = record { counts = refl; links = refl; lists = refl; routers = refl; interfaces = refl; inside = refl; prefixes = refl; places = refl; has = refl; also = refl }

pub returns-clause-settled : goal.returns-clause-settled
returns-clause-settled c = settled keeper (keeper_shown 5 5) (keeper_tables (route 5 Here)) passes (λ text. (c.names.ensures.exact text).0) (λ i. refl) refl refl

pub returns-clause-unsettled : goal.returns-clause-unsettled
returns-clause-unsettled c =
    unsettled keeper (keeper_shown 2 16) (keeper_tables (route 2 (Over 2))) passes (λ text. (c.names.ensures.exact text).0) (λ i. refl) refl 0 3 (omega arith) (omega arith) refl
