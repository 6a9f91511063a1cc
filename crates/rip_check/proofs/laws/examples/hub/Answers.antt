use Rattle.std.proofs.Common.{refl, arith}
use Rattle.rip_check.specs.Examples.{IsSettledNetwork, hub, hub_shown, hub_tables}
use Rattle.rip_check.proofs.CheckingLemmas.{Passes, NamesTested}
use Rattle.rip_check.proofs.ExampleLemmas.{settled}
use Rattle.rip_check.proofs.laws.examples.hub.Goals as goal

passes : Passes hub
passes = record { counts = refl; links = refl; lists = refl; routers = refl; interfaces = refl; inside = refl; prefixes = refl; places = refl; has = refl; also = refl }

is_settled : NamesTested → IsSettledNetwork hub hub_shown hub_tables
is_settled tested = settled hub hub_shown hub_tables passes tested (λ i. refl) refl refl

pub returns-clause-settled : goal.returns-clause-settled
returns-clause-settled c = is_settled (λ text. (c.names.ensures.exact text).0)

pub returns-clause-apart : goal.returns-clause-apart
returns-clause-apart c = ((is_settled (λ text. (c.names.ensures.exact text).0)).right 1 4 (omega arith) (omega arith)).least
