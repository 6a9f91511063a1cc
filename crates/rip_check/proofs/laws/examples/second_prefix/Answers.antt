use Rattle.std.proofs.Common.{None, Some, refl}
use Rattle.rip_check.specs.Examples.{second_prefix, second_shown, second_tables}
use Rattle.rip_check.proofs.CheckingLemmas.{Passes}
use Rattle.rip_check.proofs.ExampleLemmas.{settled}
use Rattle.rip_check.proofs.laws.examples.second_prefix.Goals as goal

passes : Passes second_prefix
passes = record { counts = refl; links = refl; lists = refl; routers = refl; interfaces = refl; inside = refl; prefixes = refl; places = refl; has = refl; also = refl }

pub returns-clause-silent : goal.returns-clause-silent
returns-clause-silent c = settled second_prefix (second_shown None) second_tables passes (λ text. (c.names.ensures.exact text).0) (λ i. refl) refl refl

pub returns-clause-poisoned : goal.returns-clause-poisoned
returns-clause-poisoned c = settled second_prefix (second_shown (Some 16)) second_tables passes (λ text. (c.names.ensures.exact text).0) (λ i. refl) refl refl
