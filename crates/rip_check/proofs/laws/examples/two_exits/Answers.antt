use Rattle.std.proofs.Common.{refl}
use Rattle.rip_check.specs.Examples.{two_exits, two_exits_shown, two_exits_tables}
use Rattle.rip_check.proofs.CheckingLemmas.{Passes}
use Rattle.rip_check.proofs.ExampleLemmas.{settled}
use Rattle.rip_check.proofs.laws.examples.two_exits.Goals as goal

passes : Passes two_exits
passes = record { counts = refl; links = refl; lists = refl; routers = refl; interfaces = refl; inside = refl; prefixes = refl; places = refl; has = refl; also = refl }

pub returns : goal.returns
returns c = settled two_exits two_exits_shown two_exits_tables passes (λ text. (c.names.ensures.exact text).0) (λ i. refl) refl refl
