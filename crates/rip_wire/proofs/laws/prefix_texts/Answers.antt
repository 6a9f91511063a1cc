use Rattle.std.proofs.Common.{subst, sym, arith}
use Rattle.std.specs.Str.{IsAscii}
use Rattle.rip_wire.proofs.ParsingLemmas.{prefix_in-gives, prefix_in-finds}
use Rattle.rip_wire.proofs.TextLemmas.{IsAscii-prefix_text}
use Rattle.rip_wire.proofs.laws.prefix_texts.Goals as goal

pub returns-clause-exact : goal.returns-clause-exact
returns-clause-exact c text p = (prefix_in-gives text p, λ is. prefix_in-finds text p is.0 is.1)

pub returns-clause-ascii : goal.returns-clause-ascii
returns-clause-ascii c text p h =
    let found = prefix_in-gives text p h in
    let few = found.0.0 in
    subst IsAscii (sym found.1) (IsAscii-prefix_text p found.0.1 (omega arith))
