use Rattle.std.proofs.Common.{subst, sym}
use Rattle.std.specs.Str.{IsAscii}
use Rattle.rip_wire.proofs.ParsingLemmas.{address_in-gives, address_in-finds}
use Rattle.rip_wire.proofs.TextLemmas.{IsAscii-address_text}
use Rattle.rip_wire.proofs.laws.address_texts.Goals as goal

pub returns-clause-exact : goal.returns-clause-exact
returns-clause-exact c text a = (address_in-gives text a, λ is. address_in-finds text a is.0 is.1)

pub returns-clause-ascii : goal.returns-clause-ascii
returns-clause-ascii c text a h =
    let found = address_in-gives text a h in
    subst IsAscii (sym found.1) (IsAscii-address_text a found.0)
