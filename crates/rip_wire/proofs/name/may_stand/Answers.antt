use Rattle.std.proofs.Common.{arith}
use Rattle.rip_wire.proofs.NameLemmas.{flag-at}
use Rattle.rip_wire.proofs.name.may_stand.Goals as goal

pub returns : goal.returns
returns c = flag-at c.args.byte c.from.result (omega (arith, c.ranges.byte.fits)) c.from.ensures
