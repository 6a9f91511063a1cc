use Rattle.std.proofs.Common.{arith, ap, length}
use Rattle.std.proofs.lemmas.Fmt.{length-decimal-le}
use Rattle.rip_wire.proofs.text.put_length.Goals as goal

pub put-requires : goal.put-requires
put-requires c =
    let few = c.requires.few in
    let short = length-decimal-le 2 c.args.prefix_len (omega arith) (omega arith) (omega arith) in
    let same = ap length c.format.ensures.text in
    omega arith

pub returns-clause-after : goal.returns-clause-after
returns-clause-after c =
    let few = c.requires.few in
    let short = length-decimal-le 2 c.args.prefix_len (omega arith) (omega arith) (omega arith) in
    let same = ap length c.format.ensures.text in
    omega arith
