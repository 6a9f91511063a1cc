use Rattle.std.proofs.Common.{arith, rules, ◌+◌, ◌-◌}
use Rattle.std.proofs.lemmas.Slice.{drop-put_mid}
use Rattle.rip_wire.proofs.writing.put_u16.Goals as goal

pub returns-clause-others : goal.returns-clause-others
returns-clause-others c =
    let room = c.requires in
    drop-put_mid c.args.at (c.args.at + 2 - c.args.at) c.args.room.now _ (c.args.at + 2) (omega arith) (omega arith) (search rules)
