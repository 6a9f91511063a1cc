use Rattle.std.proofs.Common.{sym}
use Rattle.rip_table.proofs.recent.Recent.find.Goals as goal

pub returns-then-is_at-clause-value : goal.returns-then-is_at-clause-value
returns-then-is_at-clause-value c =
    let n = c.args.plan.now in
    sym (c.senders.ensures.finds n c.args.link_name.now c.args.address _ c.lawful.ensures (c.is_at.ensures c.if-is_at.true))
