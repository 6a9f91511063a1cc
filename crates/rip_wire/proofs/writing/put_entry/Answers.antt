use Rattle.std.proofs.Common.{◌+◌, ◌∙◌, arith}
use Rattle.rip_wire.proofs.WriteLemmas.{drop_on}
use Rattle.rip_wire.proofs.writing.put_entry.Goals as goal

pub returns-clause-others : goal.returns-clause-others
returns-clause-others c =
    let at = c.args.at in
    drop_on (at + 16 + 4) (at + 20) _ _ (omega arith) c.put_u32-4.ensures.others
    ∙ drop_on (at + 12 + 4) (at + 20) _ _ (omega arith) c.put_u32-3.ensures.others
    ∙ drop_on (at + 8 + 4) (at + 20) _ _ (omega arith) c.put_u32-2.ensures.others
    ∙ drop_on (at + 4 + 4) (at + 20) _ _ (omega arith) c.put_u32.ensures.others
    ∙ drop_on (at + 2 + 2) (at + 20) _ _ (omega arith) c.put_u16-2.ensures.others
    ∙ drop_on (at + 2) (at + 20) _ _ (omega arith) c.put_u16.ensures.others
