use Rattle.std.proofs.Common.{◌<◌, ◌-◌, length, arith, refl}
use Rattle.std.proofs.lemmas.List.{get_or-take, get_or-drop}
use Rattle.rip_log.proofs.blocks.block_at.Goals as goal

pub returns : goal.returns
returns c = λ k h.
    let lt : k < length c.args.text.now - c.args.at = omega (arith, c.requires) in
    rw (c.in-Some.ensures.cases.same, get_or-take, get_or-take, get_or-drop) refl
