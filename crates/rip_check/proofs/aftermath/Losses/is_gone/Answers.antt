use Rattle.std.proofs.Common.{◌∙◌, ◌<◌, Some, ap, length, sym, arith}
use Rattle.std.proofs.lemmas.Option.{slice_get-get_or}
use Rattle.rip_check.proofs.aftermath.Losses.is_gone.Goals as goal

pub returns : goal.returns
returns c =
    let left = c.requires.left in
    let marks = c.args.self.now.after.now.gone.items in
    let lt : c.args.prefix < length marks = omega (arith, c.requires.prefix, left.room.gone) in
    left.gone c.args.prefix c.index.result.now (slice_get-get_or marks c.args.prefix c.index.result.now lt ∙ ap Some (sym c.index.ensures))
