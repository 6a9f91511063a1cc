use Rattle.std.proofs.Common.{◌∙◌, Some, sym, ap}
use Rattle.rip_wire.proofs.MaskLemmas.{bits_of_mask-ones}
use Rattle.rip_wire.proofs.reading.length_of_known_mask.Goals as goal

pub returns-clause-value : goal.returns-clause-value
returns-clause-value c = (bits_of_mask-ones c.args.mask c.requires).0 ∙ ap Some (sym c.leading_ones.ensures)
