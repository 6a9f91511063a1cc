use Rattle.std.proofs.Common.{◌≤◌, sym, ap, ◌∙◌, rules}
use Rattle.rip_wire.specs.Prefix.{mask_of}
use Rattle.rip_wire.specs.Message.{bits_of_mask}
use Rattle.rip_wire.proofs.MaskLemmas.{bits_of_mask-mask_of, bits_of_mask-None}
use Rattle.rip_wire.proofs.reading.length_of_mask.Goals as goal

pub returns-then-mask-mask_of_length-clause-value : goal.returns-then-mask-mask_of_length-clause-value
returns-then-mask-mask_of_length-clause-value c =
    let few : c.leading_ones-length.result ≤ 32 = search rules in
    sym (ap bits_of_mask (c.if-mask-mask_of_length.true ∙ c.mask_of_length.ensures) ∙ bits_of_mask-mask_of c.leading_ones-length.result few)

pub returns-else-mask-mask_of_length-clause-value : goal.returns-else-mask-mask_of_length-clause-value
returns-else-mask-mask_of_length-clause-value c =
    bits_of_mask-None c.args.mask (λ h. c.if-mask-mask_of_length.false (h ∙ ap mask_of (sym c.leading_ones-length.ensures) ∙ sym c.mask_of_length.ensures))
