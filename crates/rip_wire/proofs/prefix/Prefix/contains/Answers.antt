use Rattle.std.proofs.Common.{◌≡◌, ◌∙◌, sym, ap, subst, refl, bit_and}
use Rattle.std.proofs.lemmas.Bool.{eqb-true, eq-eqb}
use Rattle.rip_wire.specs.Prefix.{Block, IsBlock, mask_of}
use Rattle.rip_wire.proofs.MaskLemmas.{contains_by_mask}
use Rattle.rip_wire.proofs.prefix.Prefix.contains.Goals as goal

pub returns : goal.returns
returns c =
    let masks = contains_by_mask c.args.self c.args.address (subst IsBlock c.self.view_is c.self.invariant) (rw c.get.ensures at c.get.type_inv) in
    let same : bit_and c.get.result c.mask.result ≡ bit_and c.args.address (mask_of c.args.self.prefix_len) = rw (c.get.ensures, c.mask.ensures) refl in
    let network = c.get-2.ensures ∙ ap (λ (p : Block). p.network) c.self.view_is in
    (λ h. masks.0 (sym same ∙ eqb-true _ _ h ∙ network), λ h. eq-eqb _ _ (same ∙ masks.1 h ∙ sym network))
