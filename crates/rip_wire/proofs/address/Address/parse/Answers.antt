use Rattle.std.proofs.Common.{◌∙◌, sym}
use Rattle.rip_wire.proofs.address.Address.parse.Goals as goal

pub returns-clause-exact : goal.returns-clause-exact
returns-clause-exact c a small =
    let exact = c.parse_bytes.ensures.exact a small in
    (λ h. sym c.as_bytes.ensures.value ∙ exact.0 h, λ e. exact.1 (c.as_bytes.ensures.value ∙ e))
