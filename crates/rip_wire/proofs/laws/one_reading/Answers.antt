use Rattle.std.proofs.Common.{◌≡◌, ◌∙◌, sym}
use Rattle.rip_wire.specs.Message.{response}
use Rattle.rip_wire.proofs.BindLemmas.{same_Ok}
use Rattle.rip_wire.proofs.MessageLemmas.{response_again}
use Rattle.rip_wire.proofs.laws.one_reading.Goals as goal

pub returns : goal.returns
returns c entries others b spelled again =
    let same : response entries ≡ response others = same_Ok (response entries) (response others) (sym (response_again b entries spelled) ∙ response_again b others again) in
    cc same
