use Rattle.std.proofs.Common.{◌≡◌, ◌∙◌, sym, ap, subst, Some, None}
use Rattle.std.specs.Str.{IsAscii}
use Rattle.rip_wire.proofs.ParsingLemmas.{address_in-finds, address_in-none}
use Rattle.rip_wire.proofs.TextLemmas.{IsAscii-address_text}
use Rattle.rip_wire.proofs.address.Address.parse_bytes.Goals as goal

pub returns-in-Some-clause-value : goal.returns-in-Some-clause-value
returns-in-Some-clause-value c =
    let number = c.new.ensures in
    ap Some number ∙ sym (address_in-finds c.args.text.now c.in-Some.number (c.in-Some.ensures.said).0 (c.in-Some.ensures.said).1)

pub returns-in-Some-clause-ascii : goal.returns-in-Some-clause-ascii
returns-in-Some-clause-ascii c _ = subst IsAscii (sym (c.in-Some.ensures.said).1) (IsAscii-address_text c.in-Some.number (c.in-Some.ensures.said).0)

pub returns-in-None-clause-value : goal.returns-in-None-clause-value
returns-in-None-clause-value c =
    address_in-none c.args.text.now (λ a small e. let clash : None ≡ Some a = sym c.in-None.is ∙ c.read_address.ensures.found a small e in cc clash)
