use Rattle.std.proofs.Common.{◌≡◌, ◌∙◌, sym, Some, None, refl, arith, decimal}
use Rattle.rip_wire.specs.Address.{address_text}
use Rattle.rip_wire.proofs.ParsingLemmas.{address_text-lacks_slash, split_none, split_some, parsed, some_block}
use Rattle.rip_wire.proofs.prefix.read_prefix.Goals as goal

pub returns-in_err-network-clause-prefix : goal.returns-in_err-network-clause-prefix
returns-in_err-network-clause-prefix c p is e =
    absurd (split_none 47 c.args.text.now (address_text p.network) (decimal p.prefix_len) (omega arith) c.in_err-network.ensures.cases e (address_text-lacks_slash p.network is.1))

pub returns-in_err-read_address-clause-prefix : goal.returns-in_err-read_address-clause-prefix
returns-in_err-read_address-clause-prefix c p is e =
    let parts = split_some 47 c.args.text.now (address_text p.network) (decimal p.prefix_len) _ _ (omega arith) c.in_ok-network.ensures.cases e (address_text-lacks_slash p.network is.1) in
    let clash : None ≡ Some p.network = sym c.in_err-read_address.was ∙ c.read_address.ensures.found p.network is.1 (c.as_bytes.ensures.value ∙ parts.0) in
    absurd (cc clash)

pub returns-in_err-ok-clause-prefix : goal.returns-in_err-ok-clause-prefix
returns-in_err-ok-clause-prefix c p is e =
    let few = is.0 in
    let parts = split_some 47 c.args.text.now (address_text p.network) (decimal p.prefix_len) _ _ (omega arith) c.in_ok-network.ensures.cases e (address_text-lacks_slash p.network is.1) in
    let clash : None ≡ Some p.prefix_len = sym c.in_err-ok.was ∙ parsed p.prefix_len _ _ _ (omega arith) parts.1 c.parse.ensures.value.0 c.ok.ensures.value in
    absurd (cc clash)

pub returns-clause-prefix : goal.returns-clause-prefix
returns-clause-prefix c p is e =
    let few = is.0 in
    let parts = split_some 47 c.args.text.now (address_text p.network) (decimal p.prefix_len) _ _ (omega arith) c.in_ok-network.ensures.cases e (address_text-lacks_slash p.network is.1) in
    let network : Some c.in_ok-read_address.field-0 ≡ Some p.network = sym c.in_ok-read_address.was ∙ c.read_address.ensures.found p.network is.1 (c.as_bytes.ensures.value ∙ parts.0) in
    let length : Some c.in_ok-ok.field-0 ≡ Some p.prefix_len = sym c.in_ok-ok.was ∙ parsed p.prefix_len _ _ _ (omega arith) parts.1 c.parse.ensures.value.0 c.ok.ensures.value in
    let first : c.in_ok-read_address.field-0 ≡ p.network = cc network in
    let second : c.in_ok-ok.field-0 ≡ p.prefix_len = cc length in
    some_block c.new-2.result _ p c.new-2.ensures (rw (c.new.ensures, first, second) refl) is
