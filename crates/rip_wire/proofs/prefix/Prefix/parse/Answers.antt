use Rattle.std.proofs.Common.{◌≡◌, ◌∙◌, sym, ap, subst, true, false, Some, None, arith}
use Rattle.std.specs.Str.{IsAscii}
use Rattle.rip_wire.specs.Prefix.{prefix_text}
use Rattle.rip_wire.proofs.ParsingLemmas.{same_bytes, bytes_same, prefix_in-finds, prefix_in-none}
use Rattle.rip_wire.proofs.TextLemmas.{IsAscii-prefix_text}
use Rattle.rip_wire.proofs.prefix.Prefix.parse.Goals as goal

pub returns-in_err-prefix-clause-value : goal.returns-in_err-prefix-clause-value
returns-in_err-prefix-clause-value c =
    c.from_residual.ensures
    ∙ prefix_in-none c.args.text.now (λ p is e. let clash : None ≡ Some p = sym c.in_err-prefix.was ∙ c.read_prefix.ensures.prefix p is e in cc clash)

pub returns-then-eq-clause-value : goal.returns-then-eq-clause-value
returns-then-eq-clause-value c =
    let text : c.args.text.now ≡ prefix_text c.in_ok-prefix.prefix = sym (same_bytes _ _ (sym c.eq.ensures ∙ c.if-eq.true)) ∙ c.encode.ensures.text in
    sym (prefix_in-finds c.args.text.now c.in_ok-prefix.prefix c.in_ok-prefix.ensures.fits text)

pub returns-then-eq-clause-ascii : goal.returns-then-eq-clause-ascii
returns-then-eq-clause-ascii c _ =
    let text : c.args.text.now ≡ prefix_text c.in_ok-prefix.prefix = sym (same_bytes _ _ (sym c.eq.ensures ∙ c.if-eq.true)) ∙ c.encode.ensures.text in
    let few = c.in_ok-prefix.ensures.fits.0 in
    subst IsAscii (sym text) (IsAscii-prefix_text c.in_ok-prefix.prefix c.in_ok-prefix.ensures.fits.1 (omega arith))

pub returns-else-eq-clause-value : goal.returns-else-eq-clause-value
returns-else-eq-clause-value c =
    prefix_in-none c.args.text.now (λ p is e.
    let same : Some c.in_ok-prefix.prefix ≡ Some p = sym c.in_ok-prefix.was ∙ c.read_prefix.ensures.prefix p is e in
    let prefix : c.in_ok-prefix.prefix ≡ p = cc same in
    let yes = bytes_same c.encode.result.now c.args.text.now (c.encode.ensures.text ∙ ap prefix_text prefix ∙ sym e) in
    let clash : true ≡ false = sym yes ∙ sym c.eq.ensures ∙ c.if-eq.false in
    cc clash)
