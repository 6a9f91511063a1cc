use Rattle.std.proofs.Common.{◌≡◌, ◌∙◌, ap, arith, decimal, Some, subst, sym}
use Rattle.ripaudit.proofs.SelectionTextLemmas.{different, parsed_vlan, same_text}
use Rattle.ripaudit.specs.SelectionTexts.{IsVlanText}
use Rattle.ripaudit.proofs.selections.vlan_of.Goals as goal
use Rattle.ripaudit.proofs.selections.vlan_of.Goals.{then-vlan-eq0-via-then-vlan-eq0, then-vlan-eq0-via-else-vlan-eq0+then-vlan-gt-MOST_VLAN, then-vlan-eq0-via-else-vlan-eq0+else-vlan-gt-MOST_VLAN+then-ne}

pub returns-in_err-vlan : goal.returns-in_err-vlan
returns-in_err-vlan c vlan = (
  λ e. absurd (cc (sym c.from_residual.ensures ∙ e)),
  λ is. absurd (cc (sym c.in_err-vlan.was ∙ parsed_vlan vlan c.args.text.now c.parse.result c.ok.result is c.parse.ensures.value.0 c.ok.ensures.value)),
)

pub returns-then-vlan-eq0 : goal.returns-then-vlan-eq0
returns-then-vlan-eq0 c vlan =
    let found : IsVlanText c.args.text.now vlan → c.in_ok-vlan.vlan ≡ vlan = λ is. cc (sym c.in_ok-vlan.was ∙ parsed_vlan vlan c.args.text.now c.parse.result c.ok.result is c.parse.ensures.value.0 c.ok.ensures.value) in
    elim c.then-vlan-eq0.branch [
      | then-vlan-eq0-via-then-vlan-eq0 w ↦ (λ e. cc e, λ is. absurd (omega (arith, found is, is.some, w.if-vlan-eq0.true)))
      | then-vlan-eq0-via-else-vlan-eq0+then-vlan-gt-MOST_VLAN w ↦ (λ e. cc e, λ is. absurd (omega (arith, found is, is.few, w.if-vlan-gt-MOST_VLAN.true)))
      | then-vlan-eq0-via-else-vlan-eq0+else-vlan-gt-MOST_VLAN+then-ne w ↦ (λ e. cc e, λ is. different w.format.result.now c.args.text.now (w.if-ne.ensures) (w.format.ensures.text ∙ ap decimal (found is) ∙ sym is.text_is))
    ]

pub returns : goal.returns
returns c vlan =
    let found : IsVlanText c.args.text.now vlan → c.in_ok-vlan.vlan ≡ vlan = λ is. cc (sym c.in_ok-vlan.was ∙ parsed_vlan vlan c.args.text.now c.parse.result c.ok.result is c.parse.ensures.value.0 c.ok.ensures.value) in (
      λ e. let same : c.in_ok-vlan.vlan ≡ vlan = cc e in
          subst (IsVlanText c.args.text.now) same (record { text_is = sym (same_text c.format.result.now c.args.text.now c.if-ne.ensures) ∙ c.format.ensures.text; some = omega (arith, c.if-vlan-eq0.false); few = c.if-vlan-gt-MOST_VLAN.false }),
      λ is. ap Some (found is),
    )
