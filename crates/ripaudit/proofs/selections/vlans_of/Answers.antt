use Rattle.std.proofs.Common.{◌≡◌, ◌∙◌, ◌++◌, ◌∷◌, [], None, Some, rules, ap, append_assoc, arith, refl, subst, sym}
use Rattle.std.proofs.lemmas.Str.Pattern.{split_parts}
use Rattle.ripaudit.specs.SelectionTexts.{AreVlanTexts, last, more}
use Rattle.ripaudit.proofs.CaptureWordLemmas.{lacks}
use Rattle.ripaudit.proofs.SelectionTextLemmas.{first_vlan, last_vlan}
use Rattle.ripaudit.proofs.selections.vlans_of.Goals as goal

pub returns-in_err-vlan_of-clause-found : goal.returns-in_err-vlan_of-clause-found
returns-in_err-vlan_of-clause-found c = λ vlans are.
    let (others, e, rest) = c.numbers.invariant.1.whole vlans are.texts in
    let without = lacks 46 _ (split_parts 46 c.numbers.rest.now None c.in_default.ensures.cases (omega arith)) in
    let (vlan, is, one) = last_vlan c.numbers.rest.now others without rest in
    absurd (cc (sym c.in_err-vlan_of.was ∙ (c.vlan_of.ensures vlan).1 is))

pub returns-in_default-clause-named : goal.returns-in_default-clause-named
returns-in_default-clause-named c =
    let vlan = c.in_ok-vlan_of.field-0 in
    record {
      texts = subst (AreVlanTexts c.args.text.now) (sym c.push.ensures.items)
          (c.numbers.invariant.1.sound (vlan ∷ []) (last c.numbers.rest.now (vlan ∷ []) vlan ((c.vlan_of.ensures vlan).0 c.in_ok-vlan_of.was) refl));
      few = omega (arith, c.push.ensures.len, c.len.ensures.value, c.numbers-test.true);
    }

pub returns-in_default-clause-found : goal.returns-in_default-clause-found
returns-in_default-clause-found c = λ vlans are.
    let (others, e, rest) = c.numbers.invariant.1.whole vlans are.texts in
    let without = lacks 46 _ (split_parts 46 c.numbers.rest.now None c.in_default.ensures.cases (omega arith)) in
    let (vlan, is, one) = last_vlan c.numbers.rest.now others without rest in
    let same : c.in_ok-vlan_of.field-0 ≡ vlan = cc (sym c.in_ok-vlan_of.was ∙ (c.vlan_of.ensures vlan).1 is) in
    c.push.ensures.items ∙ ap (λ v. c.numbers.vlans.items ++ v ∷ []) same ∙ ap (λ l. c.numbers.vlans.items ++ l) (sym one) ∙ sym e

pub returns-in_err-vlan_of-2-clause-found : goal.returns-in_err-vlan_of-2-clause-found
returns-in_err-vlan_of-2-clause-found c = λ vlans are.
    let (others, e, rest) = c.numbers.invariant.1.whole vlans are.texts in
    let parts = split_parts 46 c.numbers.rest.now (Some (c.in-Some.number, c.in-Some.more)) c.in-Some.ensures.cases (omega arith) in
    let (vlan, later, is, more_are, one) = first_vlan c.numbers.rest.now c.in-Some.number.now c.in-Some.more.now others parts.0 (lacks 46 _ parts.1) rest in
    absurd (cc (sym c.in_err-vlan_of-2.was ∙ (c.vlan_of-in-numbers.ensures vlan).1 is))

pub numbers-preserved : goal.numbers-preserved
numbers-preserved c =
    let parts = split_parts 46 c.numbers.rest.now (Some (c.in-Some.number, c.in-Some.more)) c.in-Some.ensures.cases (omega arith) in
    let number = c.in_ok-vlan_of-2.field-0 in
    let items = c.numbers.vlans.items in (
      search rules,
      record {
        sound = λ others h. subst (AreVlanTexts c.args.text.now) (sym (append_assoc items (number ∷ []) others) ∙ ap (λ l. l ++ others) (sym c.push-in-numbers.ensures.items))
            (c.numbers.invariant.1.sound (number ∷ others)
            (more c.numbers.rest.now (number ∷ others) c.in-Some.number.now c.in-Some.more.now others number parts.0 ((c.vlan_of-in-numbers.ensures number).0 c.in_ok-vlan_of-2.was) h refl));
        whole = λ all are.
            let (others, e, rest) = c.numbers.invariant.1.whole all are in
            let (vlan, later, is, more_are, one) = first_vlan c.numbers.rest.now c.in-Some.number.now c.in-Some.more.now others parts.0 (lacks 46 _ parts.1) rest in
            let same : number ≡ vlan = cc (sym c.in_ok-vlan_of-2.was ∙ (c.vlan_of-in-numbers.ensures vlan).1 is) in
            (later, e ∙ ap (λ l. items ++ l) one ∙ ap (λ v. items ++ v ∷ later) (sym same) ∙ sym (append_assoc items (number ∷ []) later) ∙ ap (λ l. l ++ later) (sym c.push-in-numbers.ensures.items), more_are);
      },
    )
