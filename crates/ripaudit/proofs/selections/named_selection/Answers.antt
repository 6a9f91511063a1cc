use Rattle.std.proofs.Common.{◌∙◌, [], ℕ, List, None, Some, ap, arith, inl, inr, refl, sym}
use Rattle.std.proofs.lemmas.Bool.{false≢true}
use Rattle.std.proofs.lemmas.Str.Pattern.{split_parts}
use Rattle.rip_report.specs.Selections.{Selection}
use Rattle.ripaudit.specs.SelectionTexts.{both, interface, vlans}
use Rattle.ripaudit.proofs.CaptureWordLemmas.{lacks}
use Rattle.ripaudit.proofs.SelectionTextLemmas.{no_vlans, only_both, only_one}
use Rattle.ripaudit.proofs.selections.named_selection.Goals as goal

-- this interface and these VLANs
abbrev made : List ℕ → List ℕ → Selection
made name numbers = record { interface = name; vlans = numbers }

pub returns-then-not-is_interface_name-clause-found : goal.returns-then-not-is_interface_name-clause-found
returns-then-not-is_interface_name-clause-found c = λ selection is.
    let parts = split_parts 64 c.args.text.now (Some (c.in-Some.interface, c.in-Some.numbers)) c.in-Some.ensures.cases (omega arith) in
    let (numbers, name, are, e) = only_both c.args.text.now c.in-Some.interface.now c.in-Some.numbers.now selection parts.0 (lacks 64 _ parts.1) is in
    absurd (false≢true (sym c.if-not-is_interface_name.true ∙ (c.is_interface_name.ensures (lacks 64 _ parts.1)).1 name))

pub returns-in_err-vlans-clause-found : goal.returns-in_err-vlans-clause-found
returns-in_err-vlans-clause-found c = λ selection is.
    let parts = split_parts 64 c.args.text.now (Some (c.in-Some.interface, c.in-Some.numbers)) c.in-Some.ensures.cases (omega arith) in
    let (numbers, name, are, e) = only_both c.args.text.now c.in-Some.interface.now c.in-Some.numbers.now selection parts.0 (lacks 64 _ parts.1) is in
    absurd (c.in_err-vlans.ensures.found numbers are)

pub returns-in-Some-clause-named : goal.returns-in-Some-clause-named
returns-in-Some-clause-named c =
    let parts = split_parts 64 c.args.text.now (Some (c.in-Some.interface, c.in-Some.numbers)) c.in-Some.ensures.cases (omega arith) in
    both c.in-Some.interface.now c.in-Some.numbers.now c.in_ok-vlans.vlans.items parts.0 ((c.is_interface_name.ensures (lacks 64 _ parts.1)).0 c.if-not-is_interface_name.false) c.in_ok-vlans.ensures.named refl

pub returns-in-Some-clause-found : goal.returns-in-Some-clause-found
returns-in-Some-clause-found c = λ selection is.
    let parts = split_parts 64 c.args.text.now (Some (c.in-Some.interface, c.in-Some.numbers)) c.in-Some.ensures.cases (omega arith) in
    let (numbers, name, are, e) = only_both c.args.text.now c.in-Some.interface.now c.in-Some.numbers.now selection parts.0 (lacks 64 _ parts.1) is in
    ap (made c.in-Some.interface.now) (c.in_ok-vlans.ensures.found numbers are) ∙ sym e

pub returns-then-is_interface_name-clause-named : goal.returns-then-is_interface_name-clause-named
returns-then-is_interface_name-clause-named c =
    let without = lacks 64 _ (split_parts 64 c.args.text.now None c.in_default.ensures.cases (omega arith)) in
    interface ((c.is_interface_name-2.ensures without).0 c.if-is_interface_name.true) (ap (made c.args.text.now) c.new-vlans.ensures)

pub returns-then-is_interface_name-clause-found : goal.returns-then-is_interface_name-clause-found
returns-then-is_interface_name-clause-found c = λ selection is.
    let without = lacks 64 _ (split_parts 64 c.args.text.now None c.in_default.ensures.cases (omega arith)) in
    let name = (c.is_interface_name-2.ensures without).0 c.if-is_interface_name.true in
    elim (only_one c.args.text.now selection without is) [
      | inl one ↦ ap (made c.args.text.now) c.new-vlans.ensures ∙ sym one.1
      | inr one ↦ absurd (no_vlans c.args.text.now one.0 name one.1)
    ]

pub returns-in_err-vlans-2-clause-found : goal.returns-in_err-vlans-2-clause-found
returns-in_err-vlans-2-clause-found c = λ selection is.
    let without = lacks 64 _ (split_parts 64 c.args.text.now None c.in_default.ensures.cases (omega arith)) in
    elim (only_one c.args.text.now selection without is) [
      | inl one ↦ absurd (false≢true (sym c.if-is_interface_name.false ∙ (c.is_interface_name-2.ensures without).1 one.0))
      | inr one ↦ absurd (c.in_err-vlans-2.ensures.found one.0 one.1)
    ]

pub returns-clause-named : goal.returns-clause-named
returns-clause-named c = vlans c.in_ok-vlans-2.vlans.items c.in_ok-vlans-2.ensures.named refl

pub returns-clause-found : goal.returns-clause-found
returns-clause-found c = λ selection is.
    let without = lacks 64 _ (split_parts 64 c.args.text.now None c.in_default.ensures.cases (omega arith)) in
    elim (only_one c.args.text.now selection without is) [
      | inl one ↦ absurd (false≢true (sym c.if-is_interface_name.false ∙ (c.is_interface_name-2.ensures without).1 one.0))
      | inr one ↦ ap (made []) (c.in_ok-vlans-2.ensures.found one.0 one.1) ∙ sym one.2
    ]
