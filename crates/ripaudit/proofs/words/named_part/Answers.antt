use Rattle.std.proofs.Common.{◌≡◌, ◌∙◌, None, Some, ap, arith, refl, sym}
use Rattle.std.proofs.lemmas.Str.Pattern.{split_parts}
use Rattle.rip_report.specs.Selections.{Selection}
use Rattle.ripaudit.specs.CaptureWords.{link, which}
use Rattle.ripaudit.specs.SelectionTexts.{selection_in}
use Rattle.ripaudit.proofs.CaptureWordLemmas.{found_part, lacks}
use Rattle.ripaudit.proofs.SelectionTextLemmas.{named_so, part_alone, part_behind}
use Rattle.ripaudit.proofs.words.named_part.Goals as goal

pub returns-in_err-named_selection-in-Some-clause-found : goal.returns-in_err-named_selection-in-Some-clause-found
returns-in_err-named_selection-in-Some-clause-found c = λ part is some.
    let parts = split_parts 64 c.args.text.now (Some (c.in-Some.link, c.in-Some.which)) c.in-Some.ensures.cases (omega arith) in
    let (selection, name, what, e) = part_behind c.args.text.now c.in-Some.link.now c.in-Some.which.now part parts.0 (lacks 64 _ parts.1) is in
    absurd (c.in_err-named_selection-in-Some.ensures.found selection what)

pub returns-in_ok-named_selection-in-Some-clause-named : goal.returns-in_ok-named_selection-in-Some-clause-named
returns-in_ok-named_selection-in-Some-clause-named c =
    let parts = split_parts 64 c.args.text.now (Some (c.in-Some.link, c.in-Some.which)) c.in-Some.ensures.cases (omega arith) in
    let selection = selection_in c.in_ok-named_selection-in-Some.field-0 in
    named_so c.args.text.now c.in-Some.link.now c.args.path.now selection c.part_of_file.result
    (λ name. which c.in-Some.link.now c.in-Some.which.now selection parts.0 name c.in_ok-named_selection-in-Some.ensures.named refl) c.part_of_file.ensures.named

pub returns-in_ok-named_selection-in-Some-clause-found : goal.returns-in_ok-named_selection-in-Some-clause-found
returns-in_ok-named_selection-in-Some-clause-found c = λ part is some.
    let parts = split_parts 64 c.args.text.now (Some (c.in-Some.link, c.in-Some.which)) c.in-Some.ensures.cases (omega arith) in
    let own = selection_in c.in_ok-named_selection-in-Some.field-0 in
    let (selection, name, what, e) = part_behind c.args.text.now c.in-Some.link.now c.in-Some.which.now part parts.0 (lacks 64 _ parts.1) is in
    let same : own ≡ selection = c.in_ok-named_selection-in-Some.ensures.found selection what in
    found_part c.in-Some.link.now c.in-Some.link.now own c.args.path.now c.args.path.now part c.part_of_file.result refl refl
    (e ∙ ap (λ (h : Selection). record { link = c.in-Some.link.now; selection = h }) (sym same)) name some c.part_of_file.ensures.found

pub returns-in-None-clause-named : goal.returns-in-None-clause-named
returns-in-None-clause-named c =
    named_so c.args.text.now c.args.text.now c.args.path.now (selection_in c.nothing.result) c.part_of_file-in-None.result
    (λ name. link name (ap (λ (h : Selection). record { link = c.args.text.now; selection = h }) c.nothing.ensures)) c.part_of_file-in-None.ensures.named

pub returns-in-None-clause-found : goal.returns-in-None-clause-found
returns-in-None-clause-found c = λ part is some.
    let without = lacks 64 _ (split_parts 64 c.args.text.now None c.in-None.ensures.cases (omega arith)) in
    let (name, e) = part_alone c.args.text.now part without is in
    found_part c.args.text.now c.args.text.now (selection_in c.nothing.result) c.args.path.now c.args.path.now part c.part_of_file-in-None.result refl refl
    (e ∙ ap (λ (h : Selection). record { link = c.args.text.now; selection = h }) (sym c.nothing.ensures)) name some c.part_of_file-in-None.ensures.found
