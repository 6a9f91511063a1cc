use Rattle.std.proofs.Common.{List, ℕ, Some, None, ap, arith, sym, subst, ◌≢◌, ◌∙◌, []}
use Rattle.std.proofs.lemmas.Str.Pattern.{split_parts, split_after}
use Rattle.rip_report.specs.Selections.{Selection}
use Rattle.ripaudit.specs.CaptureWords.{IsStem, both, file}
use Rattle.ripaudit.specs.SelectionTexts.{selection_in}
use Rattle.ripaudit.specs.Texts.{Lacks}
use Rattle.ripaudit.proofs.CaptureWordLemmas.{lacks, lacks_at, named_both, named_file, found_both, found_part, has_byte, has_name, one_file_name, one_stem}
use Rattle.ripaudit.proofs.words.capture_word.Goals as goal

pub returns-in-Some-clause-named : goal.returns-in-Some-clause-named
returns-in-Some-clause-named c =
    let parts = split_parts 61 c.args.word.now (Some (c.in-Some.text, c.in-Some.path)) c.in-Some.ensures.cases (omega arith) in
    named_both c.args.word.now c.in-Some.text.now c.in-Some.path.now c.named_part.result parts.0 (lacks 61 _ parts.1) c.named_part.ensures.named

pub returns-in-Some-clause-found : goal.returns-in-Some-clause-found
returns-in-Some-clause-found c part path (both text e l named some) =
    let parts = split_after 61 c.args.word.now text path (Some (c.in-Some.text, c.in-Some.path)) c.in-Some.ensures.cases (omega arith) e (lacks_at 61 text l) in
    found_both c.in-Some.text.now text c.in-Some.path.now path part c.named_part.result parts.0 parts.1 named some c.named_part.ensures.found
returns-in-Some-clause-found c part path (file name link l d f s named is p) =
    let parts = split_parts 61 c.args.word.now (Some (c.in-Some.text, c.in-Some.path)) c.in-Some.ensures.cases (omega arith) in
    absurd (has_byte 61 c.in-Some.text.now c.in-Some.path.now (subst (Lacks 61) parts.0 l))

pub returns-in_default-clause-named : goal.returns-in_default-clause-named
returns-in_default-clause-named c =
    let without = lacks 61 _ (split_parts 61 c.args.word.now None c.in-None.ensures.cases (omega arith)) in
    named_file c.args.word.now c.file_name.result.now c.stem.result.now (selection_in c.nothing.result) c.part_of_file.result c.nothing.ensures without c.in_default.not-text c.file_name.ensures c.stem.ensures
    c.part_of_file.ensures.named

pub returns-in_default-clause-found : goal.returns-in_default-clause-found
returns-in_default-clause-found c part path (both text e l named some) =
    let without = lacks 61 _ (split_parts 61 c.args.word.now None c.in-None.ensures.cases (omega arith)) in
    absurd (has_byte 61 text path (subst (Lacks 61) e without))
returns-in_default-clause-found c part path (file name link l d f s named is p) =
    let same = one_file_name c.args.word.now c.file_name.result.now name c.file_name.ensures f in
    let stem = one_stem name c.stem.result.now link (subst (λ (n : List ℕ). IsStem n c.stem.result.now) same c.stem.ensures) s in
    let some = has_name c.args.word.now name link f s named in
    let whole = is ∙ ap (λ (s : Selection). record { link = link; selection = s }) (sym c.nothing.ensures) in
    found_part c.stem.result.now link (selection_in c.nothing.result) c.args.word.now path part c.part_of_file.result stem (sym p) whole named (subst (λ (x : List ℕ). x ≢ []) (sym p) some) c.part_of_file.ensures.found
