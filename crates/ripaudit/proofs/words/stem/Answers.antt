use Rattle.std.proofs.Common.{◌∙◌, ap, List, ℕ, ◌++◌, ◌∷◌, arith, Some, None, refl, subst}
use Rattle.ripaudit.specs.CaptureWords.{cut, front, none}
use Rattle.ripaudit.proofs.CaptureWordLemmas.{IsRsplitOnceResult, last_parts, nothing, something}
use Rattle.ripaudit.proofs.words.stem.Goals as goal

pub returns-in-Some : goal.returns-in-Some
returns-in-Some c =
    let parts = last_parts 46 c.args.name.now (Some (c.in-Some.stem, c.in-Some.field-0-1)) c.in-Some.ensures.cases (omega arith) in
    cut c.in-Some.field-0-1.now parts.0 parts.1 (something c.in-Some.stem.now _ c.is_empty.ensures c.if-not-is_empty.true)

pub returns-in_default : goal.returns-in_default
returns-in_default c =
    let parts = last_parts 46 c.args.name.now (Some (c.in-Some.stem, c.in-Some.field-0-1)) c.in-Some.ensures.cases (omega arith) in
    let empty = nothing c.in-Some.stem.now _ c.is_empty.ensures c.if-not-is_empty.false in
    front c.in-Some.field-0-1.now (parts.0 ∙ ap (λ (x : List ℕ). x ++ (46 ∷ c.in-Some.field-0-1.now)) empty) parts.1 refl

pub returns-in_default-2 : goal.returns-in_default-2
returns-in_default-2 c = none (last_parts 46 c.args.name.now None (subst (IsRsplitOnceResult 46 c.args.name.now) c.in_default.is c.rsplit_once.ensures.cases) (omega arith)) refl
