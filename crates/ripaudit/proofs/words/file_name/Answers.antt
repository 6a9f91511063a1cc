use Rattle.std.proofs.Common.{arith, Some, None, refl}
use Rattle.ripaudit.specs.CaptureWords.{below, alone}
use Rattle.ripaudit.proofs.CaptureWordLemmas.{last_parts}
use Rattle.ripaudit.proofs.words.file_name.Goals as goal

pub returns-in-Some : goal.returns-in-Some
returns-in-Some c =
    let parts = last_parts 47 c.args.path.now (Some (c.in-Some.field-0-0, c.in-Some.name)) c.in-Some.ensures.cases (omega arith) in
    below c.in-Some.field-0-0.now parts.0 parts.1

pub returns-in-None : goal.returns-in-None
returns-in-None c = alone (last_parts 47 c.args.path.now None c.in-None.ensures.cases (omega arith)) refl
