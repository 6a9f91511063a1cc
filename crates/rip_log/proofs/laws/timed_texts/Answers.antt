use Rattle.std.proofs.Common.{subst, sym}
use Rattle.rip_log.specs.LogText.{AreLines}
use Rattle.rip_log.proofs.JudgeRelations.{WireLaws}
use Rattle.rip_log.proofs.LineRelations.{AreLines-lines_of, lines_of-AreLines}
use Rattle.rip_log.proofs.TimedTextLemmas.{lines-say, lines-say-one}
use Rattle.rip_log.proofs.laws.timed_texts.Goals as goal

pub returns-clause-lines : goal.returns-clause-lines
returns-clause-lines c text lines = (λ are. sym (lines_of-AreLines text lines are), λ same. subst (AreLines text) (sym same) (AreLines-lines_of text))

pub returns-clause-exists : goal.returns-clause-exists
returns-clause-exists c =
    let laws : WireLaws = record { names = c.names.ensures.exact; addresses = c.address_texts.ensures.exact; faults = c.first_faults.ensures } in
    lines-say laws

pub returns-clause-one : goal.returns-clause-one
returns-clause-one c = lines-say-one c.timed_lines.ensures
