use Rattle.rip_log.proofs.JudgeRelations.{WireLaws}
use Rattle.rip_log.proofs.TimedRelations.{one-saying}
use Rattle.rip_log.proofs.laws.timed_lines.Goals as goal

pub returns : goal.returns
returns c line a b first second =
    let laws : WireLaws = record { names = c.names.ensures.exact; addresses = c.address_texts.ensures.exact; faults = c.first_faults.ensures } in
    one-saying laws line a b first second
