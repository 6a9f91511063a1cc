use Rattle.rip_log.proofs.JudgeRelations.{WireLaws, judged-line, judge-IsLineJudged}
use Rattle.rip_log.proofs.laws.judged_lines.Goals as goal

pub returns : goal.returns
returns c line judged =
    let laws : WireLaws = record { names = c.names.ensures.exact; addresses = c.address_texts.ensures.exact; faults = c.first_faults.ensures } in
    (judged-line laws line judged, judge-IsLineJudged laws line judged)
