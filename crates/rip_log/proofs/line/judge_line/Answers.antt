use Rattle.rip_log.proofs.JudgeLemmas.{IsSaid-line}
use Rattle.rip_log.proofs.line.judge_line.Goals as goal

pub returns : goal.returns
returns c = IsSaid-line c.args.line.now _ _ c.requires (rw c.without_return.ensures at c.judge_bare.ensures)
