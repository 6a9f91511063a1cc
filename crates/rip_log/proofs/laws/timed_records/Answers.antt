use Rattle.rip_log.proofs.TimedTextLemmas.{records-said}
use Rattle.rip_log.proofs.laws.timed_records.Goals as goal

pub returns : goal.returns
returns c = records-said c.timed_lines.ensures
