use Rattle.rip_report.proofs.CaptureLemmas.{authentication-as-sent, authentication-few, kinds-sum, passwords-few}
use Rattle.rip_report.proofs.laws.counted_packets.Goals as goal

pub returns-clause-kinds : goal.returns-clause-kinds
returns-clause-kinds c = kinds-sum

pub returns-clause-passwords : goal.returns-clause-passwords
returns-clause-passwords c = passwords-few

pub returns-clause-authentication : goal.returns-clause-authentication
returns-clause-authentication c = authentication-few

pub returns-clause-as_sent : goal.returns-clause-as_sent
returns-clause-as_sent c = authentication-as-sent
