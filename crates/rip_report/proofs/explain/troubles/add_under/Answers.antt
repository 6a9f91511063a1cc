use Rattle.rip_report.proofs.explain.troubles.add_under.Goals as goal

pub returns-in-NotHeard : goal.returns-in-NotHeard
returns-in-NotHeard g c = rw c.in-NotHeard.is c.add_heard.ensures
