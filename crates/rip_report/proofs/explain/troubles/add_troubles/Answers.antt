use Rattle.rip_report.proofs.explain.troubles.add_troubles.Goals as goal

pub returns-in-NotHeard : goal.returns-in-NotHeard
returns-in-NotHeard g c = rw c.in-NotHeard.is (c.add_below.ensures _ c.interfaces.ensures)
