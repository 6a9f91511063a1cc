use Rattle.rip_report.proofs.explain.troubles.add_unclear.Goals as goal

pub returns-else-all : goal.returns-else-all
returns-else-all g c = rw c.if-all.false c.add_trouble.ensures
