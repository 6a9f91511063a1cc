use Rattle.rip_check.proofs.untouched.Scenario.leads_down.Goals as goal

pub returns-in-Link : goal.returns-in-Link
returns-in-Link c = λ e s on step. absurd (c.leads_over.ensures e s on step)
