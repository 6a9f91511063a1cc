use Rattle.rip_check.proofs.own_audit.wrong_at.Goals as goal

pub wrong_by-requires-clause-equation : goal.wrong_by-requires-clause-equation
wrong_by-requires-clause-equation g c = record { chosen = c.least_choice-equation.ensures.chosen; least = c.least_choice-equation.ensures.least }
