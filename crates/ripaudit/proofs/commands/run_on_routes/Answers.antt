use Rattle.ripaudit.proofs.commands.run_on_routes.Goals as goal

pub returns-in-Audit-clause-runs : goal.returns-in-Audit-clause-runs
returns-in-Audit-clause-runs g c = rw c.in-Audit.is c.run_audit_routes.ensures.runs

pub returns-in-Explain-clause-runs : goal.returns-in-Explain-clause-runs
returns-in-Explain-clause-runs g c = rw c.in-Explain.is c.run_explain_routes.ensures.runs
