use Rattle.ripaudit.proofs.commands.run_on_log.Goals as goal

pub returns-in-Explain-clause-one_set : goal.returns-in-Explain-clause-one_set
returns-in-Explain-clause-one_set g c = λ text given n s accepted. c.accepted_tables.ensures c.args.plan.now text n s accepted

pub returns-in-Routes-clause-one_set : goal.returns-in-Routes-clause-one_set
returns-in-Routes-clause-one_set g c = λ text given n s accepted. c.accepted_tables.ensures c.args.plan.now text n s accepted

pub returns-in-Table-clause-one_set : goal.returns-in-Table-clause-one_set
returns-in-Table-clause-one_set g c = λ text given n s accepted. c.accepted_tables.ensures c.args.plan.now text n s accepted

pub returns-in-Audit-clause-runs : goal.returns-in-Audit-clause-runs
returns-in-Audit-clause-runs g c = rw c.in-Audit.is c.run_audit.ensures.runs

pub returns-in-Explain-clause-runs : goal.returns-in-Explain-clause-runs
returns-in-Explain-clause-runs g c = rw c.in-Explain.is c.run_explain.ensures.runs

pub returns-in-Routes-clause-runs : goal.returns-in-Routes-clause-runs
returns-in-Routes-clause-runs g c = rw c.in-Routes.is c.run_routes.ensures.runs

pub returns-in-Table-clause-runs : goal.returns-in-Table-clause-runs
returns-in-Table-clause-runs g c = rw c.in-Table.is c.run_table.ensures.runs
