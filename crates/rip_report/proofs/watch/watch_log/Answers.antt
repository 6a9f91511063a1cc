use Rattle.rip_report.proofs.StepLemmas.{untouched_in_step}
use Rattle.rip_report.proofs.watch.watch_log.Goals as goal

pub returns-in-Err-clause-stops : goal.returns-in-Err-clause-stops
returns-in-Err-clause-stops g c = untouched_in_step g.R.Source g.K.Sink c.args.watching.now.length c.args.watching.now.until_settled c.args.plan.now c.args.log c.args.out
