use Rattle.rip_report.proofs.CaptureFileLemmas.{ends-behind, failure-goes-on}
use Rattle.rip_report.proofs.OutLemmas.{adds_same, adds_then}
use Rattle.rip_report.proofs.SaidFileLemmas.{failure-says}
use Rattle.rip_report.proofs.captures.log_failure.Goals as goal

pub returns-clause-ends : goal.returns-clause-ends
returns-clause-ends g c =
    ends-behind _ _ c.new-text.result c.end.new.self _ _ _ c.new-text.ensures.start c.new-text.ensures.text (adds_then (adds_same c.fault_line.ensures c.push.ensures) c.end.ensures) c.finish_with.ensures

pub returns-clause-goes_on : goal.returns-clause-goes_on
returns-clause-goes_on g c = λ log files text file is wrote.
    failure-goes-on g.K.Sink.taken g.K.Sink.broken c.args.out c.finish_with.result.0 c.args.error c.finish_with.result.1 c.requires (returns-clause-ends g c) log files text file is wrote

pub returns-clause-says : goal.returns-clause-says
returns-clause-says g c = λ how files text status file says wrote.
    failure-says (record { ends = c.logged_files.ensures.ends; says = c.logged_files.ensures.says; two = c.two_texts.ensures }) g.K.Sink.taken g.K.Sink.broken c.args.out c.finish_with.result.0
    c.args.error c.finish_with.result.1 c.requires (returns-clause-ends g c) how files text status file says wrote
