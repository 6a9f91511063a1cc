use Rattle.rip_report.specs.ReportText.{IsAccepted}
use Rattle.rip_report.proofs.ExplainLemmas.{begins_out, explains_out}
use Rattle.rip_report.proofs.VerdictLemmas.{headline, plain_headline}
use Rattle.rip_report.proofs.explain.run_explain.Goals as goal

pub returns-clause-headline : goal.returns-clause-headline
returns-clause-headline g c =
    let e = c.run_report.ensures in
    λ text given n s are. headline n s (IsAccepted c.args.plan.now text n s) c.run_report.result.2 (e.accepted text given n s are) (e.meaning text given n s)

pub returns-clause-known : goal.returns-clause-known
returns-clause-known g c = λ text is. returns-clause-headline g c text (c.run_report.ensures.runs.reads.draws.to_come text is)

pub returns-clause-verdict : goal.returns-clause-verdict
returns-clause-verdict g c = λ off text given n s accepted.
    begins_out n s c.args.all (g.K.Sink.taken c.args.out) (g.K.Sink.taken c.run_report.result.1) c.run_report.result.2 off (c.run_report.ensures.runs.told text given n s accepted)

pub returns-clause-places : goal.returns-clause-places
returns-clause-places g c = λ on text given n s accepted.
    explains_out n s c.args.all (g.K.Sink.taken c.args.out) (g.K.Sink.taken c.run_report.result.1) c.run_report.result.2 on (c.run_report.ensures.runs.told text given n s accepted)

pub returns-clause-plain : goal.returns-clause-plain
returns-clause-plain g c =
    let e = c.run_report.ensures in
    λ text given n s accepted plain. plain_headline n s c.run_report.result.2 plain.no_list (λ r p route. c.plain_paths.ensures.routes n r p route plain) (e.meaning text given n s accepted)

pub returns-clause-one_set : goal.returns-clause-one_set
returns-clause-one_set g c = λ text given n s accepted. c.accepted_tables.ensures c.args.plan.now text n s accepted
