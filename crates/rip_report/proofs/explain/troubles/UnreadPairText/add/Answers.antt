use Rattle.std.proofs.Common.{IsTrue, false, refl}
use Rattle.rip_report.specs.ExplainText.{readable, unread}
use Rattle.rip_report.proofs.OutLemmas.{added_also, adds_nothing}
use Rattle.rip_report.proofs.VerdictLemmas.{reason_known}
use Rattle.rip_report.proofs.explain.troubles.UnreadPairText.add.Goals as goal

pub add_trouble-requires-clause-trouble : goal.add_trouble-requires-clause-trouble
add_trouble-requires-clause-trouble g c =
    reason_known c.args.case.now.plan.now (g.T.Table.state c.args.case.now.table.now) c.args.router c.args.case.now.prefix c.in-Err.trouble c.lawful.ensures c.requires.router c.args.case.now.within c.in-Err.ensures.unclear

pub returns-in-Err : goal.returns-in-Err
returns-in-Err g c =
    added_also (λ text lines. unread c.in-Err.trouble text (λ readable. let h : IsTrue false = c.in-Err.ensures.exact.1 readable in cc h) c.in-Err.ensures.unclear lines) c.add_trouble.ensures

pub returns-in_default : goal.returns-in_default
returns-in_default g c = adds_nothing (readable (c.in_default.ensures.exact.0 refl))
