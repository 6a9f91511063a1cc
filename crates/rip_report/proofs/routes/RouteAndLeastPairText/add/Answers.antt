use Rattle.std.proofs.Common.{IsTrue, false}
use Rattle.rip_report.specs.RoutesText.{unclear}
use Rattle.rip_report.proofs.OutLemmas.{adds_one}
use Rattle.rip_report.proofs.VerdictLemmas.{known_reason}
use Rattle.rip_report.proofs.routes.RouteAndLeastPairText.add.Goals as goal

pub add_found-requires-clause-read : goal.add_found-requires-clause-read
add_found-requires-clause-read g c = record { fits = c.in-Ok.ensures.fits; one = c.in-Ok.ensures.one; hides = c.in-Ok.ensures.hidden }

pub push_unread_line-requires-clause-known : goal.push_unread_line-requires-clause-known
push_unread_line-requires-clause-known g c =
    known_reason c.args.case.now.plan.now (g.T.Table.state c.args.case.now.table.now) c.args.router c.args.case.now.prefix c.in-Err.trouble c.lawful.ensures c.in-Err.ensures.unclear

pub returns-in-Err : goal.returns-in-Err
returns-in-Err g c =
    adds_one (unclear c.in-Err.trouble (λ readable. let h : IsTrue false = c.in-Err.ensures.exact.1 readable in cc h) c.in-Err.ensures.unclear) c.push_unread_line.ensures
