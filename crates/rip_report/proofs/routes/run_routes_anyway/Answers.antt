use Rattle.rip_report.specs.RoutesText.{RoutesText, routes_line}
use Rattle.rip_table.specs.Tallies.{counts_of}
use Rattle.rip_report.specs.Hearings.{OfAccepted, RoutesAnyway}
use Rattle.rip_report.proofs.AcceptedLemmas.{went_also, whole_text}
use Rattle.rip_report.proofs.routes.run_routes_anyway.Goals as goal

pub returns-clause-accepted : goal.returns-clause-accepted
returns-clause-accepted g c = λ text given n s accepted.
    went_also (OfAccepted RoutesAnyway n s) (RoutesText n s) (g.K.Sink.taken c.args.out) (g.K.Sink.taken c.run_counted.result.1) c.run_counted.result.2
    (λ w h. whole_text (RoutesText n s) (routes_line n s) (counts_of h.events) w h.all h.is_text)
    (c.run_counted.ensures.accepted text given n s accepted)
