use Rattle.std.specs.Prelude.{length}
use Rattle.rip_report.specs.TableText.{TableText, table_line}
use Rattle.rip_table.specs.Tallies.{counts_of}
use Rattle.rip_report.specs.Hearings.{OfAccepted, TableAnyway}
use Rattle.rip_report.proofs.AcceptedLemmas.{went_also, whole_text}
use Rattle.rip_report.proofs.table.run_table_anyway.Goals as goal

pub returns-clause-accepted : goal.returns-clause-accepted
returns-clause-accepted g c = λ text given n s accepted.
    went_also (OfAccepted TableAnyway n s) (TableText n s) (g.K.Sink.taken c.args.out) (g.K.Sink.taken c.run_counted.result.1) c.run_counted.result.2
    (λ w h. whole_text (TableText n s) (table_line (length n.interfaces) (length s.prefixes)) (counts_of h.events) w h.all h.is_text)
    (c.run_counted.ensures.accepted text given n s accepted)
