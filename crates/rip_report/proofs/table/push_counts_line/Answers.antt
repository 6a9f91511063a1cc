use Rattle.rip_report.specs.TableText.{table_line}
use Rattle.rip_report.proofs.OutLemmas.{adds_then}
use Rattle.rip_report.proofs.table.push_counts_line.Goals as goal

pub returns : goal.returns
unfolding table_line
returns g c = adds_then (adds_then (adds_then (adds_then (adds_then c.push.ensures c.push_number.ensures) c.push-2.ensures) c.push_number-2.ensures) c.push-3.ensures) c.end.ensures
