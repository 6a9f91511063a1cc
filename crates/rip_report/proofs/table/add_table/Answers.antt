use Rattle.std.proofs.Common.{◌++◌, length, refl}
use Rattle.std.specs.List.{enumerate_from, flat_map}
use Rattle.rip_report.specs.AnywayText.{AnywayTable}
use Rattle.rip_report.specs.LeftOut.{left_out_line}
use Rattle.rip_report.specs.TableText.{interface_lines, table_line}
use Rattle.rip_report.specs.declared.status.Status.TheVariants.{Done}
use Rattle.rip_report.proofs.OutLemmas.{adds_one, adds_same, adds_then}
use Rattle.rip_report.proofs.TextLemmas.{same_counts}
use Rattle.rip_report.proofs.table.add_table.Goals as goal

pub returns : goal.returns
returns g c =
    let n = c.args.plan.now in
    let s = g.T.Table.state c.args.table.now in
    let first = table_line (length n.interfaces) (length s.prefixes) in
    let lines = flat_map (interface_lines n s) (enumerate_from 0 n.interfaces) in
    let anyway : AnywayTable n s c.args.left_out (record { text = (first ++ left_out_line c.args.left_out) ++ lines; status = c.anyway_status.result }) = record { rest = lines; status = Done; is_text = refl; text = refl; answers = c.anyway_status.ensures } in
    let counts = adds_same (same_counts _ _ _ _ c.interfaces.ensures c.prefix_count.ensures) c.push_counts_line.ensures in
    adds_one anyway (adds_then (adds_then counts c.push_left_out_line.ensures) c.push_interfaces.ensures)
