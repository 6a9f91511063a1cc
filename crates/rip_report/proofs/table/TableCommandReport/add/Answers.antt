use Rattle.std.proofs.Common.{◌≡◌, length, refl}
use Rattle.rip_report.specs.TableText.{shown_table, table_line}
use Rattle.rip_report.proofs.AcceptedLemmas.{whole_text}
use Rattle.rip_report.proofs.OutLemmas.{added_also}
use Rattle.rip_report.proofs.table.TableCommandReport.add.Goals as goal

pub returns-clause-adds : goal.returns-clause-adds
returns-clause-adds g c =
    let n = c.args.plan.now in
    let s = g.T.Table.state c.args.table.now in
    let first = table_line (length n.interfaces) (length s.prefixes) in
    record {
      text = added_also (λ text h. whole_text (λ w. w ≡ shown_table n s) first c.new.result (record { text = text; status = c.add_table.result }) (rw c.new.ensures refl) h) c.add_table.ensures;
      nothing = tt;
    }
