use Rattle.std.proofs.Common.{refl, subst, sym}
use Rattle.rip_report.specs.AuditText.{IsJudged, VerdictText}
use Rattle.rip_report.proofs.OutLemmas.{added_also}
use Rattle.rip_report.proofs.VerdictLemmas.{judged, said}
use Rattle.rip_report.proofs.audit.add_audit.Goals as goal

pub add_verdict-requires-clause-verdict : goal.add_verdict-requires-clause-verdict
add_verdict-requires-clause-verdict g c =
    let e = c.judge-verdict.ensures in
    said c.args.plan.now (g.T.Table.state c.args.table.now) c.judge-verdict.result
    (record { settled = e.settled; unsettled = e.unsettled; unclear = e.unclear; no_tables = e.no_tables; arrive = e.arrive })

pub returns-clause-judged : goal.returns-clause-judged
returns-clause-judged g c =
    let e = c.judge-verdict.ensures in
    let n = c.args.plan.now in
    let s = g.T.Table.state c.args.table.now in
    let meant = judged n s c.judge-verdict.result (record { settled = e.settled; unsettled = e.unsettled; unclear = e.unclear; no_tables = e.no_tables; arrive = e.arrive }) in
    subst (IsJudged n s) (sym c.status_of.ensures) meant

pub returns-clause-adds : goal.returns-clause-adds
returns-clause-adds g c =
    let n = c.args.plan.now in
    let s = g.T.Table.state c.args.table.now in
    record {
      text = added_also (λ text is. subst (λ status. VerdictText n s c.args.all (record { text = text; status = status })) (sym c.status_of.ensures) is) c.add_verdict.ensures;
      nothing = tt;
    }

pub returns-in_err-places-clause-memory : goal.returns-in_err-places-clause-memory
returns-in_err-places-clause-memory g c _ =
    let e = c.judge-verdict.ensures in
    let n = c.args.plan.now in
    let s = g.T.Table.state c.args.table.now in
    let meant = judged n s c.judge-verdict.result (record { settled = e.settled; unsettled = e.unsettled; unclear = e.unclear; no_tables = e.no_tables; arrive = e.arrive }) in
    let wanted = c.in_err-places.ensures.memory refl in
    (wanted.0, subst (IsJudged n s) wanted.1 meant)
