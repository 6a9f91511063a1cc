use Rattle.rip_report.proofs.OutLemmas.{added_also, adds_one}
use Rattle.rip_report.proofs.VerdictLemmas.{known_trouble, settled_told, unclear_told, unsettled_told}
use Rattle.rip_report.proofs.audit.add_verdict.Goals as goal

pub push_unclear_line-requires : goal.push_unclear_line-requires
push_unclear_line-requires g c = known_trouble c.args.plan.now (g.T.Table.state c.args.table.now) c.in-Unclear.trouble c.lawful.ensures (rw c.in-Unclear.is at c.requires.verdict)

pub returns-in-Settled : goal.returns-in-Settled
returns-in-Settled g c =
    adds_one (settled_told c.args.plan.now (g.T.Table.state c.args.table.now) c.args.all c.args.verdict.now c.in-Settled.is c.requires.verdict) c.push_settled_line.ensures

pub returns-in-Unclear : goal.returns-in-Unclear
returns-in-Unclear g c =
    adds_one (unclear_told c.args.plan.now (g.T.Table.state c.args.table.now) c.args.all c.args.verdict.now c.in-Unclear.trouble c.in-Unclear.is c.requires.verdict) c.push_unclear_line.ensures

pub returns-in-Unsettled : goal.returns-in-Unsettled
returns-in-Unsettled g c =
    let n = c.args.plan.now in
    let s = g.T.Table.state c.args.table.now in
    added_also (λ text lines. unsettled_told n s c.args.all c.args.verdict.now c.in-Unsettled.place text c.in-Unsettled.is c.requires.verdict lines) c.add_unsettled.ensures
