use Rattle.rip_report.specs.ExplainText.{an_unclear}
use Rattle.rip_report.proofs.ExplainLemmas.{explained_written}
use Rattle.rip_report.proofs.OutLemmas.{added_also}
use Rattle.rip_report.proofs.VerdictLemmas.{known_trouble}
use Rattle.rip_report.proofs.explain.add_explained.Goals as goal

pub add_unsettled-requires-clause-shows : goal.add_unsettled-requires-clause-shows
add_unsettled-requires-clause-shows g c = ((c.judge.ensures.unsettled c.in-Unsettled.place).0 c.in-Unsettled.is).0

pub add_unsettled-requires-clause-first : goal.add_unsettled-requires-clause-first
add_unsettled-requires-clause-first g c = ((c.judge.ensures.unsettled c.in-Unsettled.place).0 c.in-Unsettled.is).1

pub add_unclear-requires-clause-first : goal.add_unclear-requires-clause-first
add_unclear-requires-clause-first g c = known_trouble c.args.plan.now (g.T.Table.state c.args.table.now) c.in-Unclear.trouble c.lawful.ensures ((c.judge.ensures.unclear c.in-Unclear.trouble).0 c.in-Unclear.is)

pub returns-in-Settled-clause-adds : goal.returns-in-Settled-clause-adds
returns-in-Settled-clause-adds g c = c.add_settled.ensures c.args.all

pub returns-in-Unclear-clause-adds : goal.returns-in-Unclear-clause-adds
returns-in-Unclear-clause-adds g c = record {
  text = added_also (λ text lines. an_unclear c.in-Unclear.trouble text ((c.judge.ensures.unclear c.in-Unclear.trouble).0 c.in-Unclear.is) lines) c.add_unclear.ensures;
  nothing = tt;
}

pub returns-in-Settled-clause-judged : goal.returns-in-Settled-clause-judged
returns-in-Settled-clause-judged g c =
    let e = c.judge.ensures in
    explained_written c.judge.result (record { settled = e.settled; unsettled = e.unsettled; unclear = e.unclear; no_tables = e.no_tables; arrive = e.arrive }) (c.add_settled.ensures c.args.all)

pub returns-in-Unsettled-clause-judged : goal.returns-in-Unsettled-clause-judged
returns-in-Unsettled-clause-judged g c =
    let e = c.judge.ensures in
    explained_written c.judge.result (record { settled = e.settled; unsettled = e.unsettled; unclear = e.unclear; no_tables = e.no_tables; arrive = e.arrive }) c.add_unsettled.ensures

pub returns-in-Unclear-clause-judged : goal.returns-in-Unclear-clause-judged
returns-in-Unclear-clause-judged g c =
    let e = c.judge.ensures in
    explained_written c.judge.result (record { settled = e.settled; unsettled = e.unsettled; unclear = e.unclear; no_tables = e.no_tables; arrive = e.arrive })
    (returns-in-Unclear-clause-adds g c)
