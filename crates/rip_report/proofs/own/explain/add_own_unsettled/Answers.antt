use Rattle.rip_report.specs.OwnText.OwnExplainText.{an_unsettled}
use Rattle.rip_report.proofs.OutLemmas.{added_also}
use Rattle.rip_report.proofs.OwnTextLemmas.{known_first}
use Rattle.rip_report.proofs.own.explain.add_own_unsettled.Goals as goal

pub add_own_place-requires-clause-place : goal.add_own_place-requires-clause-place
add_own_place-requires-clause-place g c =
    known_first c.args.plan.now (g.T.Table.state c.args.table.now) (g.G.RouteTables.tables c.args.tables.now) c.lawful.ensures c.requires.own c.requires.told c.args.place.now c.requires.verdict.1

pub least_metric-least-requires : goal.least_metric-least-requires
least_metric-least-requires g c = c.requires.verdict.1.first.router

pub returns-then-all-clause-adds : goal.returns-then-all-clause-adds
returns-then-all-clause-adds g c = rw c.if-all.true (record {
  text = added_also (λ text lines. an_unsettled c.args.place.now text c.requires.verdict.0 c.requires.verdict.1 lines) c.add_pairs.ensures;
  nothing = tt;
})

pub returns-clause-adds : goal.returns-clause-adds
returns-clause-adds g c = rw c.if-all.false (record {
  text = added_also (λ text lines. an_unsettled c.args.place.now text c.requires.verdict.0 c.requires.verdict.1 lines) c.add_own_place.ensures;
  nothing = tt;
})
