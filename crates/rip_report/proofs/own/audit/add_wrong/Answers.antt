use Rattle.std.proofs.Common.{refl}
use Rattle.rip_report.specs.OwnText.OwnVerdictText.{an_unsettled}
use Rattle.rip_report.proofs.OutLemmas.{added_also, adds_one}
use Rattle.rip_report.proofs.OwnTextLemmas.{known_first}
use Rattle.rip_report.proofs.own.audit.add_wrong.Goals as goal

pub push_own_unsettled_line-requires : goal.push_own_unsettled_line-requires
push_own_unsettled_line-requires g c =
    known_first c.args.plan.now (g.T.Table.state c.args.table.now) (g.G.RouteTables.tables c.args.tables.now) c.lawful.ensures c.requires.own c.requires.told c.args.place.now c.requires.verdict.1

pub returns-then-all-clause-adds : goal.returns-then-all-clause-adds
returns-then-all-clause-adds g c = rw c.if-all.true (record {
  text = added_also (λ text lines. an_unsettled c.args.place.now text c.requires.verdict.0 c.requires.verdict.1 lines) c.add_pairs.ensures;
  nothing = tt;
})

pub returns-clause-adds : goal.returns-clause-adds
returns-clause-adds g c = rw c.if-all.false (record {
  text = added_also (λ text lines. an_unsettled c.args.place.now text c.requires.verdict.0 c.requires.verdict.1 lines) (adds_one refl c.push_own_unsettled_line.ensures);
  nothing = tt;
})
