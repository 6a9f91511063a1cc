use Rattle.std.proofs.Common.{None}
use Rattle.rip_report.proofs.UnsettledLemmas.{known_place}
use Rattle.rip_report.proofs.explain.add_first_place.Goals as goal

pub add_place-requires-clause-place : goal.add_place-requires-clause-place
add_place-requires-clause-place g c = known_place c.args.plan.now (g.T.Table.state c.args.table.now) None c.args.place.now c.lawful.ensures c.requires.first
