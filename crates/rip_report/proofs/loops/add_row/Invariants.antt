use Rattle.rip_report.specs.Listings.{TextsBelow}
use Rattle.rip_report.specs.Outs.{AddsOne}
use Rattle.rip_report.proofs.loops.add_row.Given as goal

abbrev pub invariant-loop-prefix : goal.invariant-loop-prefix
invariant-loop-prefix g l = record { adds : AddsOne l.fn.out l.out (TextsBelow (g.E.PairText.is_text l.texts l.plan (g.T.Table.state l.table) l.router) l.prefix) }
