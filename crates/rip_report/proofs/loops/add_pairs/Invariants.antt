use Rattle.std.specs.Prelude.{length}
use Rattle.rip_report.specs.Listings.{TextsBelow}
use Rattle.rip_report.specs.Outs.{AddsOne}
use Rattle.rip_report.proofs.loops.add_pairs.Given as goal

abbrev pub invariant-loop-router : goal.invariant-loop-router
invariant-loop-router g l =
    let s = g.T.Table.state l.table in
    record { adds : AddsOne l.fn.out l.out (TextsBelow (λ r. TextsBelow (g.E.PairText.is_text l.texts l.plan s r) (length s.prefixes)) l.router) }
