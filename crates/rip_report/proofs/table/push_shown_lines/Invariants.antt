use Rattle.rip_report.specs.TableText.{prefix_lines}
use Rattle.rip_report.proofs.LoopLemmas.{AddsFirst}
use Rattle.rip_report.proofs.table.push_shown_lines.Given as goal

abbrev pub invariant-loop-k : goal.invariant-loop-k
invariant-loop-k g l =
    let s = g.T.Table.state l.table in
    AddsFirst (λ p. prefix_lines l.plan l.fn.interface p (s.shows l.number p)) s.prefixes l.k l.fn.out l.out
