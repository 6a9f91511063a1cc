use Rattle.std.specs.Prelude.{slice_index}
use Rattle.rip_report.specs.Listings.{TextsBelow}
use Rattle.rip_report.specs.Outs.{AddsOne}
use Rattle.rip_report.proofs.loops.add_listed.Given as goal

abbrev pub invariant-loop-number : goal.invariant-loop-number
invariant-loop-number g l = record { adds : AddsOne l.fn.out l.out (TextsBelow (λ k. g.E.NumberText.is_text l.texts (slice_index l.numbers k)) l.number-index) }
