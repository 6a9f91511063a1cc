use Rattle.rip_check.specs.declared.way.Way.TheVariants.{Over}
use Rattle.rip_report.specs.ExpectText.{WayLine, link_of}
use Rattle.rip_report.specs.Listings.{TextsBelow}
use Rattle.rip_report.specs.Outs.{AddsOne}
use Rattle.rip_report.proofs.expect.add_over.Given as goal

abbrev pub invariant-loop-i : goal.invariant-loop-i
invariant-loop-i g l = record {
  so_far : AddsOne l.fn.out l.out (TextsBelow (λ k. WayLine l.plan l.router l.prefix (Over (link_of l.plan l.router k))) l.i-index);
}
