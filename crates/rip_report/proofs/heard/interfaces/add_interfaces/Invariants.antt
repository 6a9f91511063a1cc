use Rattle.std.proofs.Common.{List}
use Rattle.rip_table.specs.Events.{EventAt}
use Rattle.rip_table.specs.Tallies.{HasHeard}
use Rattle.rip_report.specs.HeardText.{InterfaceLines}
use Rattle.rip_report.specs.Listings.{TextsBelow}
use Rattle.rip_report.specs.Outs.{AddsOne}
use Rattle.rip_report.proofs.heard.interfaces.add_interfaces.Given as goal

abbrev pub invariant-loop-i : goal.invariant-loop-i
invariant-loop-i g l = record {
  so_far : (events : List EventAt) → HasHeard l.tallies events → AddsOne l.fn.out l.out (TextsBelow (InterfaceLines l.plan events) l.i);
}
