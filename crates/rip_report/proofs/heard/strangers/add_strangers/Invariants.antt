use Rattle.std.proofs.Common.{List}
use Rattle.rip_table.specs.Events.{EventAt}
use Rattle.rip_table.specs.Tallies.{HasHeard}
use Rattle.rip_report.specs.HeardText.{ToldLines}
use Rattle.rip_report.specs.Listings.{TextsBelow}
use Rattle.rip_report.specs.Outs.{AddsOne}
use Rattle.rip_report.proofs.heard.strangers.add_strangers.Given as goal

abbrev pub invariant-loop-k : goal.invariant-loop-k
invariant-loop-k g l = record {
  so_far : (events : List EventAt) → HasHeard l.tallies events → AddsOne l.fn.out l.out (TextsBelow (ToldLines l.plan events) l.k);
}
