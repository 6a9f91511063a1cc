use Rattle.std.proofs.Common.{◌≡◌, ◌≤◌, List}
use Rattle.rip_table.specs.Events.{EventAt}
use Rattle.rip_table.specs.Tallies.{HasHeard}
use Rattle.rip_report.specs.HeardText.{heard_below}
use Rattle.rip_report.proofs.heard.count_heard.Given as goal

abbrev pub invariant-loop-i : goal.invariant-loop-i
invariant-loop-i g l = record {
  counted : (events : List EventAt) → HasHeard l.tallies events → l.heard ≡ heard_below l.i events;
  few : l.heard ≤ l.i;
}
