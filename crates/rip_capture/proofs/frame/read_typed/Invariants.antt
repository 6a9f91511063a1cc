use Rattle.std.proofs.Common.{◌≤◌, ◌+◌, ◌-◌, length}
use Rattle.rip_capture.specs.Frames.{Leads}
use Rattle.rip_capture.specs.declared.frame.Network.{Network}
use Rattle.rip_capture.proofs.frame.read_typed.Given as goal

abbrev pub invariant-tags : goal.invariant-tags
invariant-tags l = record {
  leads : (held : Network) → Leads l.frame l.at l.from held → Leads l.frame l.place l.header held;
  behind : l.at + 2 ≤ l.from;
  within : l.from ≤ length l.frame;
}

abbrev pub decreases-tags : goal.decreases-tags
decreases-tags l = length l.frame - l.from
