use Rattle.std.proofs.Common.{◌≡◌, ◌≤◌, ◌-◌, length, drop}
use Rattle.rip_report.specs.Sent.{Sent}
use Rattle.rip_report.proofs.page.write_all.Given as goal

abbrev pub invariant-pieces : goal.invariant-pieces
invariant-pieces g l = record {
  sent : Sent (g.K.Sink.taken l.fn.out) (g.K.Sink.taken l.out) l.bytes (drop l.at l.bytes);
  within : l.at ≤ length l.bytes;
  marks : g.K.Sink.broken l.out ≡ g.K.Sink.broken l.fn.out;
}

abbrev pub decreases-pieces : goal.decreases-pieces
decreases-pieces g l = length l.bytes - l.at
