use Rattle.std.proofs.Common.{◌≡◌, ◌++◌, ◌+◌, ◌-◌, ◌^◌, ◌≤◌, List, ℕ, None, false, map}
use Rattle.rip_log.specs.Wholes.{Went}
use Rattle.rip_log.specs.declared.limits.TheConstants.{MOST_LINES}
use Rattle.rip_capture.specs.NextCall.{Stands, refusal_of, source_of}
use Rattle.rip_capture.specs.Origins.{origin_in}
use Rattle.rip_report.specs.CapturePackets.{KeepsFirst}
use Rattle.rip_report.specs.LineTimes.{AreShown, span_of}
use Rattle.rip_report.specs.CaptureText.{AreCarriers, counts_of, line_count, packet_lines}
use Rattle.rip_report.specs.Selections.{Carrier, first_behind, selection_of}
use Rattle.rip_report.specs.Outs.{Adds, IsOnItsWay}
use Rattle.rip_report.proofs.captures.packets.log_packets.Given as goal

abbrev pub invariant-packets : goal.invariant-packets
invariant-packets g l =
    let S = g.R.Source in
    record {
      carriers : List Carrier;
      are : AreCarriers l.manner (selection_of l.part.selection) carriers;
      span : AreShown l.tally.span (span_of carriers);
      keeps : KeepsFirst (first_behind None carriers) (origin_in l.first);
      taken : List ℕ;
      stands : Stands S.given (S.given (source_of l.fn.reader)) l.reader taken (map (λ c. c.frame) carriers);
      counts : l.tally.counts ≡ counts_of l.manner carriers;
      lines : l.tally.lines ≡ l.lines + line_count carriers;
      few : l.tally.lines ≤ MOST_LINES;
      adds : Adds l.fn.out l.out (packet_lines l.manner l.part.link.now carriers);
      went : Went S.given S.coming S.at_end (source_of l.fn.reader) (source_of l.reader);
      running : refusal_of l.reader ≡ None;
      marks : S.broken (source_of l.reader) ≡ S.broken (source_of l.fn.reader);
      sound : l.fn.out.failed ≡ false → l.out.failed ≡ false;
      way : l.fn.out.failed ≡ false → IsOnItsWay g.K.Sink.taken g.K.Sink.broken l.fn.out.start l.fn.out.text →
          IsOnItsWay g.K.Sink.taken g.K.Sink.broken l.fn.out.start (l.fn.out.text ++ packet_lines l.manner l.part.link.now carriers);
    }

abbrev pub decreases-packets : goal.decreases-packets
decreases-packets g l = 2 ^ 64 - l.tally.counts.packets
