use Rattle.std.proofs.Common.{◌≡◌, ◌-◌, false}
use Rattle.rip_log.specs.Cuts.{DropsLines, PassesLines}
use Rattle.rip_log.specs.TimedCall.{timed_lines, timed_source, timed_text}
use Rattle.rip_log.specs.Wholes.{OfWhole, Went}
use Rattle.rip_log.specs.declared.limits.TheConstants.{MOST_LINE_NUMBER}
use Rattle.rip_report.specs.Films.{HasShownOf, IsStage, stage_of}
use Rattle.rip_report.specs.Outs.{AddsOne, IsOnItsWay}
use Rattle.rip_report.proofs.watch.watch_lines.Given as goal

abbrev pub invariant-lines : goal.invariant-lines
invariant-lines g l =
    let S = g.R.Source in
    let stage = stage_of g.T.WindowTable.window l.watch in
    record {
      shown : OfWhole S.given S.at_end (timed_source l.reader) (λ coming. AddsOne l.fn.out l.out
          (HasShownOf l.plan l.watching.length l.watching.until_settled (timed_text coming l.fn.reader) (timed_text coming l.reader) (timed_lines l.reader) stage));
      passed : OfWhole S.given S.at_end (timed_source l.reader) (λ coming. PassesLines (timed_text coming l.fn.reader) 0 (timed_text coming l.reader) (timed_lines l.reader));
      went : Went S.given S.coming S.at_end (timed_source l.fn.reader) (timed_source l.reader);
      stage : IsStage l.plan l.watching.length stage;
      drops : OfWhole S.given S.at_end (timed_source l.reader) (λ coming. DropsLines (timed_text coming l.fn.reader) 0 (timed_text coming l.reader) (timed_lines l.reader));
      start : l.out.start ≡ l.fn.out.start;
      sound : l.fn.out.failed ≡ false → l.out.failed ≡ false;
      way : l.fn.out.failed ≡ false → IsOnItsWay g.K.Sink.taken g.K.Sink.broken l.fn.out.start l.fn.out.text → IsOnItsWay g.K.Sink.taken g.K.Sink.broken l.fn.out.start l.out.text;
      marks : S.broken (timed_source l.reader) ≡ S.broken (timed_source l.fn.reader);
    }

abbrev pub decreases-lines : goal.decreases-lines
decreases-lines g l = MOST_LINE_NUMBER - timed_lines l.reader
