use Rattle.std.proofs.Common.{◌≡◌, ◌-◌, ◌≤◌, true, false}
use Rattle.rip_log.specs.Cuts.{DropsLines}
use Rattle.rip_log.specs.NextCall.{log_to_come, lines_behind, has_stopped, source_of, text}
use Rattle.rip_log.specs.Wholes.{OfWhole, Went}
use Rattle.rip_table.specs.State.{Fits}
use Rattle.rip_table.specs.Collects.{PassedKnown}
use Rattle.rip_table.proofs.joining.collect.Given as goal

abbrev pub invariant-records : goal.invariant-records
invariant-records g l =
    let S = g.R.Source in
    let state = g.T.Table.state in
    record {
      passed : has_stopped l.fn.reader ≡ false →
          OfWhole S.given S.at_end (source_of l.reader) (λ coming. PassedKnown l.plan (state l.fn.table) (log_to_come coming l.fn.reader) (state l.table) (log_to_come coming l.reader));
      went : Went S.given S.coming S.at_end (source_of l.fn.reader) (source_of l.reader);
      fits : Fits l.plan (state l.table);
      running : has_stopped l.reader ≡ has_stopped l.fn.reader;
      marks : g.R.Source.broken (source_of l.reader) ≡ g.R.Source.broken (source_of l.fn.reader);
      still : has_stopped l.fn.reader ≡ true → (state l.table ≡ state l.fn.table);
      here : has_stopped l.fn.reader ≡ true → (lines_behind l.reader ≡ lines_behind l.fn.reader);
      lines : lines_behind l.fn.reader ≤ lines_behind l.reader;
      drops : OfWhole S.given S.at_end (source_of l.reader)
          (λ coming. DropsLines (text coming l.fn.reader) (lines_behind l.fn.reader) (text coming l.reader) (lines_behind l.reader));
    }

abbrev pub decreases-records : goal.decreases-records
decreases-records g l = 1000000 - lines_behind l.reader
