use Rattle.std.proofs.Common.{◌≡◌, ◌-◌, ◌≤◌, [], List, length, true, false}
use Rattle.rip_log.specs.declared.limits.TheConstants.{MOST_LINES}
use Rattle.rip_log.specs.Cuts.{PassesLines}
use Rattle.rip_log.specs.NextCall.{lines_behind, has_stopped, source_of, text}
use Rattle.rip_log.specs.NextLineCall.{said_to_come}
use Rattle.rip_log.specs.Wholes.{OfWhole, Went}
use Rattle.rip_table.specs.State.{Fits}
use Rattle.rip_table.specs.Events.{EventAt}
use Rattle.rip_table.specs.CollectsAll.{HoldsMore, ToldKnown}
use Rattle.rip_table.proofs.hearing.collect_all.Given as goal

abbrev pub invariant-lines : goal.invariant-lines
invariant-lines g l =
    let S = g.R.Source in
    let state = g.T.Table.state in
    let holds = g.L.Listener.holds in
    record {
      told : has_stopped l.fn.reader ≡ false → OfWhole S.given S.at_end (source_of l.reader) (λ coming.
          (events : List EventAt) × HoldsMore (holds l.fn.listener) (holds l.listener) events × ToldKnown l.plan (state l.fn.table) (said_to_come coming l.fn.reader) (state l.table) events
          (said_to_come coming l.reader));
      passed : OfWhole S.given S.at_end (source_of l.reader) (λ coming. PassesLines (text coming l.fn.reader) (lines_behind l.fn.reader) (text coming l.reader) (lines_behind l.reader));
      went : Went S.given S.coming S.at_end (source_of l.fn.reader) (source_of l.reader);
      fits : Fits l.plan (state l.table);
      suits : g.L.Listener.suits l.plan l.listener;
      room : (events : List EventAt) × holds l.listener events × (length events ≤ lines_behind l.reader) × (length events ≤ MOST_LINES);
      running : has_stopped l.reader ≡ has_stopped l.fn.reader;
      marks : S.broken (source_of l.reader) ≡ S.broken (source_of l.fn.reader);
      still : has_stopped l.fn.reader ≡ true → (state l.table ≡ state l.fn.table) × HoldsMore (holds l.fn.listener) (holds l.listener) [];
      here : has_stopped l.fn.reader ≡ true → (lines_behind l.reader ≡ lines_behind l.fn.reader);
      lines : lines_behind l.fn.reader ≤ lines_behind l.reader;
    }

abbrev pub decreases-lines : goal.decreases-lines
decreases-lines g l = 1000000 - lines_behind l.reader
