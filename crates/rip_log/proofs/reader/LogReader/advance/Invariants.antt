use Rattle.std.proofs.Common.{◌≡◌, ◌-◌, ◌≤◌, false, true}
use Rattle.rip_log.specs.Advances.{SkipsLines}
use Rattle.rip_log.specs.NextCall.{IsOver, text, lines_behind, last_ready, has_stopped, source_of}
use Rattle.rip_log.specs.NextLineCall.{last_ended}
use Rattle.rip_log.specs.Wholes.{OfWhole, Went}
use Rattle.rip_log.proofs.reader.LogReader.advance.Given as goal

abbrev pub invariant-lines : goal.invariant-lines
invariant-lines g l = record {
  skips : OfWhole g.R.Source.given g.R.Source.at_end (source_of l.self) (λ coming. SkipsLines (text coming l.fn.self) (lines_behind l.fn.self) (text coming l.self) (lines_behind l.self));
  went : Went g.R.Source.given g.R.Source.coming g.R.Source.at_end (source_of l.fn.self) (source_of l.self);
  running : has_stopped l.self ≡ false;
  onward : lines_behind l.fn.self ≤ lines_behind l.self;
  marks : g.R.Source.broken (source_of l.self) ≡ g.R.Source.broken (source_of l.fn.self);
  unpulled : g.R.Source.at_end (source_of l.fn.self) ≡ true → source_of l.self ≡ source_of l.fn.self;
  over : IsOver g.R.Source.at_end l.fn.self → IsOver g.R.Source.at_end l.self;
  ready : lines_behind l.self ≤ last_ready l.fn.self → (source_of l.self ≡ source_of l.fn.self) × (last_ready l.self ≡ last_ready l.fn.self);
  ended : lines_behind l.self ≤ last_ended l.fn.self → (source_of l.self ≡ source_of l.fn.self) × (last_ended l.self ≡ last_ended l.fn.self);
}

abbrev pub decreases-lines : goal.decreases-lines
decreases-lines g l = 1000001 - lines_behind l.self
