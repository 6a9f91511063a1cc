use Rattle.std.proofs.Common.{◌≡◌, ◌≤◌, ◌-◌, ◌<◌, length, true}
use Rattle.std.specs.Io.KnownBytes.{Keeps}
use Rattle.rip_log.specs.Feeds.{held, text}
use Rattle.rip_log.specs.Held.{ready_lines}
use Rattle.rip_log.specs.Ends.{NoFeedBelow}
use Rattle.rip_log.specs.Wholes.{OfWhole, Went}
use Rattle.rip_log.proofs.window.Window.find_end.Given as goal

abbrev pub invariant-loop-at : goal.invariant-loop-at
invariant-loop-at g l = record {
  kept : OfWhole g.R.Source.given g.R.Source.at_end l.self.feed.source (λ coming. Keeps (text coming l.fn.self.feed) (text coming l.self.feed));
  went : Went g.R.Source.given g.R.Source.coming g.R.Source.at_end l.fn.self.feed.source l.self.feed.source;
  more : length (held l.fn.self.feed) ≤ length (held l.self.feed);
  within : l.seen ≤ length (held l.self.feed);
  before : NoFeedBelow (held l.self.feed) l.seen;
  marks : g.R.Source.broken l.self.feed.source ≡ g.R.Source.broken l.fn.self.feed.source;
  unpulled : g.R.Source.at_end l.fn.self.feed.source ≡ true → l.self.feed.source ≡ l.fn.self.feed.source;
  unchanged : 0 < ready_lines (held l.fn.self.feed) → l.self ≡ l.fn.self;
}

abbrev pub decreases-loop-at : goal.decreases-loop-at
decreases-loop-at g l = 2050 - length (held l.self.feed)
