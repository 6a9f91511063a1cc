use Rattle.std.proofs.Common.{◌≡◌, ◌-◌, ◌<◌, ℕ, List, length, true}
use Rattle.std.specs.Io.KnownBytes.{Keeps, prepend_known}
use Rattle.rip_log.specs.Feeds.{held, text}
use Rattle.rip_log.specs.Held.{ended_lines}
use Rattle.rip_log.specs.Ends.{NoFeedBelow}
use Rattle.rip_log.specs.Wholes.{OfWhole, Went}
use Rattle.rip_log.proofs.window.Window.pass_line.Given as goal

abbrev pub invariant-pulls : goal.invariant-pulls
invariant-pulls g l = record {
  dropped : (front : List ℕ) × NoFeedBelow front (length front) × (length front ≡ l.passed)
      × OfWhole g.R.Source.given g.R.Source.at_end l.self.feed.source (λ coming. Keeps (text coming l.fn.self.feed) (prepend_known front (text coming l.self.feed)));
  went : Went g.R.Source.given g.R.Source.coming g.R.Source.at_end l.fn.self.feed.source l.self.feed.source;
  some : 0 < length (held l.self.feed);
  marks : g.R.Source.broken l.self.feed.source ≡ g.R.Source.broken l.fn.self.feed.source;
  unpulled : g.R.Source.at_end l.fn.self.feed.source ≡ true → l.self.feed.source ≡ l.fn.self.feed.source;
  unchanged : 0 < ended_lines (held l.fn.self.feed) → l.self ≡ l.fn.self;
}

abbrev pub decreases-pulls : goal.decreases-pulls
decreases-pulls g l = 18446744073709551615 - l.passed
