use Rattle.std.proofs.Common.{◌≡◌, ◌-◌, ◌≤◌, length, true}
use Rattle.rip_log.specs.Wholes.{Went}
use Rattle.rip_log.specs.Feeds.{held}
use Rattle.rip_capture.specs.Feeds.{Extends, Keeps}
use Rattle.rip_capture.proofs.parts.Parts.hold.Given as goal

abbrev pub invariant-pulls : goal.invariant-pulls
invariant-pulls g l = record {
  keeps : Keeps g.R.Source.given l.fn.self.feed l.self.feed;
  longer : Extends (held l.fn.self.feed) (held l.self.feed);
  went : Went g.R.Source.given g.R.Source.coming g.R.Source.at_end l.fn.self.feed.source l.self.feed.source;
  marks : g.R.Source.broken l.self.feed.source ≡ g.R.Source.broken l.fn.self.feed.source;
  ready : l.count ≤ length (held l.fn.self.feed) → l.self.feed ≡ l.fn.self.feed;
  stays : g.R.Source.at_end l.fn.self.feed.source ≡ true → (held l.self.feed ≡ held l.fn.self.feed) × (g.R.Source.at_end l.self.feed.source ≡ true);
}

abbrev pub decreases-pulls : goal.decreases-pulls
decreases-pulls g l = l.count - length (held l.self.feed)
