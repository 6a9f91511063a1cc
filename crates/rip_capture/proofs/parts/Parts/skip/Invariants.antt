use Rattle.std.proofs.Common.{◌≡◌, ◌+◌, ℕ, List, length}
use Rattle.rip_log.specs.Wholes.{Went}
use Rattle.rip_capture.specs.Feeds.{Skips}
use Rattle.rip_capture.proofs.parts.Parts.skip.Given as goal

abbrev pub invariant-parts : goal.invariant-parts
invariant-parts g l = record {
  skipped : (bytes : List ℕ) × (length bytes + l.left ≡ l.count) × Skips g.R.Source.given l.fn.self.feed l.self.feed bytes;
  went : Went g.R.Source.given g.R.Source.coming g.R.Source.at_end l.fn.self.feed.source l.self.feed.source;
  marks : g.R.Source.broken l.self.feed.source ≡ g.R.Source.broken l.fn.self.feed.source;
}

abbrev pub decreases-parts : goal.decreases-parts
decreases-parts g l = l.left
