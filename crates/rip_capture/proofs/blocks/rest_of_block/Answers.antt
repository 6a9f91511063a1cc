use Rattle.std.proofs.Common.{ℕ, List, [], Err, subst}
use Rattle.rip_capture.proofs.BlockLemmas.{front-fault}
use Rattle.rip_capture.proofs.FeedLemmas.{skips-kept, skips-none}
use Rattle.rip_log.specs.Feeds.{held}
use Rattle.rip_capture.specs.Finds.{SaysFront}
use Rattle.rip_capture.proofs.blocks.rest_of_block.Goals as goal

pub returns-in-Err-clause-found : goal.returns-in-Err-clause-found
returns-in-Err-clause-found g c = (
  [],
  skips-none g.R.Source.given c.args.parts.now.feed,
  λ within has.
      front-fault within c.args.order (held c.args.parts.now.feed) (g.R.Source.at_end c.args.parts.now.feed.source) c.in-Err.code c.requires.front has
      (subst (λ (l : List ℕ). SaysFront c.args.order l (Err c.in-Err.code)) c.held.ensures c.in-Err.ensures),
)

pub returns-then-is_read_whole-clause-found : goal.returns-then-is_read_whole-clause-found
returns-then-is_read_whole-clause-found g c = (
  [],
  skips-kept g.R.Source.given c.args.parts.now.feed c.args.parts.now.feed c.hold_block.new.parts.feed [] (skips-none g.R.Source.given c.args.parts.now.feed) c.hold_block.ensures.keeps c.hold_block.ensures.held,
  c.hold_block.ensures.found,
)
