use Rattle.std.proofs.Common.{None, []}
use Rattle.rip_log.proofs.WholeLemmas.{went_on}
use Rattle.rip_capture.proofs.FeedLemmas.{skips-kept, skips-none, skips-on}
use Rattle.rip_capture.proofs.blocks.first_block.Goals as goal

pub rest_of_block-requires : goal.rest_of_block-requires
rest_of_block-requires g c = record { front = (c.in-Ok.ensures.found None).0 }

pub returns-in-Ok-clause-went : goal.returns-in-Ok-clause-went
returns-in-Ok-clause-went g c = let S = g.R.Source in went_on S.given S.coming S.at_end _ _ _ c.section_order.ensures.went c.rest_of_block.ensures.went

pub returns-in-Ok-clause-found : goal.returns-in-Ok-clause-found
returns-in-Ok-clause-found g c =
    let found = c.rest_of_block.ensures.found in (
      found.0,
      skips-on g.R.Source.given c.args.parts.now.feed c.section_order.new.parts.feed c.rest_of_block.new.parts.feed found.0 c.section_order.ensures.keeps c.section_order.ensures.held found.1,
      found.2 None
          (c.in-Ok.ensures.found None).1,
    )

pub returns-in-Err-clause-found : goal.returns-in-Err-clause-found
returns-in-Err-clause-found g c = (
  [],
  skips-kept g.R.Source.given c.args.parts.now.feed c.args.parts.now.feed c.section_order.new.parts.feed []
      (skips-none g.R.Source.given c.args.parts.now.feed) c.section_order.ensures.keeps c.section_order.ensures.held,
  c.in-Err.ensures.found None,
)
