use Rattle.std.proofs.Common.{Some}
use Rattle.rip_log.proofs.WholeLemmas.{went_on}
use Rattle.rip_capture.proofs.FeedLemmas.{skips-on}
use Rattle.rip_capture.proofs.BlockLemmas.{whole-ready}
use Rattle.rip_capture.proofs.blocks.next_block.Goals as goal

pub returns-in-Ok-clause-went : goal.returns-in-Ok-clause-went
returns-in-Ok-clause-went g c = let S = g.R.Source in went_on S.given S.coming S.at_end _ _ _ c.next_order.ensures.went c.rest_of_block.ensures.went

pub returns-in-Ok-clause-found : goal.returns-in-Ok-clause-found
returns-in-Ok-clause-found g c =
    let found = c.in-Ok.ensures.found in
    let order = rw c.in-Ok-Some.field-0-is at c.in-Ok-Some.ensures.found in (
      found.0,
      skips-on g.R.Source.given c.args.parts.now.feed c.next_order.new.parts.feed c.rest_of_block.new.parts.feed found.0 c.next_order.ensures.keeps c.next_order.ensures.held found.1,
      found.2
          (Some c.args.within) order.1,
    )

pub returns-in-Err-rest_of_block-clause-went : goal.returns-in-Err-rest_of_block-clause-went
returns-in-Err-rest_of_block-clause-went g c = let S = g.R.Source in went_on S.given S.coming S.at_end _ _ _ c.next_order.ensures.went c.rest_of_block.ensures.went

pub returns-in-Err-rest_of_block-clause-found : goal.returns-in-Err-rest_of_block-clause-found
returns-in-Err-rest_of_block-clause-found g c =
    let found = c.in-Err-rest_of_block.ensures.found in
    let order = rw c.in-Ok-Some.field-0-is at c.in-Ok-Some.ensures.found in (
      found.0,
      skips-on g.R.Source.given c.args.parts.now.feed c.next_order.new.parts.feed c.rest_of_block.new.parts.feed found.0 c.next_order.ensures.keeps c.next_order.ensures.held found.1,
      found.2
          (Some c.args.within) order.1,
    )

pub returns-in-Ok-clause-ready : goal.returns-in-Ok-clause-ready
returns-in-Ok-clause-ready g c = λ h.
    let within = Some c.args.within in
    let first = c.next_order.ensures.ready h.front in
    let order = rw c.in-Ok-Some.field-0-is at c.in-Ok-Some.ensures.found in
    whole-ready within c.in-Ok-Some.order c.args.parts.now.feed c.next_order.new.parts.feed c.rest_of_block.new.parts.feed h first order.1 c.rest_of_block.ensures.ready

pub returns-in-Err-rest_of_block-clause-ready : goal.returns-in-Err-rest_of_block-clause-ready
returns-in-Err-rest_of_block-clause-ready g c = λ h.
    let within = Some c.args.within in
    let first = c.next_order.ensures.ready h.front in
    let order = rw c.in-Ok-Some.field-0-is at c.in-Ok-Some.ensures.found in
    whole-ready within c.in-Ok-Some.order c.args.parts.now.feed c.next_order.new.parts.feed c.rest_of_block.new.parts.feed h first order.1 c.rest_of_block.ensures.ready
