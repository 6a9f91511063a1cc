use Rattle.std.proofs.Common.{◌≡◌, Err, Some, rules, subst, sym}
use Rattle.rip_log.proofs.WholeLemmas.{went_on}
use Rattle.rip_capture.proofs.BlockLemmas.{misses-next}
use Rattle.rip_capture.proofs.FeedLemmas.{Extends-on}
use Rattle.rip_log.specs.Feeds.{held}
use Rattle.rip_capture.specs.Finds.{FindsNextOrder}
use Rattle.rip_capture.proofs.blocks.next_order.Goals as goal

pub returns-in_err-hold_next-clause-found : goal.returns-in_err-hold_next-clause-found
returns-in_err-hold_next-clause-found g c =
    let now = held c.hold_next.new.self.feed in
    let at_end = g.R.Source.at_end c.hold_next.new.self.feed.source in
    let code = c.in_err-hold_next.field-0.0 in
    let is : c.from_residual.result ≡ Err code = search rules in
    subst (λ r. FindsNextOrder (Some c.args.within) now at_end r) (sym is)
    (misses-next (Some c.args.within) now at_end code c.in_err-hold_next.ensures.begun c.in_err-hold_next.ensures.short)

pub returns-in_err-section_order-clause-found : goal.returns-in_err-section_order-clause-found
returns-in_err-section_order-clause-found g c =
    let now = held c.section_order.new.parts.feed in
    let at_end = g.R.Source.at_end c.section_order.new.parts.feed.source in
    let is : c.from_residual-in_err-section_order.result ≡ Err c.in_err-section_order.field-0.0 = search rules in
    subst (λ r. FindsNextOrder (Some c.args.within) now at_end r) (sym is) (c.in_err-section_order.ensures.found (Some c.args.within))

pub returns-in_ok-section_order-clause-found : goal.returns-in_ok-section_order-clause-found
returns-in_ok-section_order-clause-found g c = c.in_ok-section_order.ensures.found (Some c.args.within)

pub returns-in_ok-section_order-clause-keeps : goal.returns-in_ok-section_order-clause-keeps
returns-in_ok-section_order-clause-keeps g c = λ taken behind. c.section_order.ensures.keeps taken (c.hold_next.ensures.keeps taken behind)

pub returns-in_ok-section_order-clause-held : goal.returns-in_ok-section_order-clause-held
returns-in_ok-section_order-clause-held g c = Extends-on (held c.args.parts.now.feed) (held c.hold_next.new.self.feed) (held c.section_order.new.parts.feed) c.hold_next.ensures.held c.section_order.ensures.held

pub returns-in_ok-section_order-clause-went : goal.returns-in_ok-section_order-clause-went
returns-in_ok-section_order-clause-went g c = let S = g.R.Source in went_on S.given S.coming S.at_end _ _ _ c.hold_next.ensures.went c.section_order.ensures.went

pub returns-in_err-section_order-clause-keeps : goal.returns-in_err-section_order-clause-keeps
returns-in_err-section_order-clause-keeps g c = λ taken behind. c.section_order.ensures.keeps taken (c.hold_next.ensures.keeps taken behind)

pub returns-in_err-section_order-clause-held : goal.returns-in_err-section_order-clause-held
returns-in_err-section_order-clause-held g c = Extends-on (held c.args.parts.now.feed) (held c.hold_next.new.self.feed) (held c.section_order.new.parts.feed) c.hold_next.ensures.held c.section_order.ensures.held

pub returns-in_err-section_order-clause-went : goal.returns-in_err-section_order-clause-went
returns-in_err-section_order-clause-went g c = let S = g.R.Source in went_on S.given S.coming S.at_end _ _ _ c.hold_next.ensures.went c.section_order.ensures.went
