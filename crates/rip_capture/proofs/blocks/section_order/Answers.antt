use Rattle.std.proofs.Common.{◌≡◌, ◌∙◌, ◌<◌, Err, length, arith, rules, subst, sym}
use Rattle.rip_capture.proofs.BlockLemmas.{misses-section, section-order, section-stays}
use Rattle.rip_capture.proofs.FeedLemmas.{Extends-length}
use Rattle.rip_log.specs.Feeds.{held}
use Rattle.rip_capture.specs.Finds.{FindsOrder}
use Rattle.rip_capture.proofs.blocks.section_order.Goals as goal

pub returns-in_err-hold-clause-found : goal.returns-in_err-hold-clause-found
returns-in_err-hold-clause-found g c = λ within.
    let now = held c.hold.new.self.feed in
    let at_end = g.R.Source.at_end c.hold.new.self.feed.source in
    let code = c.in_err-hold.field-0.0 in
    let is : c.from_residual.result ≡ Err code = search rules in
    let begins = section-stays (held c.args.parts.now.feed) now c.requires.begun c.hold.ensures.held ∙ c.requires.section in
    let some : 0 < length now = omega (arith, c.requires.begun, Extends-length (held c.args.parts.now.feed) now c.hold.ensures.held) in
    subst (λ r. FindsOrder within now at_end r) (sym is) (misses-section within now at_end begins code some c.in_err-hold.ensures.short)

pub returns-clause-found : goal.returns-clause-found
returns-clause-found g c = λ within.
    let now = held c.hold.new.self.feed in
    let begins = section-stays (held c.args.parts.now.feed) now c.requires.begun c.hold.ensures.held ∙ c.requires.section in
    rw c.ok_or.ensures.value (section-order within now (g.R.Source.at_end c.hold.new.self.feed.source) begins c.order_in.result c.in_ok-hold.ensures.some (rw c.held.ensures at c.order_in.ensures))
