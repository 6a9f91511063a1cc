use Rattle.std.proofs.Common.{◌≡◌, Err, rules, subst, sym}
use Rattle.rip_capture.proofs.PcapLemmas.{FindsMagic-of, FindsMagic-short}
use Rattle.rip_log.specs.Feeds.{held}
use Rattle.rip_capture.specs.Finds.{FindsMagic}
use Rattle.rip_capture.proofs.magic.next_magic.Goals as goal

pub returns-in_err-hold-clause-found : goal.returns-in_err-hold-clause-found
returns-in_err-hold-clause-found g c =
    let now = held c.hold.new.self.feed in
    let at_end = g.R.Source.at_end c.hold.new.self.feed.source in
    let is : c.from_residual.result ≡ Err c.in_err-hold.field-0.0 = search rules in
    subst (λ r. FindsMagic now at_end r) (sym is) (FindsMagic-short now at_end c.in_err-hold.field-0.0 c.in_err-hold.ensures.short)

pub returns-clause-found : goal.returns-clause-found
returns-clause-found g c =
    rw c.ok_or.ensures.value
    (FindsMagic-of (held c.hold.new.self.feed) (g.R.Source.at_end c.hold.new.self.feed.source) c.magic_of.result c.in_ok-hold.ensures.some (rw c.held.ensures at c.magic_of.ensures))
