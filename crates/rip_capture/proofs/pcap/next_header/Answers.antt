use Rattle.std.proofs.Common.{◌≡◌, ◌≤◌, arith, ℕ, List, Err, length, rules, subst, sym}
use Rattle.rip_capture.proofs.FeedLemmas.{Extends-length}
use Rattle.rip_capture.proofs.NumberLemmas.{magic-stays}
use Rattle.rip_capture.proofs.PcapLemmas.{FindsHeader-read, FindsHeader-short}
use Rattle.rip_log.specs.Feeds.{held}
use Rattle.rip_capture.specs.Finds.{FindsHeader, ReadsHeader}
use Rattle.rip_capture.proofs.pcap.next_header.Goals as goal

pub returns-in_err-hold-clause-found : goal.returns-in_err-hold-clause-found
returns-in_err-hold-clause-found g c =
    let order = c.args.order in
    let now = held c.hold.new.self.feed in
    let at_end = g.R.Source.at_end c.hold.new.self.feed.source in
    let code = c.in_err-hold.field-0.0 in
    let is : c.from_residual.result ≡ Err code = search rules in
    let magic = magic-stays order (held c.args.parts.now.feed) now c.requires.begun c.hold.ensures.held c.requires.magic in
    let begun : 4 ≤ length now = omega (arith, c.requires.begun, Extends-length (held c.args.parts.now.feed) now c.hold.ensures.held) in
    subst (λ r. FindsHeader now at_end r) (sym is) (FindsHeader-short order now at_end code begun magic c.in_err-hold.ensures.short)

pub returns-clause-found : goal.returns-clause-found
returns-clause-found g c =
    let order = c.args.order in
    let now = held c.hold.new.self.feed in
    let magic = magic-stays order (held c.args.parts.now.feed) now c.requires.begun c.hold.ensures.held c.requires.magic in
    FindsHeader-read order now (g.R.Source.at_end c.hold.new.self.feed.source) c.read_header.result c.in_ok-hold.ensures.some magic
    (subst (λ (b : List ℕ). ReadsHeader order b c.read_header.result) c.held.ensures c.read_header.ensures)
