use Rattle.std.proofs.Common.{◌≡◌, ◌≤◌, arith, ◌∙◌, Ok, Err, length, rules, subst, sym, ap}
use Rattle.rip_log.proofs.WholeLemmas.{went_on}
use Rattle.rip_capture.proofs.NumberLemmas.{number-stays}
use Rattle.rip_capture.proofs.FeedLemmas.{Extends-length}
use Rattle.rip_capture.proofs.PcapLemmas.{FindsRecord-begun, FindsRecord-short, ready-on}
use Rattle.rip_log.specs.Feeds.{held}
use Rattle.rip_capture.specs.Finds.{FindsRecord}
use Rattle.rip_capture.specs.Numbers.{number_in}
use Rattle.rip_capture.specs.Pcap.{captured_len}
use Rattle.rip_capture.proofs.pcap.next_record.Goals as goal

pub returns-in_err-hold_next-clause-found : goal.returns-in_err-hold_next-clause-found
returns-in_err-hold_next-clause-found g c =
    let order = c.args.order in
    let now = held c.hold_next.new.self.feed in
    let at_end = g.R.Source.at_end c.hold_next.new.self.feed.source in
    let code = c.in_err-hold_next.field-0.0 in
    let is : c.from_residual.result ≡ Err code = search rules in
    subst (λ r. FindsRecord order now at_end r) (sym is)
    (FindsRecord-begun order now at_end code c.in_err-hold_next.ensures.begun c.in_err-hold_next.ensures.short)

pub returns-in_err-hold-clause-went : goal.returns-in_err-hold-clause-went
returns-in_err-hold-clause-went g c = let S = g.R.Source in went_on S.given S.coming S.at_end _ _ _ c.hold_next.ensures.went c.hold.ensures.went

pub returns-clause-went : goal.returns-clause-went
returns-clause-went g c = let S = g.R.Source in went_on S.given S.coming S.at_end _ _ _ c.hold_next.ensures.went c.hold.ensures.went

pub returns-in_err-hold-clause-found : goal.returns-in_err-hold-clause-found
returns-in_err-hold-clause-found g c =
    let order = c.args.order in
    let first = held c.hold_next.new.self.feed in
    let now = held c.hold.new.self.feed in
    let at_end = g.R.Source.at_end c.hold.new.self.feed.source in
    let code = c.in_err-hold.field-0.0 in
    let is : c.from_residual-in_err-hold.result ≡ Err code = search rules in
    let enough = c.in_ok-hold_next.ensures.some (ap Ok c.if-not-branch.false) in
    let same = number-stays order 8 first now (omega (arith, enough)) c.hold.ensures.held ∙ ap (number_in order 8) (sym c.held.ensures) ∙ sym c.number_in-captured.ensures in
    let few : captured_len order now ≤ 262144 = omega (arith, same, c.if-captured-gt-MOST_CAPTURED.false) in
    let header : 16 ≤ length now = omega (arith, enough, Extends-length first now c.hold.ensures.held) in
    let short = c.in_err-hold.ensures.short in
    subst (λ r. FindsRecord order now at_end r) (sym is) (FindsRecord-short order now at_end code header few (omega (arith, same, short.0)) short.1)

pub returns-clause-found : goal.returns-clause-found
returns-clause-found g c =
    let order = c.args.order in
    let enough = c.in_ok-hold_next.ensures.some (ap Ok c.if-not-branch.false) in
    let same = number-stays order 8 (held c.hold_next.new.self.feed) (held c.hold.new.self.feed) (omega (arith, enough)) c.hold.ensures.held in
    (c.in_ok-hold.ensures.some, same ∙ ap (number_in order 8) (sym c.held.ensures) ∙ sym c.number_in-captured.ensures, c.if-captured-gt-MOST_CAPTURED.false)

pub returns-in_err-hold-clause-ready : goal.returns-in_err-hold-clause-ready
returns-in_err-hold-clause-ready g c = λ holds.
    ready-on c.args.order c.args.parts.now.feed c.hold_next.new.self.feed c.hold.new.self.feed c.held.result.now c.number_in-captured.result holds
    (c.hold_next.ensures.ready holds.header) c.held.ensures c.number_in-captured.ensures c.hold.ensures.ready

pub returns-clause-ready : goal.returns-clause-ready
returns-clause-ready g c = λ holds.
    ready-on c.args.order c.args.parts.now.feed c.hold_next.new.self.feed c.hold.new.self.feed c.held.result.now c.number_in-captured.result holds
    (c.hold_next.ensures.ready holds.header) c.held.ensures c.number_in-captured.ensures c.hold.ensures.ready

pub returns-in_err-hold-clause-short : goal.returns-in_err-hold-clause-short
returns-in_err-hold-clause-short g c = λ failed holds.
    let order = c.args.order in
    let first = held c.hold_next.new.self.feed in
    let enough = c.in_ok-hold_next.ensures.some (ap Ok c.if-not-branch.false) in
    let same = number-stays order 8 first (held c.hold.new.self.feed) (omega (arith, enough)) c.hold.ensures.held ∙ ap (number_in order 8) (sym c.held.ensures) ∙ sym c.number_in-captured.ensures in
    omega (arith, holds.packet, same, c.in_err-hold.ensures.short.0)

pub returns-in_err-hold-clause-keeps : goal.returns-in_err-hold-clause-keeps
returns-in_err-hold-clause-keeps g c = λ taken behind. c.hold.ensures.keeps taken (c.hold_next.ensures.keeps taken behind)

pub returns-clause-keeps : goal.returns-clause-keeps
returns-clause-keeps g c = λ taken behind. c.hold.ensures.keeps taken (c.hold_next.ensures.keeps taken behind)
