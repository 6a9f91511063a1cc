use Rattle.std.proofs.Common.{◌≡◌, ◌-◌, ◌∙◌, [], Err, ap, arith, refl, rules, subst, sym}
use Rattle.rip_capture.proofs.BlockLemmas.{block-found, fronted-on, misses-end, misses-rest}
use Rattle.rip_log.specs.Feeds.{held}
use Rattle.rip_capture.specs.Finds.{FindsBlock}
use Rattle.rip_capture.specs.Numbers.{number_in}
use Rattle.rip_capture.proofs.blocks.hold_block.Goals as goal

pub returns-in_err-hold-clause-found : goal.returns-in_err-hold-clause-found
returns-in_err-hold-clause-found g c = λ within has.
    let order = c.args.order in
    let now = held c.hold.new.self.feed in
    let at_end = g.R.Source.at_end c.hold.new.self.feed.source in
    let code = c.in_err-hold.field-0.0 in
    let is : c.from_residual.result ≡ Err code = search rules in
    let front = fronted-on within order c.args.kind c.args.len (held c.args.parts.now.feed) now c.requires.front has c.requires.says c.hold.ensures.held in
    let short = c.in_err-hold.ensures.short in
    subst (λ r. FindsBlock within [] now at_end r) (sym is) (misses-rest within order c.args.kind c.args.len now at_end front code short.0 short.1)

pub returns-then-number_in-len-clause-found : goal.returns-then-number_in-len-clause-found
returns-then-number_in-len-clause-found g c = λ within has.
    let order = c.args.order in
    let now = held c.hold.new.self.feed in
    let front = fronted-on within order c.args.kind c.args.len (held c.args.parts.now.feed) now c.requires.front has c.requires.says c.hold.ensures.held in
    misses-end within order c.args.kind c.args.len now (g.R.Source.at_end c.hold.new.self.feed.source) front c.in_ok-hold.ensures.some
    (λ same. c.if-number_in-len.true (c.number_in.ensures ∙ ap (number_in order (c.args.len - 4)) c.held.ensures ∙ same))

pub returns-clause-found : goal.returns-clause-found
returns-clause-found g c = λ within has.
    let order = c.args.order in
    let now = held c.hold.new.self.feed in
    let room = c.in_ok-hold.ensures.some in
    let front = fronted-on within order c.args.kind c.args.len (held c.args.parts.now.feed) now c.requires.front has c.requires.says c.hold.ensures.held in
    let end = sym (c.number_in.ensures ∙ ap (number_in order (c.args.len - 4)) c.held.ensures) ∙ c.if-number_in-len.false in
    let found = block-found within order c.args.kind c.args.len now (g.R.Source.at_end c.hold.new.self.feed.source) front room end in
    record {
      is_block = found.0;
      kind = found.1;
      size = omega arith;
      held = room;
      read = λ read. refl;
      young = λ old. c.requires.says.1 (sym c.requires.says.2 ∙ old);
      short = c.requires.says.4;
    }
