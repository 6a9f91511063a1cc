use Rattle.std.proofs.Common.{◌≡◌, ◌-◌, ◌++◌, ◌∙◌, Err, ap, arith, rules, subst, sym}
use Rattle.std.proofs.lemmas.Bool.{false≢true}
use Rattle.std.proofs.lemmas.List.{length-append}
use Rattle.rip_log.proofs.WholeLemmas.{went_on}
use Rattle.rip_capture.proofs.BlockLemmas.{block-found, fronted-on, least-len, misses-end, misses-rest, number-behind}
use Rattle.rip_capture.proofs.FeedLemmas.{skips-kept}
use Rattle.rip_log.specs.Feeds.{held}
use Rattle.rip_capture.specs.Finds.{FindsBlock}
use Rattle.rip_capture.specs.Numbers.{number_in}
use Rattle.rip_capture.proofs.blocks.pass_block.Goals as goal

pub returns-in_err-skip-clause-found : goal.returns-in_err-skip-clause-found
returns-in_err-skip-clause-found g c =
    let order = c.args.order in
    let at_end = g.R.Source.at_end c.skip.new.self.feed.source in
    let s = c.in_err-skip.ensures.skips in
    let b = s.0 ++ held c.skip.new.self.feed in
    let code = c.in_err-skip.field-0.0 in
    let is : c.from_residual.result ≡ Err code = search rules in (
      s.0,
      s.1,
      λ within has.
          let front = fronted-on within order c.args.kind c.args.len (held c.args.parts.now.feed) b c.requires.front has c.requires.says s.1.begins in
          subst (λ r. FindsBlock within s.0 (held c.skip.new.self.feed) at_end r) (sym is)
          (misses-rest within order c.args.kind c.args.len b at_end front code (omega (arith, s.2.0)) s.2.1),
    )

pub returns-in_err-hold-clause-went : goal.returns-in_err-hold-clause-went
returns-in_err-hold-clause-went g c = let S = g.R.Source in went_on S.given S.coming S.at_end _ _ _ c.skip.ensures.went c.hold.ensures.went

pub returns-in_err-hold-clause-found : goal.returns-in_err-hold-clause-found
returns-in_err-hold-clause-found g c =
    let order = c.args.order in
    let at_end = g.R.Source.at_end c.hold.new.self.feed.source in
    let s = c.in_ok-skip.ensures.skips in
    let now = held c.hold.new.self.feed in
    let b = s.0 ++ now in
    let k = skips-kept g.R.Source.given c.args.parts.now.feed c.skip.new.self.feed c.hold.new.self.feed s.0 s.1 c.hold.ensures.keeps c.hold.ensures.held in
    let least = least-len order (held c.args.parts.now.feed) c.args.kind c.args.len c.requires.says in
    let code = c.in_err-hold.field-0.0 in
    let is : c.from_residual-in_err-hold.result ≡ Err code = search rules in
    let short = c.in_err-hold.ensures.short in (
      s.0,
      k,
      λ within has.
          let front = fronted-on within order c.args.kind c.args.len (held c.args.parts.now.feed) b c.requires.front has c.requires.says k.begins in
          subst (λ r. FindsBlock within s.0 now at_end r) (sym is)
          (misses-rest within order c.args.kind c.args.len b at_end front code (omega (arith, s.2, least, short.0, length-append s.0 now)) short.1),
    )

pub returns-then-number_in-len-clause-went : goal.returns-then-number_in-len-clause-went
returns-then-number_in-len-clause-went g c = let S = g.R.Source in went_on S.given S.coming S.at_end _ _ _ c.skip.ensures.went c.hold.ensures.went

pub returns-then-number_in-len-clause-found : goal.returns-then-number_in-len-clause-found
returns-then-number_in-len-clause-found g c =
    let order = c.args.order in
    let s = c.in_ok-skip.ensures.skips in
    let now = held c.hold.new.self.feed in
    let b = s.0 ++ now in
    let k = skips-kept g.R.Source.given c.args.parts.now.feed c.skip.new.self.feed c.hold.new.self.feed s.0 s.1 c.hold.ensures.keeps c.hold.ensures.held in
    let least = least-len order (held c.args.parts.now.feed) c.args.kind c.args.len c.requires.says in (
      s.0,
      k,
      λ within has.
          let front = fronted-on within order c.args.kind c.args.len (held c.args.parts.now.feed) b c.requires.front has c.requires.says k.begins in
          misses-end within order c.args.kind c.args.len b (g.R.Source.at_end c.hold.new.self.feed.source) front (omega (arith, s.2, least, c.in_ok-hold.ensures.some, length-append s.0 now))
          (λ same. c.if-number_in-len.true (c.number_in.ensures ∙ ap (number_in order 0) c.held.ensures ∙ sym (number-behind order s.0 now (c.args.len - 4) s.2) ∙ same)),
    )

pub returns-clause-went : goal.returns-clause-went
returns-clause-went g c = let S = g.R.Source in went_on S.given S.coming S.at_end _ _ _ c.skip.ensures.went c.hold.ensures.went

pub returns-clause-found : goal.returns-clause-found
returns-clause-found g c =
    let order = c.args.order in
    let s = c.in_ok-skip.ensures.skips in
    let now = held c.hold.new.self.feed in
    let b = s.0 ++ now in
    let k = skips-kept g.R.Source.given c.args.parts.now.feed c.skip.new.self.feed c.hold.new.self.feed s.0 s.1 c.hold.ensures.keeps c.hold.ensures.held in
    let least = least-len order (held c.args.parts.now.feed) c.args.kind c.args.len c.requires.says in
    let room = c.in_ok-hold.ensures.some in
    let end = number-behind order s.0 now (c.args.len - 4) s.2 ∙ sym (c.number_in.ensures ∙ ap (number_in order 0) c.held.ensures) ∙ c.if-number_in-len.false in (
      s.0,
      k,
      λ within has.
          let front = fronted-on within order c.args.kind c.args.len (held c.args.parts.now.feed) b c.requires.front has c.requires.says k.begins in
          let found = block-found within order c.args.kind c.args.len b (g.R.Source.at_end c.hold.new.self.feed.source) front (omega (arith, s.2, least, room, length-append s.0 now)) end in
          record {
            is_block = found.0;
            kind = found.1;
            size = omega (arith, s.2, least);
            held = room;
            read = λ read. absurd (false≢true (sym c.requires.read ∙ read));
            young = λ old. c.requires.says.1 (sym c.requires.says.2 ∙ old);
            short = c.requires.says.4;
          },
    )
