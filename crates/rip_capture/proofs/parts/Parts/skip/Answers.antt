use Rattle.std.proofs.Common.{◌≡◌, Err, arith, rules, ◌++◌, ◌∙◌, ap, length, sym, subst, take}
use Rattle.std.proofs.lemmas.List.{length-append, length-take}
use Rattle.rip_log.specs.Wholes.{Went}
use Rattle.rip_log.proofs.WholeLemmas.{went_on}
use Rattle.rip_log.specs.Feeds.{held}
use Rattle.rip_capture.specs.Feeds.{SkipsSo}
use Rattle.rip_capture.proofs.FeedLemmas.{skips-kept, skips-more}
use Rattle.rip_capture.proofs.parts.Parts.skip.Goals as goal

pub parts-preserved : goal.parts-preserved
parts-preserved g c =
    let S = g.R.Source in
    let before = c.parts.invariant.skipped in
    let part = c.min-part.result in
    let more = take part (held c.hold.new.self.feed) in
    let size = length-take part (held c.hold.new.self.feed) in
    let now = ap length c.held.ensures in
    record {
      skipped = (
        before.0 ++ more,
        omega (arith, before.1, length-append before.0 more, size, now, c.min-part.ensures),
        skips-more S.given c.args.self.now.feed c.parts.self.feed c.hold.new.self.feed c.take.new.self.feed before.0 part before.2 c.hold.ensures.keeps c.hold.ensures.held c.take.ensures.takes c.take.ensures.left,
      );
      went = subst (λ s. Went S.given S.coming S.at_end c.args.self.now.feed.source s) (sym c.take.ensures.source) (went_on S.given S.coming S.at_end _ _ _ c.parts.invariant.went c.hold.ensures.went);
      marks = ap S.broken c.take.ensures.source ∙ search rules;
    }

pub returns-in_err-hold-clause-skips : goal.returns-in_err-hold-clause-skips
returns-in_err-hold-clause-skips g c =
    let before = c.parts.invariant.skipped in
    let now = held c.hold.new.self.feed in
    let at_end = g.R.Source.at_end c.hold.new.self.feed.source in
    let code = c.in_err-hold.field-0.0 in
    let is : c.from_residual.result ≡ Err code = search rules in
    let short = c.in_err-hold.ensures.short in (
      before.0,
      skips-kept g.R.Source.given c.args.self.now.feed c.parts.self.feed c.hold.new.self.feed before.0 before.2 c.hold.ensures.keeps c.hold.ensures.held,
      subst (λ r. SkipsSo c.args.count before.0 now at_end r) (sym is)
          (omega (arith, before.1, c.parts-test.true, short.0, length-append before.0 now), short.1),
    )

pub returns-in_err-hold-clause-went : goal.returns-in_err-hold-clause-went
returns-in_err-hold-clause-went g c = let S = g.R.Source in went_on S.given S.coming S.at_end _ _ _ c.parts.invariant.went c.hold.ensures.went
