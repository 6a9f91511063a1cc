use Rattle.std.proofs.Common.{◌≡◌, ◌∙◌, subst, sym}
use Rattle.rip_capture.specs.Clocks.{IsMicros}
use Rattle.rip_capture.specs.declared.time.Time.{Time}
use Rattle.rip_report.proofs.captures.times.line_time.Goals as goal

pub returns-in-None : goal.returns-in-None
returns-in-None c = (
  c.if-not-asked.false,
  λ micros has.
      let same : has.time ≡ c.in-Some.time = cc (sym has.has ∙ c.in-Some.is) in
      absurd (cc (sym c.in-None.is ∙ (c.micros.ensures micros).1 (subst (λ (t : Time). IsMicros t micros) same has.is))),
)
