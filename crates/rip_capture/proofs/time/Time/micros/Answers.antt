use Rattle.std.proofs.Common.{rules, ◌≡◌, ◌<◌, ◌+◌, ◌*◌, ◌/◌, ◌%◌, ◌∙◌, ℕ, Some, ap, arith, refl, subst, sym}
use Rattle.std.proofs.lemmas.Option.{same_Some}
use Rattle.rip_capture.specs.Clocks.{IsAt, IsMicros, coarse, millionths, unit_of, whole_seconds}
use Rattle.rip_capture.specs.Clocks.IsAt.{later, sooner}
use Rattle.rip_capture.specs.declared.time.Time.{Time}
use Rattle.rip_capture.proofs.ClockLemmas.{coarse-parts, some-units}
use Rattle.rip_capture.proofs.time.Time.micros.Goals as goal

pub nonzero_div-ticks : goal.nonzero_div-ticks
nonzero_div-ticks c = subst (λ n. 0 < n) (sym c.units_in_second-unit.ensures) (some-units (coarse c.args.self.resolution))

pub nonzero_rem-micros : goal.nonzero_rem-micros
nonzero_rem-micros c = subst (λ n. 0 < n) (sym c.units_in_second-unit.ensures) (some-units (coarse c.args.self.resolution))

pub nonzero_div-micros : goal.nonzero_div-micros
nonzero_div-micros c = subst (λ n. 0 < n) (sym c.units_in_second-unit.ensures) (some-units (coarse c.args.self.resolution))

-- the whole seconds and the millionths are those of the time
whole-is : (t : Time) (ticks unit : ℕ) → t.ticks < 18446744073709551616 → ticks ≡ t.ticks → unit ≡ unit_of (coarse t.resolution) → ticks / unit ≡ whole_seconds t
whole-is t ticks unit few e u = ap (λ n. n / unit) e ∙ ap (λ n. t.ticks / n) u ∙ (coarse-parts t.ticks t.resolution few).whole

rest-is : (t : Time) (ticks unit : ℕ) → t.ticks < 18446744073709551616 → ticks ≡ t.ticks → unit ≡ unit_of (coarse t.resolution) → ticks % unit * 1000000 / unit ≡ millionths t
rest-is t ticks unit few e u = ap (λ n. n % unit * 1000000 / unit) e ∙ ap (λ n. t.ticks % n * 1000000 / n) u ∙ (coarse-parts t.ticks t.resolution few).rest

-- a second is one
at-one : (t : Time) (whole a b : ℕ) → IsAt t whole a → IsAt t whole b → a ≡ b
at-one t whole a b (later less e) (later less' e') = e ∙ sym e'
at-one t whole a b (later less e) (sooner more e') = absurd (omega (arith, less, more))
at-one t whole a b (sooner more e) (later less e') = absurd (omega (arith, less, more))
at-one t whole a b (sooner more e) (sooner more' e') = omega (arith, e, e')

pub returns-in_default : goal.returns-in_default
returns-in_default c = λ micros. (
  λ e. cc e,
  λ is.
      let t = c.args.self in
      let at : IsAt t (c.from-ticks.result / c.units_in_second-unit.result) is.second = subst (λ w. IsAt t w is.second)
      (sym (whole-is t c.from-ticks.result c.units_in_second-unit.result (search rules) c.from-ticks.ensures c.units_in_second-unit.ensures)) is.at in
      absurd (c.in_default.not-Some is.second ((c.second.ensures.exact is.second).1 at)),
)

-- the second that was found is the one of the time
its-second : (t : Time) (whole second micros : ℕ) → whole ≡ whole_seconds t → ((s : ℕ) → (◌≡◌ (Some second) (Some s) → IsAt t whole s) × (IsAt t whole s → ◌≡◌ (Some second) (Some s))) →
    (is : IsMicros t micros) → second ≡ is.second
its-second t whole second micros e exact is = same_Some second is.second ((exact is.second).1 (subst (λ w. IsAt t w is.second) (sym e) is.at))

pub returns-then-micros-from : goal.returns-then-micros-from
returns-then-micros-from c = λ micros. (
  λ e. cc e,
  λ is.
      let t = c.args.self in
      let whole = whole-is t c.from-ticks.result c.units_in_second-unit.result (search rules) c.from-ticks.ensures c.units_in_second-unit.ensures in
      let rest = rest-is t c.from-ticks.result c.units_in_second-unit.result (search rules) c.from-ticks.ensures c.units_in_second-unit.ensures in
      let second = its-second t (c.from-ticks.result / c.units_in_second-unit.result) c.in-Some.second micros whole c.in-Some.ensures.exact is in
      absurd (omega (arith, c.if-micros-from.true, c.from.ensures, is.known, is.whole, second, rest)),
)

pub returns : goal.returns
returns c = λ micros.
    let t = c.args.self in
    let whole = whole-is t c.from-ticks.result c.units_in_second-unit.result (search rules) c.from-ticks.ensures c.units_in_second-unit.ensures in
    let rest = rest-is t c.from-ticks.result c.units_in_second-unit.result (search rules) c.from-ticks.ensures c.units_in_second-unit.ensures in
    let found = c.in-Some.second * 1000000 + c.from-ticks.result % c.units_in_second-unit.result * 1000000 / c.units_in_second-unit.result in (
      λ e.
          let same : found ≡ micros = same_Some found micros e in
          record {
            second = c.in-Some.second;
            at = subst (λ w. IsAt t w c.in-Some.second) whole ((c.in-Some.ensures.exact c.in-Some.second).0 refl);
            whole = omega (arith, same, rest);
            known = omega (arith, same, c.if-micros-from.false, c.from.ensures);
          },
      λ is.
          let second = its-second t (c.from-ticks.result / c.units_in_second-unit.result) c.in-Some.second micros whole c.in-Some.ensures.exact is in
          let same : found ≡ micros = omega (arith, is.whole, second, rest) in
          ap Some same,
    )
