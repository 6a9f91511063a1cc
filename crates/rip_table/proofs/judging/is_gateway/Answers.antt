use Rattle.std.proofs.Common.{◌≡◌, ℕ, Some, None, ap, arith, sym, ◌∙◌}
use Rattle.std.proofs.lemmas.Bool.Decides.{nat_tests}
use Rattle.rip_table.proofs.judging.is_gateway.Goals as goal

pub returns-in-Some-clause-planned : goal.returns-in-Some-clause-planned
returns-in-Some-clause-planned c = λ k planned.
    let says = c.gateway.ensures.planned k c.args.hop planned in (
      λ h. let same : c.in-Some.gateway ≡ c.args.hop = grind (arith, nat_tests) in says.0 (c.in-Some.is ∙ ap (λ (a : ℕ). Some a) same),
      λ h. let one : Some c.in-Some.gateway ≡ Some c.args.hop = sym c.in-Some.is ∙ says.1 h in let same : c.in-Some.gateway ≡ c.args.hop = cc one in grind (arith, nat_tests),
    )

pub returns-in-None-clause-planned : goal.returns-in-None-clause-planned
returns-in-None-clause-planned c = λ k planned.
    let says = c.gateway.ensures.planned k c.args.hop planned in (
      λ h. absurd (cc h),
      λ h. let clash : None ≡ Some c.args.hop = sym c.in-None.is ∙ says.1 h in absurd (cc clash),
    )
