use Rattle.std.proofs.Common.{◌≡◌, ℕ, List, length, arith, subst}
use Rattle.rip_report.specs.Listings.{TextsOf}
use Rattle.rip_report.specs.Outs.{AddsOne, Progress}
use Rattle.rip_report.proofs.OutLemmas.{one_more}
use Rattle.rip_report.proofs.loops.add_listed.Goals as goal

pub add-requires : goal.add-requires
add-requires g c = c.requires c.loop-number.number-index c.loop-number-test.true

pub loop-number-preserved : goal.loop-number-preserved
loop-number-preserved g c = record { adds = one_more _ c.loop-number.number-index c.loop-number.invariant.adds c.add.ensures }

same_list : {a b : Progress} (IsText : ℕ → List ℕ → Type 0) (numbers list : List ℕ) → numbers ≡ list → AddsOne a b (TextsOf IsText numbers) → AddsOne a b (TextsOf IsText list)
same_list {a} {b} IsText numbers list is adds = subst (λ (l : List ℕ). AddsOne a b (TextsOf IsText l)) is adds

pub returns : goal.returns
returns g c list is =
    let all : c.loop-number.number-index ≡ length c.args.numbers.now = omega (arith, c.loop-number-test.false, c.loop-number.auto.number-index-end) in
    same_list (g.E.NumberText.is_text c.args.texts.now) c.args.numbers.now list is (rw all at c.loop-number.invariant.adds)
