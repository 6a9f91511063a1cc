use Rattle.std.proofs.Common.{◌≡◌, ◌+◌, ◌*◌, ◌<◌, ◌∙◌, refl, get_or, length, arith}
use Rattle.std.proofs.lemmas.Nat.{mul-add-lt}
use Rattle.std.proofs.lemmas.Grind.{common_steps}
use Rattle.rip_check.proofs.MarkLemmas.{one_more_mark, other_mark}
use Rattle.rip_check.proofs.expected.keep.Goals as goal

pub loop-router-preserved : goal.loop-router-preserved
loop-router-preserved c =
    let i = c.loop-router.router in
    let row = c.args.row.now in
    let count = c.args.count in
    let p = c.args.prefix in
    let is = c.loop-router.invariant in
    let inside = mul-add-lt i count p (length row) c.loop-router-test.true c.requires.prefix in
    let at : i * count + p < length c.loop-router.metrics = omega (arith, inside, is.size, c.requires.size) in
    record {
      kept = one_more_mark 0 c.loop-router.metrics count p c.requires.prefix (λ r v. v ≡ get_or row r 0) i (get_or row i 0) at is.kept refl;
      others = λ r q lt other. other_mark 0 c.loop-router.metrics count p i (get_or row i 0) r q c.requires.prefix lt other ∙ is.others r q lt other;
      size = grind (arith, common_steps, is.size);
    }
