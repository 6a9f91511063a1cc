use Rattle.std.proofs.Common.{arith, ◌≡◌, ℕ, length, ap}
use Rattle.std.specs.Prelude.{◌==◌}
use Rattle.std.proofs.lemmas.Bool.Decides.{nat_tests}
use Rattle.rip_plan.specs.Network.{numbers_where, is_of}
use Rattle.rip_plan.proofs.LeafRouterLemmas.{leaf_of_one, one_of_leaf, two_of_other, other_of_two}
use Rattle.rip_plan.proofs.plan.Plan.leaf.Goals as goal

pub returns : goal.returns
returns c =
    let n = c.args.self.now in
    let r = c.args.router in
    let k = length c.of_router.result.now in
    let count : k ≡ length (numbers_where (is_of r) 0 n.interfaces) = ap length c.of_router.ensures.value in
    record {
      one = (λ h. leaf_of_one n r (grind (arith, nat_tests)), λ h. grind (arith, one_of_leaf n r h.0 h.1 h.2 h.3, nat_tests));
      more = (λ h. two_of_other n c.lawful.ensures r c.requires (grind (arith, nat_tests)), λ h. grind (arith, other_of_two n r h, nat_tests));
      count = ap (λ (m : ℕ). m == 1) count;
    }
