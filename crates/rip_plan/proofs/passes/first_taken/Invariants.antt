use Rattle.std.proofs.Common.{◌≡◌, ℕ, [], take, drop}
use Rattle.std.specs.HashSet.{contains}
use Rattle.std.specs.List.{list_any}
use Rattle.rip_plan.specs.Addresses.{have_one_address}
use Rattle.rip_plan.specs.Network.{pair_eq}
use Rattle.rip_plan.specs.Passes.{first_clash}
use Rattle.rip_plan.proofs.passes.first_taken.Given as goal

abbrev pub invariant-loop-k : goal.invariant-loop-k
invariant-loop-k l = (first_clash have_one_address (take l.k l.held) (drop l.k l.held) ≡ first_clash have_one_address [] l.held)
    × ((a b : ℕ) → contains pair_eq l.seen (a, b) ≡ list_any (λ h. pair_eq (h.link, h.address) (a, b)) (take l.k l.held))
