use Rattle.std.proofs.Common.{◌≡◌, ℕ, ◌<◌, Some, get_or, slice_get, true}
use Rattle.rip_plan.specs.PrefixNetworks.{exchanges}
use Rattle.rip_plan.specs.Relations.{IsAttached, IsInterface}
use Rattle.rip_check.specs.Failures.{is_link_up, is_router_up, left_to}
use Rattle.rip_check.specs.Networks.{block_at}
use Rattle.rip_check.specs.Tellings.{AreTold, IsTelling}
use Rattle.rip_check.proofs.least.tell_on_all.Given as goal

abbrev pub invariant-loop-i : goal.invariant-loop-i
invariant-loop-i l = record {
  telling : IsTelling (left_to l.plan l.failure l.prefix) l.prefix l.metric l.fn.metrics l.metrics;
  told : AreTold (left_to l.plan l.failure l.prefix) l.prefix l.metric l.fn.metrics l.fn.marks →
      AreTold (left_to l.plan l.failure l.prefix) l.prefix l.metric l.metrics l.marks;
  all : (j k c : ℕ) → j < l.i-index → IsInterface l.plan (get_or l.numbers j 0) l.router k c → is_router_up l.failure l.router ≡ true → is_link_up l.failure k ≡ true →
      exchanges l.plan (block_at l.plan.prefixes l.prefix) k ≡ true → (IsAttached l.plan l.router l.prefix k → ⊥) → slice_get l.marks k ≡ Some true;
  kept : (k : ℕ) → slice_get l.fn.marks k ≡ Some true → slice_get l.marks k ≡ Some true;
}
