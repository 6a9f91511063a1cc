use Rattle.std.proofs.Common.{◌≡◌, ◌≤◌, ℕ, ◌+◌, ◌<◌, get_or, true}
use Rattle.rip_plan.specs.Relations.{IsInterface, IsKept}
use Rattle.rip_check.specs.Failures.{is_router_up, left_to, network_left}
use Rattle.rip_check.specs.Tellings.{IsTelling}
use Rattle.rip_check.proofs.least.tell.Given as goal

abbrev pub invariant-loop-j : goal.invariant-loop-j
invariant-loop-j l = record {
  telling : IsTelling (left_to l.plan l.failure l.prefix) l.prefix l.metric l.fn.metrics l.metrics;
  told : (k r c : ℕ) → k < l.j-index → IsInterface l.plan (get_or l.numbers k 0) r l.link c → is_router_up l.failure r ≡ true →
      (IsKept (network_left l.plan l.failure) r l.prefix → ⊥) → get_or l.metrics r 0 ≤ c + l.metric;
}
