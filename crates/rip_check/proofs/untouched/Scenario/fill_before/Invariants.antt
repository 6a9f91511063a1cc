use Rattle.std.proofs.Common.{◌≡◌, ℕ, ◌<◌, Some, false, get_or, true}
use Rattle.rip_check.specs.Failures.{is_router_up}
use Rattle.rip_check.specs.Paths.{IsLeast}
use Rattle.rip_check.specs.Scenarios.{network_before}
use Rattle.rip_check.proofs.untouched.Scenario.fill_before.Given as goal

abbrev pub invariant-loop-router : goal.invariant-loop-router
invariant-loop-router l = record {
  up : (r : ℕ) → r < l.router → is_router_up (Some l.self.failure) r ≡ true → IsLeast (network_before l.self) l.self.prefix r (get_or l.row r 0);
  failed : (r : ℕ) → r < l.router → is_router_up (Some l.self.failure) r ≡ false → get_or l.row r 0 ≡ 16;
}
