use Rattle.std.proofs.Common.{◌≡◌, ℕ, ◌+◌, ◌*◌, ◌<◌, Bool, Decides, Some, get_or, length, slice_get}
use Rattle.rip_check.specs.Failures.{left_to}
use Rattle.rip_check.specs.Losses.{IsGone}
use Rattle.rip_check.specs.Paths.{IsLeast}
use Rattle.rip_check.specs.Impacts.{HasRoom}
use Rattle.rip_check.proofs.aftermath.Aftermath.find.Given as goal

abbrev pub invariant-loop-prefix : goal.invariant-loop-prefix
invariant-loop-prefix l = record {
  room : HasRoom l.plan l.self;
  least : (r p : ℕ) → r < length l.plan.routers → p < l.prefix →
      IsLeast (left_to l.plan (Some l.failure) p) p r (get_or l.self.metrics.items (r * length l.plan.prefixes + p) 0);
  gone : (p : ℕ) (is_gone : Bool) → p < l.prefix → slice_get l.self.gone.items p ≡ Some is_gone → Decides is_gone (IsGone l.plan l.failure p);
  row : length l.row ≡ length l.plan.routers;
}
