use Rattle.std.proofs.Common.{◌≤◌, ◌-◌, length, drop}
use Rattle.rip_capture.specs.Options.{Describes, HasBadOption}
use Rattle.rip_capture.specs.declared.interface.Interface.{Interface}
use Rattle.rip_capture.proofs.options.read_options.Given as goal

abbrev pub invariant-options : goal.invariant-options
invariant-options l = record {
  within : l.at ≤ length l.options;
  told : (j : Interface) → Describes l.order (drop l.at l.options) l.described j → Describes l.order l.options l.fn.interface j;
  bad : HasBadOption l.order (drop l.at l.options) → HasBadOption l.order l.options;
}

abbrev pub decreases-options : goal.decreases-options
decreases-options l = length l.options - l.at
