use Rattle.std.proofs.Common.{◌≡◌, ◌++◌, drop, map, option_map}
use Rattle.toml.specs.View.{view}
use Rattle.rip_plan.specs.Fields.{addresses_in}
use Rattle.rip_plan.proofs.draft.steps.addresses_of.Given as goal

abbrev pub invariant-loop-item : goal.invariant-loop-item
invariant-loop-item l = option_map (λ rest. l.addresses.items ++ rest) (addresses_in (map view (drop l.item-index l.items))) ≡ addresses_in (map view l.items)
