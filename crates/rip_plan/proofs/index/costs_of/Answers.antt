use Rattle.std.proofs.Common.{◌≡◌, ℕ, ◌*◌, ◌<◌, arith}
use Rattle.rip_plan.specs.declared.parts.Seat.{Seat}
use Rattle.rip_plan.specs.Rows.{IsOwnerBelow, IsOwnerWithin}
use Rattle.rip_plan.proofs.ClashLemmas.{back_is}
use Rattle.rip_plan.proofs.CellLemmas.{written_back}
use Rattle.rip_plan.proofs.index.costs_of.Goals as goal

owner_within : (routers w p cells : ℕ) (seat : Seat) → IsOwnerBelow routers seat → p < w → cells ≡ routers * w → IsOwnerWithin w p cells seat
owner_within routers w p cells seat h k g = grind arith

pub write_costs_at-requires-clause-owner : goal.write_costs_at-requires-clause-owner
write_costs_at-requires-clause-owner c = grind (arith, owner_within)

pub loop-i-preserved : goal.loop-i-preserved
loop-i-preserved c = grind (arith, written_back, back_is)
