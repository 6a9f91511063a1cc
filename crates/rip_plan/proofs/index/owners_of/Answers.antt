use Rattle.std.proofs.Common.{◌-◌, ◌<◌, arith, length-set}
use Rattle.std.proofs.lemmas.Nat.{mul-add-lt}
use Rattle.rip_plan.specs.declared.parts.Seat.TheVariants.{Own}
use Rattle.rip_plan.specs.Network.{is_owned}
use Rattle.rip_plan.specs.Rows.{IsOwnerBelow}
use Rattle.rip_plan.proofs.ClashLemmas.{first_back}
use Rattle.rip_plan.proofs.CellLemmas.{cell_set}
use Rattle.rip_plan.proofs.index.owners_of.Goals as goal

pub loop-i-preserved-in-Own : goal.loop-i-preserved-in-Own
loop-i-preserved-in-Own c =
    let i = c.loop-i.i in
    let q = c.index-places-i.result in
    let is = c.index-places-i.is in
    let owner : IsOwnerBelow c.args.routers (Own c.in-Own.own) = rw (← is, c.in-Own.is) at (c.requires.owners (i - 1) q (omega arith)) in
    let column : q.prefix < c.args.prefixes = rw (← is) at (c.requires.prefixes (i - 1) q (omega arith)) in
    let room = mul-add-lt c.in-Own.own.router c.args.prefixes q.prefix c.args.routers owner column in (
      simp length-set c.loop-i.invariant.0,
      λ r k h. grind (arith, cell_set, c.loop-i.invariant.1 r k h, first_back (is_owned r k) c.args.places.now i q (omega arith) (omega arith) is),
    )
