use Rattle.std.proofs.Common.{◌<◌, ℕ, arith, length-set}
use Rattle.std.proofs.lemmas.List.{take_all}
use Rattle.std.proofs.lemmas.Nat.{mul-add-lt}
use Rattle.rip_plan.specs.declared.parts.Seat.TheVariants.{Link}
use Rattle.rip_plan.specs.Network.{is_carrying}
use Rattle.rip_plan.specs.Rows.{IsLinkBelow}
use Rattle.rip_plan.proofs.CellLemmas.{cell_set}
use Rattle.rip_plan.proofs.ClashLemmas.{seen_more}
use Rattle.rip_plan.proofs.ItemLemmas.{any_found}
use Rattle.rip_plan.proofs.index.carriers_of.Goals as goal
use Rattle.rip_plan.proofs.index.carriers_of.Goals.{in-Link, in_default}

pub loop-i-preserved : goal.loop-i-preserved
loop-i-preserved c =
    let i = c.loop-i.i in
    let w = c.args.prefixes in
    let q = c.index-places-i.result in
    let more = λ (m k : ℕ). seen_more (is_carrying m k) c.args.places.now i q c.loop-i-test.true c.index-places-i.is in
    elim c.match-place.branch [
      | in-Link b ↦
          let link : IsLinkBelow c.args.links (Link b.in-Link.link) = rw (← c.index-places-i.is, b.in-Link.is) at (c.requires.seats i q c.loop-i-test.true) in
          let column : q.prefix < w = rw (← c.index-places-i.is) at (c.requires.prefixes i q c.loop-i-test.true) in
          let inside = mul-add-lt b.in-Link.link w q.prefix c.args.links link column in (
            grind (arith, length-set, b.carriers-is, c.loop-i.invariant.0),
            λ m k h. grind (arith, b.carriers-is, cell_set, c.loop-i.invariant.1 m k h, more m k),
          )
      | in_default b ↦ (rw b.carriers-is c.loop-i.invariant.0, λ m k h. grind (arith, b.carriers-is, b.in_default.is, c.loop-i.invariant.1 m k h, more m k))
    ]

pub returns-clause-flags : goal.returns-clause-flags
returns-clause-flags c = grind (arith, take_all, any_found)
