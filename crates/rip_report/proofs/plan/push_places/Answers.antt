use Rattle.std.proofs.Common.{◌≡◌, ℕ, ◌<◌, Option, None, Some, length, refl, arith}
use Rattle.std.specs.Prelude.{IfSome}
use Rattle.rip_plan.specs.Network.{Network}
use Rattle.rip_plan.specs.Relations.{IsLawful, IsPlace}
use Rattle.rip_plan.specs.declared.parts.Seat.{Seat}
use Rattle.rip_plan.specs.declared.parts.Seat.TheVariants.{Link, Own}
use Rattle.rip_report.specs.PlanText.{IsSeat}
use Rattle.rip_report.proofs.LoopLemmas.{all_items, item_more}
use Rattle.rip_report.proofs.plan.push_places.Goals as goal

-- a place of a plan is on a link of it, or with a router of it
known : (n : Network) (k p : ℕ) (seat : Seat) → IsLawful n → IsPlace n k p seat → IsSeat n seat
known n k p (Link l) laws is = laws.seat_known k p l is
known n k p (Own own) laws is = (laws.owner_known k p own.router own.cost (record { own = own; place = is; router = refl; says = refl }), attached own.link refl)
  where
    attached : (link : Option ℕ) → own.link ≡ link → IfSome link (λ l. l < length n.links)
    attached None e = tt
    attached (Some l) e =
        let there = laws.attached_there own.router p l (k, record { own = own; place = is; router = refl; says = e }) in
        laws.link_known there.1.0 own.router l there.0 there.1.1

pub push_place_line-requires-clause-prefix : goal.push_place_line-requires-clause-prefix
push_place_line-requires-clause-prefix g c = c.lawful.ensures.prefix_known c.loop-k.k c.place.result.prefix c.place.result.seat c.place.ensures

pub push_place_line-requires-clause-seat : goal.push_place_line-requires-clause-seat
push_place_line-requires-clause-seat g c = known c.args.plan.now c.loop-k.k c.place.result.prefix c.place.result.seat c.lawful.ensures c.place.ensures

pub loop-k-preserved : goal.loop-k-preserved
loop-k-preserved g c = item_more c.loop-k.invariant c.place.ensures.listed c.push_place_line.ensures

pub returns : goal.returns
returns g c = all_items c.loop-k.invariant (let all = c.places-k-end.ensures in omega (arith, c.loop-k-test.false))
