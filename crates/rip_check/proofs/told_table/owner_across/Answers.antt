use Rattle.std.proofs.Common.{◌≡◌, ℕ, refl, sym, ap, ◌∙◌, arith}
use Rattle.std.proofs.lemmas.Option.{same_Some}
use Rattle.rip_plan.specs.declared.parts.OwnPrefix.{OwnPrefix}
use Rattle.rip_plan.specs.declared.parts.Place.{Place}
use Rattle.rip_plan.specs.declared.parts.Seat.TheVariants.{Own}
use Rattle.rip_plan.specs.Network.{Network}
use Rattle.rip_plan.specs.Relations.{IsInterface, IsPlace}
use Rattle.rip_check.specs.ToldCells.{HasGatewayAcross}
use Rattle.rip_check.proofs.told_table.owner_across.Goals as goal

-- whose the own prefix at a place is
owner : (n : Network) (k p r l a j : ℕ) (own : OwnPrefix) → IsPlace n k p (Own own) → (h : HasGatewayAcross n r l a k j) → own.router ≡ h.router
owner n k p r l a j own place h =
    let seat : Own own ≡ Own h.has.own = ap (λ (q : Place). q.seat) (same_Some _ _ (sym place.listed ∙ h.has.place.listed)) in
    let same : own ≡ h.has.own = cc seat in
    ap (λ (o : OwnPrefix). o.router) same ∙ h.has.router

pub number_on-requires : goal.number_on-requires
number_on-requires c =
    let its = c.in-Own.its in
    let q = c.place-seat.result in
    let place : IsPlace c.args.plan.now c.args.place q.prefix (Own its) = rw c.in-Own.is at c.place-seat.ensures in
    c.lawful.ensures.owner_known c.args.place q.prefix its.router its.cost (record { own = its; place = place; router = refl; says = refl })

pub returns-in-Own : goal.returns-in-Own
returns-in-Own c = λ j.
    let n = c.args.plan.now in
    let own = c.args.own.now in
    let its = c.in-Own.its in
    let q = c.place-seat.result in
    let place : IsPlace n c.args.place q.prefix (Own its) = rw c.in-Own.is at c.place-seat.ensures in (
      λ e.
          let (cost, at) = (c.number_on.ensures j).0 e in
          record {
            router = its.router;
            cost = cost;
            prefix = q.prefix;
            other = c.if-seat-own.true;
            its = at;
            has = record { own = its; place = place; router = refl; says = grind arith };
          },
      λ h.
          let who = owner n c.args.place q.prefix own.router own.link c.args.address j its place h in
          let at : IsInterface n j its.router own.link h.cost = rw (sym who) at h.its in
          (c.number_on.ensures j).1 (h.cost, at),
    )
