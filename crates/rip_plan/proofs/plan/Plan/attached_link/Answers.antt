use Rattle.std.proofs.Common.{◌≡◌, subst, ap, sym, ◌∙◌, None}
use Rattle.std.specs.Prelude.{option_and_then}
use Rattle.rip_plan.specs.Network.{Network, own_seat}
use Rattle.rip_plan.specs.Seats.{link_of}
use Rattle.rip_plan.proofs.PlanAnswerLemmas.{attached_exact, none_attached}
use Rattle.rip_plan.proofs.plan.Plan.attached_link.Goals as goal

pub returns-in-Some : goal.returns-in-Some
returns-in-Some c =
    attached_exact c.args.self.now c.lawful.ensures c.args.router c.args.prefix c.attached_link.result
    (c.attached_link.ensures ∙ ap (option_and_then link_of) (sym c.in-Some.is ∙ c.own_seat.ensures))

pub returns-in-None : goal.returns-in-None
returns-in-None c =
    attached_exact c.args.self.now c.lawful.ensures c.args.router c.args.prefix None
    (ap (option_and_then link_of) (sym c.in-None.is ∙ c.own_seat.ensures))

pub returns-then-not-self : goal.returns-then-not-self
returns-then-not-self c =
    let none = none_attached c.args.router c.args.prefix c.self.inside.places.items (sym c.self.invariant.any_kept ∙ c.if-not-self.true) in
    attached_exact c.args.self.now c.lawful.ensures c.args.router c.args.prefix None (sym
    (subst (λ (n : Network). option_and_then link_of (own_seat c.args.router c.args.prefix n.places) ≡ None) c.self.view_is none))
