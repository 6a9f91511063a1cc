use Rattle.std.proofs.Common.{◌≡◌, ◌∙◌, false, sym, subst}
use Rattle.std.proofs.lemmas.Bool.Decides.{not_from_Decides}
use Rattle.rip_check.specs.declared.failures.Failure.{Failure}
use Rattle.rip_check.specs.Untouched.{IsUntouched}
use Rattle.rip_check.proofs.StayingLemmas.{link_untouched, router_untouched}
use Rattle.rip_check.proofs.untouched.Scenario.touches.Goals as goal
use Rattle.rip_check.proofs.untouched.Scenario.touches.Goals.{then-is_place, else-is_place}

pub returns-else-is_attached_to : goal.returns-else-is_attached_to
returns-else-is_attached_to c = λ e.
    let n = c.args.self.now.plan.now in
    let p = c.args.self.now.prefix in
    let x = c.in-Link.link in
    elim c.if-is_place.branch [
      | then-is_place w ↦ absurd (cc (w.value-is, c.if-is_attached_to.false))
      | else-is_place w ↦
          let loose : w.is_attached_to.result ≡ false = sym w.value-is ∙ c.if-is_attached_to.false in
          subst (λ (f : Failure). IsUntouched n f p) (sym c.in-Link.is)
          (link_untouched n p x (not_from_Decides _ c.is_place.ensures w.if-is_place.false) (w.is_attached_to.ensures loose) (rw c.in-Link.is at (c.is_cut_on.ensures e)))
    ]

pub returns-in-Router : goal.returns-in-Router
returns-in-Router c = λ e.
    let n = c.args.self.now.plan.now in
    let p = c.args.self.now.prefix in
    subst (λ (f : Failure). IsUntouched n f p) (sym c.in-Router.is) (router_untouched n p c.in-Router.router (rw c.in-Router.is at (c.is_cut_around.ensures e)))
