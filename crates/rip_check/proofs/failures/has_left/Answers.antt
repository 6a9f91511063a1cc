use Rattle.std.proofs.Common.{◌≡◌, ◌∙◌, Option, Some, ap, subst, sym}
use Rattle.rip_plan.specs.Relations.{IsDirect}
use Rattle.rip_check.specs.declared.failures.Failure.{Failure}
use Rattle.rip_check.specs.declared.failures.Failure.TheVariants.{Link, Router}
use Rattle.rip_check.specs.Failures.{network_left}
use Rattle.rip_check.proofs.LeftLemmas.{beside_left, beside_lost, not_that, others_left, own_lost, that_one}
use Rattle.rip_check.proofs.failures.has_left.Goals as goal

pub returns-in-Some-Link-clause-left : goal.returns-in-Some-Link-clause-left
returns-in-Some-Link-clause-left c = λ t d direct.
    let n = c.args.plan.now in
    let r = c.args.router in
    let p = c.args.prefix in
    let e : c.args.failure ≡ Some (Link c.in-Some-Link.failed) = c.in-Some-Link.is ∙ ap Some (rw c.in-Some-Link.is at c.in-Some-Link.field-0-is) in
    subst (λ (f : Option Failure). IsDirect (network_left n f) r p d) (sym e)
    (beside_left n c.lawful.ensures c.in-Some-Link.failed r p d (c.has_beside.ensures.attached t) (c.has_beside.ensures.carried t) direct)

pub returns-in-Some-Link-clause-lost : goal.returns-in-Some-Link-clause-lost
returns-in-Some-Link-clause-lost c = λ e d direct.
    let n = c.args.plan.now in
    let r = c.args.router in
    let p = c.args.prefix in
    let is : c.args.failure ≡ Some (Link c.in-Some-Link.failed) = c.in-Some-Link.is ∙ ap Some (rw c.in-Some-Link.is at c.in-Some-Link.field-0-is) in
    beside_lost n c.lawful.ensures c.in-Some-Link.failed r p d (c.has_beside.ensures.lost e)
    (subst (λ (f : Option Failure). IsDirect (network_left n f) r p d) is direct)

pub returns-in-Some-Router-clause-left : goal.returns-in-Some-Router-clause-left
returns-in-Some-Router-clause-left c = λ t d direct.
    let n = c.args.plan.now in
    let r = c.args.router in
    let p = c.args.prefix in
    let e : c.args.failure ≡ Some (Router c.in-Some-Router.failed) = c.in-Some-Router.is ∙ ap Some (rw c.in-Some-Router.is at c.in-Some-Router.field-0-is) in
    subst (λ (f : Option Failure). IsDirect (network_left n f) r p d) (sym e)
    (others_left n c.lawful.ensures c.in-Some-Router.failed r p d (not_that c.in-Some-Router.failed r t) direct)

pub returns-in-Some-Router-clause-lost : goal.returns-in-Some-Router-clause-lost
returns-in-Some-Router-clause-lost c = λ e d direct.
    let n = c.args.plan.now in
    let r = c.args.router in
    let p = c.args.prefix in
    let is : c.args.failure ≡ Some (Router c.in-Some-Router.failed) = c.in-Some-Router.is ∙ ap Some (rw c.in-Some-Router.is at c.in-Some-Router.field-0-is) in
    own_lost n c.lawful.ensures c.in-Some-Router.failed r p d (that_one c.in-Some-Router.failed r e)
    (subst (λ (f : Option Failure). IsDirect (network_left n f) r p d) is direct)
