use Rattle.std.proofs.Common.{ℕ, arith}
use Rattle.rip_plan.specs.Relations.{IsAttached}
use Rattle.rip_check.proofs.PlanLemmas.{attached_test}
use Rattle.rip_check.proofs.AcrossLemmas.{across_number}
use Rattle.rip_check.proofs.StayingLemmas.{all_across, one_across}
use Rattle.rip_check.proofs.untouched.Scenario.is_attached_to.Goals as goal

pub interface-own-requires : goal.interface-own-requires
interface-own-requires c = across_number c.args.self.now.plan.now c.args.link c.on_link-numbers.result.now c.on_link-numbers.ensures.exact c.loop-j.j-index c.loop-j-test.true

pub loop-j-preserved : goal.loop-j-preserved
loop-j-preserved c =
    let Q : ℕ → ℕ → Type 0 = λ r d. IsAttached c.args.self.now.plan.now r c.args.self.now.prefix c.args.link → ⊥ in
    one_across c.args.self.now.plan.now c.args.link c.on_link-numbers.result.now c.on_link-numbers.ensures.exact Q c.loop-j.j-index c.interface-own.result c.interface-own.ensures.is
    (λ at. let t = (attached_test c.args.self.now.plan.now c.interface-own.result.router c.args.self.now.prefix c.args.link c.attached_link.result c.eq.result c.attached_link.ensures c.eq.ensures).1 at in cc
    (t, c.if-eq.false)) c.loop-j.invariant

pub returns : goal.returns
returns c =
    let Q : ℕ → ℕ → Type 0 = λ r d. IsAttached c.args.self.now.plan.now r c.args.self.now.prefix c.args.link → ⊥ in
    λ e r at. all_across c.args.self.now.plan.now c.args.link c.on_link-numbers.result.now c.on_link-numbers.ensures.exact Q c.loop-j.j-index
    (omega (arith, c.loop-j-test.false, c.loop-j.auto.j-index-end)) c.loop-j.invariant r (c.lawful.ensures.attached_there r c.args.self.now.prefix c.args.link at).0
    (c.lawful.ensures.attached_there r c.args.self.now.prefix c.args.link at).1 at
