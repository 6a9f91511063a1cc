use Rattle.std.proofs.Common.{◌≡◌, ◌↔◌, ℕ, Some, sym, ◌∙◌, ap, subst}
use Rattle.std.specs.Prelude.{slice_get}
use Rattle.std.proofs.lemmas.Option.{none-some, same_Some}
use Rattle.rip_plan.specs.declared.parts.Interface.{Interface}
use Rattle.rip_plan.specs.Relations.{IsDirect}
use Rattle.rip_tests.proofs.calling.plan.cost_from.Goals as goal

pub returns-in_err-number : goal.returns-in_err-number
returns-in_err-number c i r l d k cost at is prefix = absurd (none-some i ((c.in_err-number.ensures.exact i).1 at))

pub returns : goal.returns
returns c i r l d k cost at is prefix =
    let number : c.in_ok-number.number ≡ i = same_Some c.in_ok-number.number i ((c.in_ok-number.ensures.exact i).1 at) in
    let listed = ap (slice_get c.args.plan.now.interfaces) number ∙ is.listed in
    let router : c.interface.result.router ≡ r = ap (λ (v : Interface). v.router) (same_Some c.interface.result is.interface (sym c.interface.ensures.exact ∙ listed)) ∙ is.router in
    subst (λ (m : ℕ). (c.direct.result ≡ Some cost) ↔ IsDirect c.args.plan.now m k cost) router (c.direct.ensures.planned k cost prefix)
