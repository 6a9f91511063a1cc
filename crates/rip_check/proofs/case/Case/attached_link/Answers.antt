use Rattle.std.proofs.Common.{◌≡◌, ◌∙◌, ℕ, Some, None, sym, subst}
use Rattle.std.proofs.lemmas.Bool.{both_ways}
use Rattle.std.proofs.lemmas.Option.{same_Some}
use Rattle.rip_plan.specs.Relations.{Exchanges, IsAttached}
use Rattle.rip_check.specs.Cases.{block_of}
use Rattle.rip_check.proofs.NetLemmas.{attached}
use Rattle.rip_check.proofs.case.Case.attached_link.Goals as goal

pub exchanges-requires : goal.exchanges-requires
exchanges-requires g c =
    let case = c.args.self.now in
    let on = c.lawful.ensures.plan.attached_there c.args.router case.prefix c.in-Some.link ((c.attached_link.ensures c.in-Some.link).0 c.in-Some.is) in
    c.lawful.ensures.plan.link_known on.1.0 c.args.router c.in-Some.link on.0 on.1.1

pub returns-in-Some : goal.returns-in-Some
returns-in-Some g c = λ l.
    let case = c.args.self.now in
    let r = c.args.router in
    let exact = attached case.plan.now c.lawful.ensures.plan (block_of case) r case.prefix l in (
      λ e.
          let same = same_Some c.in-Some.link l e in
          exact.1 (subst (IsAttached case.plan.now r case.prefix) same ((c.attached_link.ensures c.in-Some.link).0 c.in-Some.is), subst (λ (k : ℕ). Exchanges case.plan.now k (block_of case)) same (c.exchanges.ensures.0 c.if-exchanges.true)),
      λ at. sym c.in-Some.is ∙ (c.attached_link.ensures l).1 (exact.0 at).0,
    )

pub returns-in_default : goal.returns-in_default
returns-in_default g c = λ l.
    let case = c.args.self.now in
    let r = c.args.router in
    let exact = attached case.plan.now c.lawful.ensures.plan (block_of case) r case.prefix l in (
      λ e. cc e,
      λ at.
          let was = exact.0 at in
          let same : c.in-Some.link ≡ l = same_Some c.in-Some.link l (sym c.in-Some.is ∙ (c.attached_link.ensures l).1 was.0) in
          absurd (both_ways _ c.if-exchanges.false (c.exchanges.ensures.1 (subst (λ (k : ℕ). Exchanges case.plan.now k (block_of case)) (sym same) was.1))),
    )

pub returns-in_default-2 : goal.returns-in_default-2
returns-in_default-2 g c = λ l.
    let case = c.args.self.now in
    let exact = attached case.plan.now c.lawful.ensures.plan (block_of case) c.args.router case.prefix l in (
      λ e. cc e,
      λ at. let none : None ≡ Some l = sym c.in_default.is ∙ (c.attached_link.ensures l).1 (exact.0 at).0 in cc none,
    )
