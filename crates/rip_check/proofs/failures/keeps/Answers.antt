use Rattle.std.proofs.Common.{◌∙◌, sym}
use Rattle.rip_check.proofs.LeftLemmas.{any_attached_up, attached_up, kept_up, still_kept, was_kept}
use Rattle.rip_check.proofs.failures.keeps.Goals as goal

pub returns-then-keeps : goal.returns-then-keeps
returns-then-keeps c =
    let n = c.args.plan.now in
    let f = c.args.failure in
    let r = c.args.router in
    let p = c.args.prefix in
    let o = c.attached_link.result in (
      λ t. still_kept n f r p c.requires (attached_up n c.lawful.ensures f r p o c.attached_link.ensures (sym c.is_any_up.ensures ∙ t)) (c.keeps.ensures.0 c.if-keeps.true),
      λ kept. c.is_any_up.ensures ∙ any_attached_up n c.lawful.ensures f r p o c.attached_link.ensures (λ l at. kept_up n c.lawful.ensures f r p l kept at),
    )

pub returns-else-keeps : goal.returns-else-keeps
returns-else-keeps c = (
  λ t. absurd (cc (t, c.if-keeps.false)),
  λ kept. c.keeps.ensures.1 (was_kept c.args.plan.now c.args.failure c.args.router c.args.prefix kept).0,
)
