use Rattle.rip_plan.specs.Draft.{sketch}
use Rattle.rip_plan.proofs.LawfulPlanLemmas.{lawful}
use Rattle.rip_plan.proofs.TextLemmas.{TextLaws}
use Rattle.rip_plan.proofs.plan.read_plan.Goals as goal

pub plan_of-requires : goal.plan_of-requires
plan_of-requires c =
    let laws : TextLaws = record { name = c.names.ensures.exact; address = c.address_texts.ensures.exact; prefix = c.prefix_texts.ensures.exact } in
    lawful laws c.args.bytes.now (sketch c.in_ok-draft.draft) c.in_ok-draft.ensures.gives
