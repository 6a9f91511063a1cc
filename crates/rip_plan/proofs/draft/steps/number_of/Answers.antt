use Rattle.std.proofs.Common.{◌∙◌}
use Rattle.rip_plan.proofs.draft.steps.number_of.Goals as goal

pub returns : goal.returns
returns c = c.copied.ensures ∙ c.get.ensures.value ∙ c.args.draft.now.numbered c.args.name.now
