use Rattle.std.proofs.Common.{◌≡◌, ◌∙◌}
use Rattle.std.specs.List.{list_any}
use Rattle.rip_plan.specs.Network.{is_item}
use Rattle.rip_plan.proofs.PlanAnswerLemmas.{listed_exact}
use Rattle.rip_plan.proofs.plan.Plan.is_listed.Goals as goal

pub returns : goal.returns
returns c =
    let found : c.contains.result ≡ list_any (is_item c.args.link c.args.prefix) c.args.self.now.listed =
    c.contains.ensures ∙ rw (← c.self.view_is) (c.self.invariant.exchanged c.args.link c.args.prefix) in
    listed_exact c.args.self.now c.args.link c.args.prefix c.contains.result found
