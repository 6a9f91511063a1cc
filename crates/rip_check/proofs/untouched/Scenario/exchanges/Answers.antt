use Rattle.rip_check.proofs.NetLemmas.{exchanged}
use Rattle.rip_check.proofs.untouched.Scenario.exchanges.Goals as goal

pub returns : goal.returns
returns c =
    let same = exchanged c.args.self.now.plan.now c.args.self.now.prefix c.args.link c.prefix.result c.prefix.ensures in
    (λ t. same.0 (c.exchanges.ensures.0 t), λ is. c.exchanges.ensures.1 (same.1 is))
