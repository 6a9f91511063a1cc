use Rattle.rip_plan.proofs.PrefixNetworkLemmas.{prefix_network}
use Rattle.rip_check.specs.Cases.{block_of}
use Rattle.rip_check.proofs.case.Case.lawful.Goals as goal

pub returns-clause-network : goal.returns-clause-network
returns-clause-network g c = prefix_network c.args.self.now.plan.now c.lawful.ensures (block_of c.args.self.now)
