use Rattle.rip_check.proofs.OnePlaceLemmas.{choice_low}
use Rattle.rip_check.proofs.case.Case.equation.Goals as goal
use Rattle.rip_check.specs.Cases.{network_of, told_in}

pub metric_of-requires-clause-low : goal.metric_of-requires-clause-low
metric_of-requires-clause-low g c =
    choice_low (network_of c.args.self.now) (told_in c.args.self.now) c.lawful.ensures.network c.args.router c.args.self.now.prefix c.least_choice.result c.least_choice.ensures.chosen

pub returns : goal.returns
returns g c = rw c.metric_of.ensures (record { chosen = c.least_choice.ensures.chosen; least = c.least_choice.ensures.least })
