use Rattle.rip_table.proofs.TallyLemmas.{bad_of_stranger, on_err}
use Rattle.rip_table.proofs.tallies.Tallies.hear_bad.Goals as goal

pub returns-in-Some-origin-clause-allocates : goal.returns-in-Some-origin-clause-allocates
returns-in-Some-origin-clause-allocates g c =
    on_err c.add_stranger.result _ (bad_of_stranger c.args.bad.now.code c.args.bad.now.origin c.args.bad.now.interface c.in-Some-origin.sender c.in_default.not-Some c.in-Some-origin.is)
