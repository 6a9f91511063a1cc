use Rattle.std.proofs.Common.{◌++◌, ◌∷◌, [], subst}
use Rattle.rip_wire.specs.Message.{response}
use Rattle.rip_table.specs.Joined.{joined_message, with_heard}
use Rattle.rip_table.specs.Remembered.{Remembers}
use Rattle.rip_table.specs.Window.{shown, without_shown}
use Rattle.rip_table.specs.WindowFacts.{IsState-without_shown}
use Rattle.rip_table.proofs.CheckLemmas.{heard_valid}
use Rattle.rip_table.proofs.MetricLemmas.{response_metrics}
use Rattle.rip_table.proofs.RefusedLemmas.{entries_joined}
use Rattle.rip_table.proofs.RememberLemmas.{made_of, remembers-forgotten, remembers-nothing, remembers-passed, remembers-told, told_by}
use Rattle.rip_table.proofs.SaidLemmas.{interface_below}
use Rattle.rip_table.proofs.laws.windows.Goals as goal

pub returns-clause-new : goal.returns-clause-new
returns-clause-new c = remembers-nothing

pub returns-clause-told : goal.returns-clause-told
returns-clause-told c n seconds second i old new capture entries taken some valid fits says h remembers =
    let unshown = without_shown i (shown old) in
    let made = made_of seconds i old new (joined_message n i unshown (response entries)) h in
    let below = interface_below n (shown old) capture.link capture.sender i fits says.from in
    let state = heard_valid unshown i (IsState-without_shown i (shown old) valid) in
    let joined = entries_joined n i (with_heard unshown i) made.0 entries (response_metrics capture.datagram entries says.says) state below made.1 in
    subst (Remembers seconds second (taken ++ (record { second = second; interface = i; entries = entries }) ∷ [])) made.2
    (remembers-told seconds second i old made.0 entries taken some (told_by i (shown old) made.0 entries joined.taken) remembers)

pub returns-clause-passed : goal.returns-clause-passed
returns-clause-passed c = remembers-passed

pub returns-clause-forgotten : goal.returns-clause-forgotten
returns-clause-forgotten c = remembers-forgotten
