use Rattle.std.proofs.Common.{◌∙◌, sym}
use Rattle.rip_wire.specs.Datagram.{message_of}
use Rattle.rip_plan.specs.Network.{found_at}
use Rattle.rip_table.proofs.TakeLemmas.{taken_well, taken_ill}
use Rattle.rip_table.proofs.joining.join.Goals as goal

pub returns-in-Ok : goal.returns-in-Ok
returns-in-Ok g c =
    let state = g.T.Table.state in
    let is = sym c.find.ensures.value ∙ c.in-Some.is in
    let takes = rw c.in-Ok.is at c.take.ensures.takes in
    rw c.sender.ensures at (taken_well c.args.plan.now c.in-Some.interface (state c.args.table.now) (state c.take.new.self) (message_of c.args.found.now.datagram)
    (found_at c.args.plan.now c.args.found.now.link.now c.sender.result) is takes)

pub returns-in-Err : goal.returns-in-Err
returns-in-Err g c =
    let state = g.T.Table.state in
    let is = sym c.find.ensures.value ∙ c.in-Some.is in
    let takes = rw c.in-Err.is at c.take.ensures.takes in
    rw c.sender.ensures at (taken_ill c.args.plan.now c.in-Some.interface (state c.args.table.now) (state c.take.new.self) (message_of c.args.found.now.datagram)
    (found_at c.args.plan.now c.args.found.now.link.now c.sender.result) c.in-Err.error is takes)
