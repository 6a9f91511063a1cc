use Rattle.std.proofs.Common.{refl}
use Rattle.rip_report.proofs.output.Out.answer.Goals as goal

pub returns-in-Ok : goal.returns-in-Ok
returns-in-Ok g c = rw c.in-Ok.is (record { ends = c.finish_with.ensures; lacks = tt })

pub returns-in-Err : goal.returns-in-Err
returns-in-Err g c = rw c.in-Err.is (record { ends = tt; lacks = (refl, c.take_back.ensures) })
