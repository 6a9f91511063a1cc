use Rattle.std.proofs.Common.{◌≡◌, nat_lt, true}
use Rattle.std.proofs.lemmas.Bool.{lt-ltb}
use Rattle.rip_report.proofs.OutLemmas.{adds_then}
use Rattle.rip_report.proofs.expect.push_unreachable.Goals as goal

pub returns-then-pairs-gt0 : goal.returns-then-pairs-gt0
returns-then-pairs-gt0 g c =
    let some : nat_lt 0 c.args.pairs ≡ true = lt-ltb 0 c.args.pairs c.if-pairs-gt0.true in
    rw some (adds_then (adds_then c.push.ensures c.push_number.ensures) c.push-then-pairs-gt0.ensures)
