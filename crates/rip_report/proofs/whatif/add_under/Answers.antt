use Rattle.std.proofs.Common.{length, refl}
use Rattle.rip_report.proofs.OutLemmas.{adds_nothing, adds_one, adds_then}
use Rattle.rip_report.proofs.whatif.add_under.Goals as goal

pub returns-then-all : goal.returns-then-all
returns-then-all g c =
    let n = c.args.losses.now.plan.now in
    let lost = c.add_below.ensures (length n.routers) c.routers.ensures in
    let gone = c.add_below-then-all.ensures (length n.prefixes) c.prefixes.ensures in
    adds_one (rw c.if-all.true (lost.text, gone.text, lost.is_text, gone.is_text, refl)) (adds_then lost.adds gone.adds)

pub returns-else-all : goal.returns-else-all
returns-else-all g c = adds_nothing (rw c.if-all.false refl)
