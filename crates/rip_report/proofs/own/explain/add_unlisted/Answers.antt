use Rattle.std.proofs.Common.{refl}
use Rattle.rip_report.proofs.OutLemmas.{adds_one}
use Rattle.rip_report.proofs.own.explain.add_unlisted.Goals as goal

pub returns-then-all : goal.returns-then-all
returns-then-all g c = rw c.if-all.true (c.add_below.ensures _ c.routers.ensures)

pub returns-else-all : goal.returns-else-all
returns-else-all g c = rw c.if-all.false (adds_one refl c.push_unlisted_line.ensures)
