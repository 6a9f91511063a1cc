use Rattle.rip_report.specs.OwnText.{is_listed, unlisted}
use Rattle.rip_report.proofs.OutLemmas.{adds_nothing, adds_one}
use Rattle.rip_report.proofs.own.explain.UnlistedNumberText.add.Goals as goal

pub returns-then-not-is_listed : goal.returns-then-not-is_listed
returns-then-not-is_listed g c = adds_one (unlisted (λ h. cc (h, c.is_listed.ensures, c.if-not-is_listed.true))) c.push_unlisted_line.ensures

pub returns-else-not-is_listed : goal.returns-else-not-is_listed
returns-else-not-is_listed g c = adds_nothing (is_listed (cc (c.is_listed.ensures, c.if-not-is_listed.false)))
