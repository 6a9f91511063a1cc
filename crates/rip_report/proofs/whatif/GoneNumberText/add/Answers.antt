use Rattle.std.proofs.lemmas.Bool.Decides.{not_from_Decides}
use Rattle.rip_report.specs.WhatifText.{gone, not_gone}
use Rattle.rip_report.proofs.OutLemmas.{adds_nothing, adds_one}
use Rattle.rip_report.proofs.whatif.GoneNumberText.add.Goals as goal

pub returns-then-is_gone : goal.returns-then-is_gone
returns-then-is_gone g c = adds_one (gone (c.is_gone.ensures.0 c.if-is_gone.true)) c.push_gone_line.ensures

pub returns-else-is_gone : goal.returns-else-is_gone
returns-else-is_gone g c = adds_nothing (not_gone (not_from_Decides _ c.is_gone.ensures c.if-is_gone.false))
