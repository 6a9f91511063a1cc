use Rattle.std.proofs.lemmas.Bool.Decides.{not_from_Decides}
use Rattle.rip_report.specs.WhatifText.{lost, not_lost}
use Rattle.rip_report.proofs.OutLemmas.{adds_nothing, adds_one}
use Rattle.rip_report.proofs.whatif.LostByNumberText.add.Goals as goal

pub returns-then-is_lost : goal.returns-then-is_lost
returns-then-is_lost g c = adds_one (lost (c.is_lost.ensures.0 c.if-is_lost.true)) c.push_lost_line.ensures

pub returns-else-is_lost : goal.returns-else-is_lost
returns-else-is_lost g c = adds_nothing (not_lost (not_from_Decides _ c.is_lost.ensures c.if-is_lost.false))
