use Rattle.rip_report.proofs.expect.OfRoutersNumberText.add.Goals as goal

pub returns : goal.returns
returns g c = c.add_below.ensures _ c.prefixes.ensures
