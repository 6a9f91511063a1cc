use Rattle.rip_table.proofs.tallies.interface.InterfaceTally.add.Goals as goal

-- src/tallies/interface.rt:116:5
pub returns-in-Bad : goal.returns-in-Bad
returns-in-Bad c i origin = rw c.in-Bad.is (c.add_bad.ensures i origin)
