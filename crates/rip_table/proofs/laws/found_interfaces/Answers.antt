use Rattle.rip_table.proofs.laws.found_interfaces.Goals as goal

pub returns : goal.returns
returns c n name a i lawful = (c.senders.ensures.gives n name a i, c.senders.ensures.finds n name a i lawful)
