use Rattle.rip_check.proofs.told_table.link_of.Goals as goal

pub returns-in-Via : goal.returns-in-Via
returns-in-Via c = λ l. rw c.in-Via.is (c.only_link_with.ensures l)
