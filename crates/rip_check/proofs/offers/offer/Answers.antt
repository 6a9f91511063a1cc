use Rattle.rip_check.proofs.offers.offer.Goals as goal

pub returns : goal.returns
returns g c = rw (c.new.ensures.plan, c.new.ensures.table, c.new.ensures.prefix) at c.offer.ensures
