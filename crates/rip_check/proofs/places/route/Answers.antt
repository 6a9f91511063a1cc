use Rattle.rip_check.proofs.places.route.Goals as goal

pub returns : goal.returns
returns g c = rw (c.new.ensures.plan, c.new.ensures.table, c.new.ensures.prefix) at c.route.ensures
