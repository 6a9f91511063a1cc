use Rattle.rip_check.proofs.own_audit.is_address_given.Goals as goal

pub returns-in-Some : goal.returns-in-Some
returns-in-Some g c = (
  λ t. absurd (cc t),
  λ given.
      let lacking = c.in-Some.ensures.some.lacking in
      absurd (lacking.lacks (given.holders _ _ lacking.holder)),
)

pub returns-in-None : goal.returns-in-None
returns-in-None g c = (
  λ t.
      let (l, s, has, offer) = c.is_offered_by.ensures.0 t in
      record { takes = c.requires.takes; link = l; neighbour = s; has = has; offer = offer; holders = c.in-None.ensures.none },
  λ given. c.is_offered_by.ensures.1 (given.link, given.neighbour, given.has, given.offer),
)
