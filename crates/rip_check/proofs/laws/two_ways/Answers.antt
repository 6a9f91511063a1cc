use Rattle.rip_check.proofs.TwoWaysLemmas.{two_ways_shown}
use Rattle.rip_check.proofs.laws.two_ways.Goals as goal

pub returns : goal.returns
returns c n shown r p plan range at reason unread = two_ways_shown n plan shown range r p reason.2 reason.3 at reason.4 unread
