use Rattle.std.proofs.Common.{inl, inr}
use Rattle.rip_check.proofs.StayingLemmas.{is_true}
use Rattle.rip_check.proofs.untouched.Scenario.is_cut.Goals as goal

pub returns-then-leads_down : goal.returns-then-leads_down
returns-then-leads_down c = λ e s on step. inr (c.keeps_way.ensures (is_true c.keeps_way.result e))

pub returns-else-leads_down : goal.returns-else-leads_down
returns-else-leads_down c = λ e s on step. inl (c.leads_down.ensures c.if-leads_down.false s on step)
