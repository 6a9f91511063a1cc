use Rattle.std.proofs.Common.{arith}
use Rattle.rip_report.proofs.LoopLemmas.{all_numbered, numbered_more}
use Rattle.rip_report.proofs.plan.push_lists.Goals as goal

pub loop-link-preserved : goal.loop-link-preserved
loop-link-preserved g c = numbered_more c.loop-link.invariant c.has_list.ensures.exact c.push_only.ensures

pub returns : goal.returns
returns g c = all_numbered c.loop-link.invariant (let all = c.links-link-end.ensures in let each = c.lawful.ensures.list_of_each in omega (arith, c.loop-link-test.false))
