use Rattle.std.proofs.Common.{ap}
use Rattle.rip_table.specs.ListState.{list_state, metric_in}
use Rattle.rip_table.proofs.NewLemmas.{empty-is}
use Rattle.rip_table.proofs.list.ListTable.new.Goals as goal

pub invariant_of-result : goal.invariant_of-result
invariant_of-result c = record {
  valid = empty-is c.args.plan.now c.lawful.ensures (list_state c.in_ok-heard.heard.items c.in_ok-prefixes.prefixes.items c.new.result.items) c.in_ok-prefixes.ensures
      (λ i p. ap (metric_in i p) c.new.ensures.items);
}
