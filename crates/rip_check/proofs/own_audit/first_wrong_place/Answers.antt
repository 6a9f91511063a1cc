use Rattle.std.proofs.Common.{◌≡◌, ◌∙◌, arith}
use Rattle.rip_check.proofs.own_audit.first_wrong_place.Goals as goal

pub with_prefix-found-requires-clause-found : goal.with_prefix-found-requires-clause-found
with_prefix-found-requires-clause-found g c =
    rw (c.with_links.ensures.plan ∙ c.new-case.ensures.plan, c.with_links.ensures.table ∙ c.new-case.ensures.table, c.with_links.ensures.prefix ∙ c.new-case.ensures.prefix) c.loop-prefix.invariant.found

pub with_prefix-found-requires-clause-prefixes : goal.with_prefix-found-requires-clause-prefixes
with_prefix-found-requires-clause-prefixes g c =
    let same : (g.T.Table.state c.with_links.result.table.now).prefixes ≡ (g.G.RouteTables.tables c.args.tables.now).prefixes =
    rw (c.with_links.ensures.table ∙ c.new-case.ensures.table) c.requires.prefixes in
    same

pub loop-prefix-preserved : goal.loop-prefix-preserved
loop-prefix-preserved g c = record {
  found =
      rw (c.with_links.ensures.plan ∙ c.new-case.ensures.plan, c.with_links.ensures.table ∙ c.new-case.ensures.table, c.with_links.ensures.prefix ∙ c.new-case.ensures.prefix) at c.with_prefix-found.ensures;
  size = omega (arith, c.fill.auto.links, c.loop-prefix.invariant.size);
}
