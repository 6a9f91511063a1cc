use Rattle.std.proofs.Common.{◌∙◌, sym, ap, arith, List, [], ◌∷◌, ◌++◌}
use Rattle.rip_wire.specs.Prefix.{Block}
use Rattle.rip_table.proofs.PrefixListLemmas.{take-more}
use Rattle.rip_table.proofs.list.planned.Goals as goal

pub loop-k-preserved : goal.loop-k-preserved
loop-k-preserved c = record {
  taken = c.push_reserved.ensures.items ∙ ap (λ (l : List Block). l ++ c.prefix.result ∷ []) c.loop-k.invariant.taken ∙ sym
      (take-more c.args.plan.now.prefixes c.loop-k.k c.prefix.result c.prefix.ensures);
  len = omega (arith, c.push_reserved.ensures.len, c.loop-k.invariant.len);
  room = omega (arith, c.push_reserved.ensures.capacity, c.loop-k.invariant.room);
}
