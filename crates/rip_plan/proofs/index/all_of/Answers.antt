use Rattle.std.proofs.Common.{ℕ, arith, Vec, Global}
use Rattle.rip_plan.specs.declared.parts.Interface.{Interface}
use Rattle.rip_plan.proofs.BelowLemmas.{grouped_more, kept_within}
use Rattle.rip_plan.proofs.index.all_of.Goals as goal

pub index_mut-requires : goal.index_mut-requires
index_mut-requires c = grind (arith, kept_within)

pub loop-i-preserved : goal.loop-i-preserved
loop-i-preserved c =
    let x = c.index-interfaces-i.result in
    grouped_more (λ (w : Vec ℕ Global). w.items) c.loop-i.all.items c.args.routers (λ (y : Interface). y.router) c.args.interfaces.now c.loop-i.i x c.index_mut.result.now c.push.new.self
    c.loop-i.invariant (omega arith) c.index-interfaces-i.is (grind arith) c.index_mut.ensures.value c.in_ok-push.ensures.items
