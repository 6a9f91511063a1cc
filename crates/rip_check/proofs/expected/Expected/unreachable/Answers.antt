use Rattle.std.proofs.Common.{◌≤◌, length, arith}
use Rattle.rip_check.specs.Expected.{IsCount}
use Rattle.rip_check.specs.Networks.{network_at}
use Rattle.rip_check.specs.Paths.{IsLeast}
use Rattle.rip_check.proofs.CountLemmas.{adds}
use Rattle.rip_check.proofs.NumberLemmas.{few_prefixes}
use Rattle.rip_check.proofs.expected.Expected.unreachable.Goals as goal

pub loop-router-preserved : goal.loop-router-preserved
loop-router-preserved c =
    let n = c.args.plan.now in
    let part : c.unreachable_of-total.result ≤ 1024 = omega (arith, c.unreachable_of-total.ensures.most, few_prefixes n c.lawful.ensures, c.lawful.ensures.few_places) in
    record {
      summed = adds (λ r. IsCount (λ p. IsLeast (network_at n n.prefixes p) p r 16)
          (length n.prefixes)) c.loop-router.router c.loop-router.total c.unreachable_of-total.result c.unreachable_of-total.ensures.count c.loop-router.invariant.summed;
      few = omega (arith, part, c.loop-router.invariant.few);
    }
