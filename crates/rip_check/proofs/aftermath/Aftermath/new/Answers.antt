use Rattle.std.proofs.Common.{◌≤◌, arith}
use Rattle.std.proofs.Math.Nat.{mul-le-mul_right}
use Rattle.rip_check.proofs.NumberLemmas.{few_prefixes}
use Rattle.rip_check.proofs.aftermath.Aftermath.new.Goals as goal

pub overflow_mul-routers : goal.overflow_mul-routers
overflow_mul-routers c =
    let n = c.args.plan.now in
    let routers : c.routers.result ≤ 128 = omega (arith, c.routers.ensures, c.lawful.ensures.few_routers) in
    let prefixes : c.prefixes.result ≤ 1024 = omega (arith, c.prefixes.ensures, few_prefixes n c.lawful.ensures, c.lawful.ensures.few_places) in
    omega (arith, mul-le-mul_right c.prefixes.result routers, prefixes)
