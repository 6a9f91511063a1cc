use Rattle.std.proofs.Common.{◌≤◌, ◌^◌, arith}
use Rattle.std.proofs.Math.Nat.{pow-le-pow_right}
use Rattle.rip_capture.proofs.time.units_in_second.Goals as goal

pub pow-requires : goal.pow-requires
pow-requires c =
    let most : 10 ^ c.from.result ≤ 10 ^ 38 = let few : c.from.result ≤ 38 = omega (arith, c.from.ensures, c.min.ensures) in pow-le-pow_right (omega arith) few in
    omega (arith, most)

pub pow-requires-else-resolution-lt128 : goal.pow-requires-else-resolution-lt128
pow-requires-else-resolution-lt128 c =
    let most : 2 ^ c.from-else-resolution-lt128.result ≤ 2 ^ 127 = let few : c.from-else-resolution-lt128.result ≤ 127 = omega (arith, c.from-else-resolution-lt128.ensures, c.ranges.resolution) in pow-le-pow_right (omega arith) few in
    omega (arith, most)
