use Rattle.std.proofs.Common.{◌≡◌, length, subst, arith}
use Rattle.rip_check.specs.Verdicts.{IsFirstPlace}
use Rattle.rip_check.proofs.audit.first_place.Goals as goal
use Rattle.rip_check.specs.Told.{told}

pub returns : goal.returns
returns g c =
    let all : c.loop-prefix.prefix ≡ length (told c.args.plan.now (g.T.Table.state c.args.table.now)).prefixes =
    omega (arith, c.loop-prefix-test.false, c.loop-prefix.auto.prefix-end, c.prefix_count-prefix-end.ensures) in
    subst (λ k. IsFirstPlace c.args.plan.now (told c.args.plan.now (g.T.Table.state c.args.table.now)) k c.loop-prefix.found) all c.loop-prefix.invariant.found
