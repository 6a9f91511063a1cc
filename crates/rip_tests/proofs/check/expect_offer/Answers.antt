use Rattle.std.proofs.Common.{rules, ◌≡◌, ℕ}
use Rattle.std.proofs.lemmas.Bool.{both_ways}
use Rattle.rip_plan.specs.Relations.{HasList, IsInterface}
use Rattle.rip_check.specs.Networks.{network_at}
use Rattle.rip_tests.proofs.check.expect_offer.Goals as goal

pub offer-requires-clause-own : goal.offer-requires-clause-own
offer-requires-clause-own g c =
    let n = c.args.plan.now in
    let free : (l : ℕ) → HasList n l → ⊥ = λ l has. both_ways _ c.if-has_lists.false (c.has_lists.ensures.1 (l, has)) in
    let same : network_at n (g.T.Table.state c.args.table.now).prefixes c.args.offered.2 ≡ n = c.plans_without_lists.ensures.network n (g.T.Table.state c.args.table.now).prefixes c.args.offered.2 free in
    rw same (c.args.offered.0, c.interface-own.ensures.is)

pub offer-requires-clause-across : goal.offer-requires-clause-across
offer-requires-clause-across g c =
    let n = c.args.plan.now in
    let free : (l : ℕ) → HasList n l → ⊥ = λ l has. both_ways _ c.if-has_lists.false (c.has_lists.ensures.1 (l, has)) in
    let same : network_at n (g.T.Table.state c.args.table.now).prefixes c.args.offered.2 ≡ n = c.plans_without_lists.ensures.network n (g.T.Table.state c.args.table.now).prefixes c.args.offered.2 free in
    let there : (x d : ℕ) × IsInterface n c.args.offered.1 x c.interface-own.result.link d × (x ≡ c.interface-own.result.router → ⊥) = search rules in
    rw same there
