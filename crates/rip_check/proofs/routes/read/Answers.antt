use Rattle.std.proofs.Common.{◌≡◌, ℕ, Option, None, Some, IfSome, get_or, inl, not, ap, sym, subst}
use Rattle.std.proofs.lemmas.Bool.{both_ways}
use Rattle.rip_plan.specs.Network.{Network}
use Rattle.rip_plan.specs.Relations.{HasList, HasTwoInterfaces, IsLeaf}
use Rattle.rip_plan.proofs.PrefixNetworkLemmas.{same_network}
use Rattle.rip_table.specs.State.{State}
use Rattle.rip_check.specs.Cases.{block_of, told_in}
use Rattle.rip_check.specs.Tables.{IsQuiet}
use Rattle.rip_check.proofs.OwnedLemmas.{its_interface, some_number}
use Rattle.rip_check.proofs.routes.read.Goals as goal

for_any : {A : Type 0} (o : Option A) (P : Type 0) → P → IfSome o (λ x. P)
for_any None P is = tt
for_any (Some x) P is = is

-- where no link has a list, each router is quiet
all_quiet : (n : Network) (shown : State) (r p : ℕ) → ((l : ℕ) → HasList n l → ⊥) → IsQuiet n shown r p
all_quiet n shown r p free i l c at closed = absurd (closed (inl (free l)))

pub leaf_route-requires-clause-leaf : goal.leaf_route-requires-clause-leaf
leaf_route-requires-clause-leaf g c =
    let case = c.args.case.now in
    let n = case.plan.now in
    let r = c.args.router in
    let numbers = c.of_router.result.now in
    let exact = c.of_router.ensures.exact in
    let alone = c.leaf.ensures.one.0 c.if-leaf.true in
    let h = its_interface n r numbers exact 0 (some_number n r numbers exact alone.0 alone.1 alone.2 alone.3) in
    let same : get_or numbers 0 0 ≡ alone.0 = alone.3.only (get_or numbers 0 0) h.0 h.1 h.2 in
    let free : (l : ℕ) → HasList n l → ⊥ = λ l has. both_ways _ c.if-has_lists.false (c.has_lists.ensures.1 (l, has)) in
    (alone.1, alone.2, subst (λ (m : Network). IsLeaf m r (get_or numbers 0 0) alone.1 alone.2) (sym (same_network n (block_of case) free)) (rw same alone.3))

pub read_route-requires-clause-two : goal.read_route-requires-clause-two
read_route-requires-clause-two g c =
    let case = c.args.case.now in
    let n = case.plan.now in
    let free : (l : ℕ) → HasList n l → ⊥ = λ l has. both_ways _ c.if-has_lists.false (c.has_lists.ensures.1 (l, has)) in
    subst (λ (m : Network). HasTwoInterfaces m c.args.router) (sym (same_network n (block_of case) free)) (c.leaf.ensures.more.0 (ap not c.if-leaf.false))

pub returns-then-leaf-clause-quiet : goal.returns-then-leaf-clause-quiet
returns-then-leaf-clause-quiet g c =
    let case = c.args.case.now in
    for_any c.leaf_route.result (IsQuiet case.plan.now (told_in case) c.args.router case.prefix)
    (all_quiet case.plan.now (told_in case) c.args.router case.prefix (λ l has. both_ways _ c.if-has_lists.false (c.has_lists.ensures.1 (l, has))))

pub returns-clause-quiet : goal.returns-clause-quiet
returns-clause-quiet g c =
    let case = c.args.case.now in
    for_any c.read_route.result (IsQuiet case.plan.now (told_in case) c.args.router case.prefix)
    (all_quiet case.plan.now (told_in case) c.args.router case.prefix (λ l has. both_ways _ c.if-has_lists.false (c.has_lists.ensures.1 (l, has))))
