-- A router with one interface, and one with more.
use Rattle.std.proofs.Common.{◌≡◌, ◌≢◌, ℕ, ◌<◌, ◌≤◌, inl, inr, List, length, get_or, Some, arith}
use Rattle.std.specs.Prelude.{slice_get}
use Rattle.std.proofs.lemmas.Option.{slice_get_within, get_or_from_slice_get}
use Rattle.std.proofs.lemmas.Bool.{cases_lt}
use Rattle.rip_plan.specs.Network.{Network, is_of, numbers_where}
use Rattle.rip_plan.specs.Relations.{IsInterface, IsLeaf, HasTwoInterfaces, IsLawful}
use Rattle.rip_plan.proofs.ItemLemmas.{get_some}
use Rattle.rip_plan.proofs.BelowLemmas.{contains_at, at_contains, rising}
use Rattle.rip_plan.proofs.LookupLemmas.{of_router_gives, of_router_finds}

abbrev numbers_of : Network → ℕ → List ℕ
numbers_of n r = numbers_where (is_of r) 0 n.interfaces

-- the number at k is that of an interface of the router
interface_at : (n : Network) (r k i : ℕ) → slice_get (numbers_of n r) k ≡ Some i → (l c : ℕ) × IsInterface n i r l c
interface_at n r k i h = of_router_gives n r i (contains_at (numbers_of n r) k i h)

-- the first two numbers of two or more
record Two (n : Network) (r : ℕ) : Type 0 where
  first : ℕ
  second : ℕ
  is_first : slice_get (numbers_of n r) 0 ≡ Some first
  is_second : slice_get (numbers_of n r) 1 ≡ Some second
  below : first < second

two_of : (n : Network) (r : ℕ) → 2 ≤ length (numbers_of n r) → Two n r
two_of n r h =
    let (a, at) = get_some (numbers_of n r) 0 (omega arith) in
    let (b, next) = get_some (numbers_of n r) 1 (omega arith) in
    let up : get_or (numbers_of n r) 0 0 < get_or (numbers_of n r) 1 0 = rising (is_of r) 0 n.interfaces 0 (omega arith) in
    record { first = a; second = b; is_first = at; is_second = next; below = omega (arith, up, get_or_from_slice_get (numbers_of n r) 0 a 0 at, get_or_from_slice_get (numbers_of n r) 1 b 0 next) }

some_of : (n : Network) (r i l c : ℕ) → IsInterface n i r l c → 1 ≤ length (numbers_of n r)
some_of n r i l c h =
    let (k, at) = at_contains (numbers_of n r) i (of_router_finds n r i l c h) in
    omega (arith, slice_get_within (numbers_of n r) k i at)

pub leaf_of_one : (n : Network) (r : ℕ) → length (numbers_of n r) ≡ 1 → (i l c : ℕ) × IsLeaf n r i l c
leaf_of_one n r one =
    let (i, at) = get_some (numbers_of n r) 0 (omega arith) in
    let (l, c, has) = interface_at n r 0 i at in
    let only : (j k d : ℕ) → IsInterface n j r k d → j ≡ i = λ j k d h. grind (arith, at_contains (numbers_of n r) j (of_router_finds n r j k d h), slice_get_within (numbers_of n r)) in
    (i, l, c, record { has = has; only = only })

pub one_of_leaf : (n : Network) (r i l c : ℕ) → IsLeaf n r i l c → length (numbers_of n r) ≡ 1
one_of_leaf n r i l c leaf =
    elim (cases_lt (length (numbers_of n r)) 2) [
      | inl few ↦ omega (arith, some_of n r i l c leaf.has)
      | inr more ↦
          let two = two_of n r more in
          let (l1, c1, one) = interface_at n r 0 two.first two.is_first in
          let (l2, c2, other) = interface_at n r 1 two.second two.is_second in
          absurd (omega (arith, leaf.only two.first l1 c1 one, leaf.only two.second l2 c2 other, two.below))
    ]

pub two_of_other : (n : Network) → IsLawful n → (r : ℕ) → r < length n.routers → length (numbers_of n r) ≢ 1 → HasTwoInterfaces n r
two_of_other n laws r known other =
    let (i, l, c, has) = laws.one_interface r known in
    let two = two_of n r (omega (arith, some_of n r i l c has)) in
    let (l1, c1, one) = interface_at n r 0 two.first two.is_first in
    let (l2, c2, next) = interface_at n r 1 two.second two.is_second in
    (two.first, two.second, l1, l2, c1, c2, one, next, λ e. omega (arith, two.below, e))

pub other_of_two : (n : Network) (r : ℕ) → HasTwoInterfaces n r → length (numbers_of n r) ≡ 1 → ⊥
other_of_two n r (i, j, l, k, c, d, one, other, apart) h =
    let (a, at) = at_contains (numbers_of n r) i (of_router_finds n r i l c one) in
    let (b, there) = at_contains (numbers_of n r) j (of_router_finds n r j k d other) in
    grind (arith, slice_get_within (numbers_of n r) a i at, slice_get_within (numbers_of n r) b j there)
