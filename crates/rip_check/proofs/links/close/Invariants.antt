use Rattle.std.proofs.Common.{◌≡◌, ℕ, ◌<◌, ◌≤◌, Some, length, slice_get}
use Rattle.rip_plan.specs.Relations.{Exchanges}
use Rattle.rip_check.specs.declared.links.TwoLeast.{TwoLeast}
use Rattle.rip_check.proofs.links.close.Given as goal

-- the links before k are closed where they have to be, and the others are as they were
abbrev pub invariant-loop-k : goal.invariant-loop-k
invariant-loop-k l = record {
  size : length l.links ≡ length l.fn.links;
  kept : (j : ℕ) (two : TwoLeast) → slice_get l.links j ≡ Some two → Exchanges l.plan j l.prefix → slice_get l.fn.links j ≡ Some two;
  left : (j : ℕ) (two : TwoLeast) → l.k ≤ j → slice_get l.links j ≡ Some two → slice_get l.fn.links j ≡ Some two;
  shut : (j : ℕ) (two : TwoLeast) → j < l.k → slice_get l.links j ≡ Some two → (Exchanges l.plan j l.prefix → ⊥) → (two.by ≡ 255) × (two.least ≡ 16) × (two.next ≡ 16);
}
