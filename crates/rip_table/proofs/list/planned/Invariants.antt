use Rattle.std.proofs.Common.{◌≡◌, ◌≤◌, length, take}
use Rattle.std.specs.Vec.{vec_len, vec_capacity}
use Rattle.rip_table.proofs.list.planned.Given as goal

abbrev pub invariant-loop-k : goal.invariant-loop-k
invariant-loop-k l = record {
  taken : l.prefixes.items ≡ take l.k l.plan.prefixes;
  len : vec_len l.prefixes ≡ l.k;
  room : length l.plan.prefixes ≤ vec_capacity l.prefixes;
}
