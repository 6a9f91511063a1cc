use Rattle.std.proofs.Common.{◌≡◌, ◌+◌, ◌≤◌, List, Bool, Ok, drop}
use Rattle.std.specs.Vec.{vec_len, vec_capacity}
use Rattle.rip_table.specs.State.{State}
use Rattle.rip_table.specs.Joined.{joined_entries}
use Rattle.rip_table.specs.ListState.{list_state}
use Rattle.rip_table.proofs.list.add_all.Given as goal
use Rattle.rip_plan.specs.Network.{Network}

abbrev pub invariant-loop-j : goal.invariant-loop-j
invariant-loop-j l = record {
  joined : (heard : List Bool) (net : Network) (t : State) → joined_entries net l.interface (list_state heard l.fn.prefixes.items l.fn.shown.items) l.entries ≡ Ok t
      → joined_entries net l.interface (list_state heard l.prefixes.items l.shown.items) (drop l.j l.entries) ≡ Ok t;
  prefix_room : vec_capacity l.prefixes ≡ vec_capacity l.fn.prefixes;
  prefix_len : vec_len l.prefixes ≤ vec_len l.fn.prefixes + l.j;
  shown_room : vec_capacity l.shown ≡ vec_capacity l.fn.shown;
  shown_len : vec_len l.shown ≤ vec_len l.fn.shown + l.j;
}
