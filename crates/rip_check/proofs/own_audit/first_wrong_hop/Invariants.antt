use Rattle.std.proofs.Common.{◌≡◌, ℕ, ◌<◌, Some, slice_get}
use Rattle.rip_routes.specs.declared.next_hop.NextHop.{NextHop}
use Rattle.rip_check.specs.Cases.{network_of, told_in}
use Rattle.rip_check.specs.OwnSettled.{IsHopGiven}
use Rattle.rip_check.proofs.own_audit.first_wrong_hop.Given as goal

abbrev pub invariant-loop-hop : goal.invariant-loop-hop
invariant-loop-hop g l =
    (j : ℕ) (h : NextHop) → j < l.hop-index → slice_get l.hops j ≡ Some h → IsHopGiven (network_of l.case) (told_in l.case) l.router l.case.prefix l.metric h
