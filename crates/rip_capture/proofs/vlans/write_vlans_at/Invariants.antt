use Rattle.std.proofs.Common.{◌≡◌, ◌≤◌, ◌+◌, ◌*◌, ◌-◌, ◌++◌, List, ℕ, length, take}
use Rattle.rip_capture.specs.Vlans.{HasVlansAt}
use Rattle.rip_capture.proofs.vlans.write_vlans_at.Given as goal

abbrev pub invariant-tags : goal.invariant-tags
invariant-tags l = record {
  seen : (others : List ℕ) → HasVlansAt l.frame l.at l.from others → HasVlansAt l.frame l.place l.header (take l.count l.vlans ++ others);
  few : 4 * l.count ≤ l.from;
  len : length l.vlans ≡ length l.fn.vlans;
  behind : l.at + 2 ≤ l.from;
  within : l.from ≤ length l.frame;
}

abbrev pub decreases-tags : goal.decreases-tags
decreases-tags l = length l.frame - l.from
