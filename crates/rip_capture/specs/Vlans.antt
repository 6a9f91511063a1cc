-- The VLANs of a frame's tags (IEEE 802.1Q).
use Rattle.std.specs.Prelude.{◌≡◌, ◌<◌, ◌≤◌, ◌+◌, ◌%◌, ◌==◌, if◌then◌else◌, nat_le, ℕ, true, false, List, [], ◌∷◌, length, Option, Some, None}
use Rattle.rip_wire.specs.Fields.{number_at}
use Rattle.rip_capture.specs.Frames.{header_of, is_tag}
use Rattle.rip_capture.specs.declared.frame.TheConstants.{TAG}
use Rattle.rip_capture.specs.declared.frame.LinkHeader.{LinkHeader}
use Rattle.rip_capture.specs.declared.frame.LinkHeader.TheVariants.{Typed, Loop, Nothing}
use Rattle.rip_capture.specs.declared.link.LinkType.{LinkType}

-- one VLAN more in front of others; the number 0 is that of none
abbrev pub with_vlan : ℕ → List ℕ → List ℕ
with_vlan vlan others = if vlan == 0 then others else vlan ∷ others

-- the VLANs of the tags of a frame, outermost first, where a type stands at one offset, and what it
-- names begins at the other: the number of a tag is the low twelve bits of its two bytes
pub data HasVlansAt (frame : List ℕ) : ℕ → ℕ → List ℕ → Type 0 where
  none : (at from : ℕ) (vlans : List ℕ) → is_tag (number_at 2 at frame) ≡ false → vlans ≡ [] →
      HasVlansAt frame at from vlans
  cut : (at from : ℕ) (vlans : List ℕ) → is_tag (number_at 2 at frame) ≡ true →
      length frame < from + TAG → vlans ≡ [] → HasVlansAt frame at from vlans
  tag : (at from : ℕ) (vlans others : List ℕ) → is_tag (number_at 2 at frame) ≡ true →
      from + TAG ≤ length frame → HasVlansAt frame (from + 2) (from + TAG) others →
      vlans ≡ with_vlan (number_at 2 from frame % 4096) others → HasVlansAt frame at from vlans

-- where the type of a frame stands, and what it names begins, where its header is there
abbrev pub type_place : LinkHeader → List ℕ → Option (ℕ × ℕ)
type_place (Typed place header) frame =
    if nat_le header (length frame) then Some (place, header) else None
type_place Loop frame = None
type_place Nothing frame = None

-- the same of what has a type, or not
abbrev pub HasVlansFrom : Option (ℕ × ℕ) → List ℕ → List ℕ → Type 0
HasVlansFrom None frame vlans = vlans ≡ []
HasVlansFrom (Some at) frame vlans = HasVlansAt frame at.0 at.1 vlans

-- the VLANs of a frame of a link type
abbrev pub HasVlans : LinkType → List ℕ → List ℕ → Type 0
HasVlans link_type frame vlans =
    HasVlansFrom (type_place (header_of link_type) frame) frame vlans
