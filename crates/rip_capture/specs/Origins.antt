-- Where captured packets come from.
use Rattle.std.specs.Prelude.{◌≡◌, nat_le, if◌then◌else◌, ℕ, Bool, true, Decides, List, length, take, Option, Some, None}
use Rattle.rip_wire.specs.Fields.{number_at}
use Rattle.rip_capture.specs.Interfaces.{CameBy, kept_of}
use Rattle.rip_capture.specs.Pcap.{Frame}
use Rattle.rip_capture.specs.Vlans.{HasVlans}
use Rattle.rip_capture.specs.declared.link.LinkType.{LinkType}
use Rattle.rip_capture.specs.declared.link.LinkType.TheVariants.{LinuxSll2}
use Rattle.rip_capture.specs.declared.first.FirstOrigin.{FirstOrigin}

-- the interface of its file; where its header names one of several by its number, that number; and
-- the VLANs of its tags
pub record Origin : Type 0 where
  pub interface : CameBy
  pub number : Option ℕ
  pub vlans : List ℕ

-- the number of an interface in a header (LINKTYPE_LINUX_SLL2)
abbrev pub header_number : LinkType → List ℕ → Option ℕ
header_number LinuxSll2 frame = if nat_le 8 (length frame) then Some (number_at 4 4 frame) else None
header_number other frame = None

-- a packet comes from there
pub record IsOrigin (p : Frame) (o : Origin) : Type 0 where
  pub interface : o.interface ≡ p.interface
  pub number : o.number ≡ header_number p.link_type p.bytes
  pub vlans : HasVlans p.link_type p.bytes o.vlans

-- what is known of the origin of a file's packets
abbrev pub origin_in : FirstOrigin → Option Origin
origin_in first = if first.known then Some (record {
  interface = kept_of first.interface;
  number = first.number;
  vlans = take first.count first.vlans.items;
}) else None

-- a packet is asked of: the first one makes its origin known, a later one has it or not
abbrev pub Admits : Frame → Option Origin → Option Origin → Bool → Type 0
Admits p None new result = (result ≡ true) × ((o : Origin) × (new ≡ Some o) × IsOrigin p o)
Admits p (Some o) new result = (new ≡ Some o) × Decides result (IsOrigin p o)
