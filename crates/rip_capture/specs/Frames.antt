-- What a frame holds behind its link's header (IEEE 802.3 and 802.1Q; tcpdump.org/linktypes.html).
use Rattle.std.specs.Prelude.{◌≡◌, ◌≢◌, ◌⊎◌, ◌<◌, ◌≤◌, ◌+◌, ◌==◌, ◌||◌, ℕ, Bool, true, false, List, length}
use Rattle.rip_wire.specs.Fields.{number_at}
use Rattle.rip_capture.specs.Numbers.{number_in}
use Rattle.rip_capture.specs.declared.frame.LinkHeader.{LinkHeader}
use Rattle.rip_capture.specs.declared.frame.LinkHeader.TheVariants as headers
use Rattle.rip_capture.specs.declared.frame.Network.{Network}
use Rattle.rip_capture.specs.declared.frame.Network.TheVariants.{Ip, Short, Other}
use Rattle.rip_capture.specs.declared.frame.TheConstants.{IPV4, LOOP_HEADER, LOOP_IPV4, TAG}
use Rattle.rip_capture.specs.declared.link.LinkType.{LinkType}
use Rattle.rip_capture.specs.declared.link.LinkType.TheVariants.{Null, Ethernet, Raw, Loop, LinuxSll, Ipv4, LinuxSll2}
use Rattle.rip_capture.specs.declared.numbers.Order.TheVariants.{Big, Little}

-- the type of a tag: that of 802.1Q, that of 802.1ad, or the older one of stacked tags
abbrev pub is_tag : ℕ → Bool
is_tag kind = (kind == 0x8100 || kind == 0x88A8) || kind == 0x9100

-- what a frame holds, where a type stands at one offset, and what it names begins at the other; a
-- tag is two bytes and the next type; where a tag is not whole, the frame is short
pub data Leads (frame : List ℕ) : ℕ → ℕ → Network → Type 0 where
  ipv4 : (at from : ℕ) (held : Network) → number_at 2 at frame ≡ IPV4 → held ≡ Ip from →
      Leads frame at from held
  other : (at from : ℕ) (held : Network) → is_tag (number_at 2 at frame) ≡ false →
      number_at 2 at frame ≢ IPV4 → held ≡ Other → Leads frame at from held
  cut : (at from : ℕ) (held : Network) → is_tag (number_at 2 at frame) ≡ true →
      length frame < from + TAG → held ≡ Short → Leads frame at from held
  tag : (at from : ℕ) (held : Network) → is_tag (number_at 2 at frame) ≡ true →
      from + TAG ≤ length frame → Leads frame (from + 2) (from + TAG) held →
      Leads frame at from held

-- what a frame holds whose header has so many bytes, and its type at a place
abbrev pub HoldsTyped : List ℕ → ℕ → ℕ → Network → Type 0
HoldsTyped frame place header held =
    ((length frame < header) × (held ≡ Short))
    ⊎ ((header ≤ length frame) × Leads frame place header held)

-- what a loopback's frame holds: a number in the order of the machine that captured, and a packet
abbrev pub HoldsLoop : List ℕ → Network → Type 0
HoldsLoop frame (Ip from) =
    (from ≡ LOOP_HEADER) × (LOOP_HEADER ≤ length frame)
    × ((number_in Big 0 frame ≡ LOOP_IPV4) ⊎ (number_in Little 0 frame ≡ LOOP_IPV4))
HoldsLoop frame Short = length frame < LOOP_HEADER
HoldsLoop frame Other =
    (LOOP_HEADER ≤ length frame)
    × (number_in Big 0 frame ≢ LOOP_IPV4) × (number_in Little 0 frame ≢ LOOP_IPV4)

-- what stands in front of the packet in frames of a link type: a type at an offset, where what it
-- names begins at the other one; the number of a loopback; or nothing
abbrev pub header_of : LinkType → LinkHeader
header_of Null = headers.Loop
header_of Ethernet = headers.Typed 12 14
header_of Raw = headers.Nothing
header_of Loop = headers.Loop
header_of LinuxSll = headers.Typed 14 16
header_of Ipv4 = headers.Nothing
header_of LinuxSll2 = headers.Typed 0 20

-- what a frame holds behind such a header
abbrev pub HoldsBehind : LinkHeader → List ℕ → Network → Type 0
HoldsBehind (headers.Typed place header) frame held = HoldsTyped frame place header held
HoldsBehind headers.Loop frame held = HoldsLoop frame held
HoldsBehind headers.Nothing frame held = held ≡ Ip 0

-- what a frame of a link type holds
abbrev pub Holds : LinkType → List ℕ → Network → Type 0
Holds link_type frame held = HoldsBehind (header_of link_type) frame held

-- a packet begins within so many bytes
abbrev pub BeginsWithin : ℕ → Network → Type 0
BeginsWithin size (Ip from) = from ≤ size
BeginsWithin size _ = Unit {0}
