-- What a frame carries.
use Rattle.std.specs.Prelude.{◌≡◌, ◌⊎◌, ◌≤◌, ◌+◌, ℕ, List, drop}
use Rattle.rip_capture.specs.Frames.{Holds}
use Rattle.rip_capture.specs.Packets.{IpCarries}
use Rattle.rip_log.specs.Spans.{IsWithin}
use Rattle.rip_capture.specs.declared.frame.Network.TheVariants.{Ip, Short, Other}
use Rattle.rip_capture.specs.declared.limits.TheConstants.{MOST_PAYLOAD}
use Rattle.rip_capture.specs.declared.link.LinkType.{LinkType}
use Rattle.rip_capture.specs.declared.packet.Carried.{Carried}
use Rattle.rip_capture.specs.declared.packet.Carried.TheVariants.{Datagram, Unknown, Others}

-- what a frame of a link type carries: what its IPv4 packet does; nothing that could be told, where
-- a header or a tag is not whole; or other things
abbrev pub Carries : LinkType → List ℕ → Carried → Type 0
Carries t frame carried =
    ((from : ℕ) × Holds t frame (Ip from) × IpCarries from (drop from frame) carried)
    ⊎ ((Holds t frame Short × (carried ≡ Unknown)) ⊎ (Holds t frame Other × (carried ≡ Others)))

-- a datagram lies within so many bytes, and has no more than a line of a log has room for
abbrev pub LiesWithin : ℕ → Carried → Type 0
LiesWithin size (Datagram sender span) =
    IsWithin size span × (span.to ≤ span.from + MOST_PAYLOAD)
LiesWithin size _ = Unit {0}
