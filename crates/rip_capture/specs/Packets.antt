-- What an IPv4 packet carries, by the numbers of its headers (RFC 791, 768; RFC 2453, section 3.9
-- and 4.5).
use Rattle.std.specs.Prelude.{◌≡◌, ◌≢◌, ◌⊎◌, ◌<◌, ◌≤◌, ◌+◌, ◌*◌, ◌/◌, ◌%◌, ℕ, List, [], length, slice_index}
use Rattle.rip_wire.specs.Fields.{number_at}
use Rattle.rip_capture.specs.declared.packet.Carried.{Carried}
use Rattle.rip_capture.specs.declared.packet.Carried.TheVariants.{Datagram, Cut, Fragment, Malformed, Long, Unknown, Elsewhere, Others}
use Rattle.rip_capture.specs.declared.limits.TheConstants.{GROUP, PORT, UDP, IP_HEADER, UDP_HEADER, MOST_PAYLOAD}

-- the bytes of the IPv4 header, counted in fours in the low half of its first byte
abbrev pub header_len : List ℕ → ℕ
header_len b = 4 * (slice_index b 0 % 16)

-- the sender's address
abbrev pub source : List ℕ → ℕ
source b = number_at 4 12 b

-- the address that it goes to
abbrev pub destination : List ℕ → ℕ
destination b = number_at 4 16 b

-- all bytes of the packet, by its IPv4 header
abbrev pub total_len : List ℕ → ℕ
total_len b = number_at 2 2 b

-- where a fragment belongs, in eights of bytes
abbrev pub offset : List ℕ → ℕ
offset b = number_at 2 6 b % 8192

-- more fragments come
abbrev pub HasMore : List ℕ → Type 0
HasMore b = number_at 2 6 b / 8192 % 2 ≡ 1

-- the UDP port that it goes to
abbrev pub port : List ℕ → ℕ
port b = number_at 2 (header_len b + 2) b

-- the UDP port that it comes from
abbrev pub source_port : List ℕ → ℕ
source_port b = number_at 2 (header_len b) b

-- the bytes of UDP's header and data
abbrev pub udp_len : List ℕ → ℕ
udp_len b = number_at 2 (header_len b + 4) b

-- the first byte of an IPv4 packet
pub record IsIpv4 (b : List ℕ) : Type 0 where
  pub some : 0 < length b
  pub version : slice_index b 0 / 16 ≡ 4
  pub header : 5 ≤ slice_index b 0 % 16

-- UDP over IPv4
pub record IsUdp (b : List ℕ) : Type 0 where
  pub ipv4 : IsIpv4 b
  pub header : IP_HEADER ≤ length b
  pub protocol : slice_index b 9 ≡ UDP

-- UDP to the group
pub record IsToGroup (b : List ℕ) : Type 0 where
  pub udp : IsUdp b
  pub group : destination b ≡ GROUP

-- UDP to RIP's port in the group, or the first fragment of it: the UDP header is there
pub record IsToRip (b : List ℕ) : Type 0 where
  pub to_group : IsToGroup b
  pub first : offset b ≡ 0
  pub header : header_len b + UDP_HEADER ≤ length b
  pub port : port b ≡ PORT

-- RIP: it comes from RIP's port too (RFC 2453, section 3.9.2)
pub record IsRip (b : List ℕ) : Type 0 where
  pub to_rip : IsToRip b
  pub from : source_port b ≡ PORT

-- the same in one packet
pub record IsWholeRip (b : List ℕ) : Type 0 where
  pub rip : IsRip b
  pub whole : ¬ HasMore b

-- the same, with lengths that fit
pub record IsGoodRip (b : List ℕ) : Type 0 where
  pub whole : IsWholeRip b
  pub header : UDP_HEADER ≤ udp_len b
  pub within : header_len b + udp_len b ≤ total_len b

-- the same, captured whole
pub record IsCaptured (b : List ℕ) : Type 0 where
  pub good : IsGoodRip b
  pub captured : header_len b + udp_len b ≤ length b

-- what it carries, where it begins at this place of its frame
abbrev pub IpCarries : ℕ → List ℕ → Carried → Type 0
IpCarries place b (Datagram sender span) =
    (sender ≡ source b) × IsCaptured b × (udp_len b ≤ UDP_HEADER + MOST_PAYLOAD)
    × (span.from ≡ place + header_len b + UDP_HEADER) × (span.to ≡ place + header_len b + udp_len b)
IpCarries place b (Long sender) =
    (sender ≡ source b) × IsCaptured b × (UDP_HEADER + MOST_PAYLOAD < udp_len b)
IpCarries place b (Cut sender) =
    (sender ≡ source b)
    × ((IsToGroup b × (offset b ≡ 0) × (length b < header_len b + UDP_HEADER))
    ⊎ (IsGoodRip b × (length b < header_len b + udp_len b)))
IpCarries place b (Malformed sender) =
    (sender ≡ source b) × IsWholeRip b
    × ((udp_len b < UDP_HEADER) ⊎ (total_len b < header_len b + udp_len b))
IpCarries place b (Fragment sender) =
    (sender ≡ source b) × ((IsToGroup b × (0 < offset b)) ⊎ (IsRip b × HasMore b))
IpCarries place b Unknown = (b ≡ []) ⊎ (IsIpv4 b × (length b < IP_HEADER))
IpCarries place b Elsewhere =
    (IsUdp b × (destination b ≢ GROUP) × (offset b ≡ 0)
    × (header_len b + 4 ≤ length b) × (port b ≡ PORT))
    ⊎ (IsToRip b × (source_port b ≢ PORT))
IpCarries place b Others =
    ((0 < length b) × ((slice_index b 0 / 16 ≢ 4) ⊎ (slice_index b 0 % 16 < 5)))
    ⊎ ((IsIpv4 b × (IP_HEADER ≤ length b) × (slice_index b 9 ≢ UDP))
    ⊎ ((IsUdp b × (destination b ≢ GROUP)
    × ((0 < offset b) ⊎ ((length b < header_len b + 4) ⊎ (port b ≢ PORT))))
    ⊎ (IsToGroup b × (offset b ≡ 0) × (header_len b + UDP_HEADER ≤ length b) × (port b ≢ PORT))))
