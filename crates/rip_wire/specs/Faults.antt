-- What is wrong with a datagram, and which fault is told. RFC 2453: the header, the zero bytes and
-- the most entries are in section 3.6, the fields of an entry and its metrics in section 4, the
-- family 0xFFFF of authentication in section 4.1.
use Rattle.std.specs.Prelude.{◌≡◌, ◌≢◌, ◌⊎◌, ℕ, ◌+◌, ◌-◌, ◌*◌, ◌/◌, ◌%◌, ◌<◌, ◌≤◌, List, length, slice_index}
use Rattle.rip_wire.specs.Prefix.{size_of, mask_of, IsMask}
use Rattle.rip_wire.specs.Fields.{number_at, entry_offset}
use Rattle.rip_wire.specs.declared.limits.TheConstants.{HEADER_LEN, ENTRY_LEN, MOST_BYTES}
use Rattle.rip_wire.specs.declared.error.WireCode.{WireCode}
use Rattle.rip_wire.specs.declared.error.WireCode.TheVariants.{Short, Command, Version, Zero, Ragged, Empty, TooMany, Authentication, Family, Mask, NoMask, HostBits, Metric}

-- a response has an entry whose field, so many bytes into it, stands at this offset
pub record IsFieldAt (b : List ℕ) (into at : ℕ) : Type 0 where
  pub response : slice_index b 0 ≡ 2
  pub entry : ℕ
  pub within : entry < (length b - HEADER_LEN) / ENTRY_LEN
  pub offset : at ≡ entry_offset entry + into

-- a bit of the address is set that the mask does not cover
pub record HasHostBits (address mask : ℕ) : Type 0 where
  pub prefix_len : ℕ
  pub few : prefix_len ≤ 32
  pub covers : mask ≡ mask_of prefix_len
  pub bits : address % size_of prefix_len ≢ 0

-- what each code says of the bytes, and of the offset that is told with it
abbrev pub IsFault : List ℕ → WireCode → ℕ → Type 0
IsFault b Short at = (length b < HEADER_LEN) × (at ≡ length b)
IsFault b Command at = (slice_index b 0 ≢ 1) × (slice_index b 0 ≢ 2) × (at ≡ 0)
IsFault b Version at = (slice_index b 1 ≢ 2) × (at ≡ 1)
IsFault b Zero at = ((slice_index b 2 ≢ 0) ⊎ (slice_index b 3 ≢ 0)) × (at ≡ 2)
IsFault b Ragged at = ((length b - HEADER_LEN) % ENTRY_LEN ≢ 0) × (at ≡ length b)
IsFault b Empty at = (slice_index b 0 ≡ 2) × (length b ≡ HEADER_LEN) × (at ≡ HEADER_LEN)
IsFault b TooMany at = (MOST_BYTES < length b) × (at ≡ MOST_BYTES)
IsFault b Authentication at = IsFieldAt b 0 at × (number_at 2 at b ≡ 0xFFFF)
IsFault b Family at = IsFieldAt b 0 at × (number_at 2 at b ≢ 2)
IsFault b Mask at = IsFieldAt b 8 at × (IsMask (number_at 4 at b) → ⊥)
IsFault b NoMask at =
    IsFieldAt b 8 at × (number_at 4 at b ≡ 0) × (number_at 4 (at - 4) b ≢ 0)
IsFault b HostBits at =
    IsFieldAt b 4 at × HasHostBits (number_at 4 at b) (number_at 4 (at + 4) b)
IsFault b Metric at =
    IsFieldAt b 16 at × ((number_at 4 at b < 1) ⊎ (16 < number_at 4 at b))

-- the rank of the fault of an entry: the entries one after the other, in each the codes in order
abbrev pub entry_rank : ℕ → ℕ → ℕ
entry_rank at k = 7 + (6 * ((at - HEADER_LEN) / ENTRY_LEN) + k)

-- the order in which faults are told: the header, the length, and then the entries
abbrev pub rank : WireCode → ℕ → ℕ
rank Short at = 0
rank Command at = 1
rank Version at = 2
rank Zero at = 3
rank TooMany at = 4
rank Ragged at = 5
rank Empty at = 6
rank Authentication at = entry_rank at 0
rank Family at = entry_rank at 1
rank Mask at = entry_rank at 2
rank NoMask at = entry_rank at 3
rank HostBits at = entry_rank at 4
rank Metric at = entry_rank at 5

-- a fault of the bytes, such that any other comes after it
pub record WireFault (b : List ℕ) (code : WireCode) (at : ℕ) : Type 0 where
  pub fault : IsFault b code at
  pub first : (other : WireCode) (there : ℕ) → IsFault b other there →
      ((other ≡ code) × (there ≡ at)) ⊎ (rank code at < rank other there)
