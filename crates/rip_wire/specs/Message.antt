-- What a datagram says, read from left to right: its message, or its first fault (RFC 2453,
-- sections 3.6 and 4).
use Rattle.std.specs.Prelude.{ℕ, zero, suc, ◌+◌, ◌-◌, ◌/◌, ◌%◌, ◌==◌, nat_lt, if◌then◌else◌, ◌||◌, ◌&&◌, not, List, [], ◌∷◌, length, slice_index, Option, Some, None, Result, Ok, Err}
use Rattle.std.specs.List.{find}
use Rattle.rip_wire.specs.declared.entry.Entry.{Entry}
use Rattle.rip_wire.specs.declared.error.WireError.{WireError}
use Rattle.rip_wire.specs.declared.error.WireCode.{WireCode}
use Rattle.rip_wire.specs.declared.error.WireCode.TheVariants.{Short, Command, Version, Zero, Ragged, Empty, TooMany, Authentication, Family, Mask, NoMask, HostBits, Metric}
use Rattle.rip_wire.specs.declared.datagram.Kind.{Kind}
use Rattle.rip_wire.specs.declared.datagram.Kind.TheVariants.{Request, Response}
use Rattle.rip_wire.specs.declared.limits.TheConstants.{HEADER_LEN, ENTRY_LEN, MOST_BYTES}
use Rattle.rip_wire.specs.Prefix.{Block, block, size_of, mask_of}
use Rattle.rip_wire.specs.Fields.{number_at}

-- a request, whose body is not judged, or a response with its entries
pub data Message : Type 0 where
  request : Message
  response : List Entry → Message

-- a fault, where something was to be read
abbrev pub fault : {X : Type 0} → WireCode → ℕ → Result X WireError
fault code at = Err (record { code = code; at = at })

infixl 10 ◌>>=◌
abbrev pub ◌>>=◌ : {X Y : Type 0} →
    Result X WireError → (X → Result Y WireError) → Result Y WireError
(Ok x) >>= f = f x
(Err e) >>= f = Err e

-- every number of fixed bits
unfoldable pub prefix_lens : List ℕ
prefix_lens =
    0 ∷ 1 ∷ 2 ∷ 3 ∷ 4 ∷ 5 ∷ 6 ∷ 7 ∷ 8 ∷ 9 ∷ 10 ∷ 11 ∷ 12 ∷ 13 ∷ 14 ∷ 15
    ∷ 16 ∷ 17 ∷ 18 ∷ 19 ∷ 20 ∷ 21 ∷ 22 ∷ 23 ∷ 24 ∷ 25 ∷ 26 ∷ 27 ∷ 28 ∷ 29 ∷ 30 ∷ 31
    ∷ 32 ∷ []

-- how many bits a mask fixes, where it is a mask
unfoldable pub bits_of_mask : ℕ → Option ℕ
bits_of_mask mask = find (λ prefix_len. mask == mask_of prefix_len) prefix_lens

-- the prefix of an address and so many fixed bits, in the entry at k
abbrev pub prefix_of : ℕ → ℕ → Option ℕ → Result Block WireError
prefix_of k address None = fault Mask (k + 8)
prefix_of k address (Some prefix_len) =
    if (prefix_len == 0) && not (address == 0) then fault NoMask (k + 8) else
    (if not (address % size_of prefix_len == 0) then fault HostBits (k + 4) else
    Ok (block address prefix_len))

-- the metric of the entry at k
abbrev pub metric_of : ℕ → ℕ → Result ℕ WireError
metric_of k metric = if (metric == 0) || nat_lt 16 metric then fault Metric (k + 16) else Ok metric

-- the entry at k
unfoldable pub entry_at : ℕ → List ℕ → Result Entry WireError
entry_at k b =
    if number_at 2 k b == 0xFFFF then fault Authentication k else
    (if not (number_at 2 k b == 2) then fault Family k else
    (prefix_of k (number_at 4 (k + 4) b) (bits_of_mask (number_at 4 (k + 8) b)) >>= λ prefix.
    metric_of k (number_at 4 (k + 16) b) >>= λ metric.
    Ok (record {
      tag = number_at 2 (k + 2) b;
      prefix = prefix;
      next_hop = number_at 4 (k + 12) b;
      metric = metric;
    })))

-- n entries from k on
unfoldable pub entries_at : ℕ → ℕ → List ℕ → Result (List Entry) WireError
entries_at zero k b = Ok []
entries_at (suc n) k b = entry_at k b >>= λ e. entries_at n (k + ENTRY_LEN) b >>= λ es. Ok (e ∷ es)

-- the kind of a datagram, by its header and its length
unfoldable pub kind_in : List ℕ → Result Kind WireError
kind_in b =
    if nat_lt (length b) HEADER_LEN then fault Short (length b) else
    (if not ((slice_index b 0 == 1) || (slice_index b 0 == 2)) then fault Command 0 else
    (if not (slice_index b 1 == 2) then fault Version 1 else
    (if not ((slice_index b 2 == 0) && (slice_index b 3 == 0)) then fault Zero 2 else
    (if nat_lt MOST_BYTES (length b) then fault TooMany MOST_BYTES else
    (if not ((length b - HEADER_LEN) % ENTRY_LEN == 0) then fault Ragged (length b) else
    (if slice_index b 0 == 1 then Ok Request else
    (if length b == HEADER_LEN then fault Empty HEADER_LEN else Ok Response)))))))

-- how many times the bytes of an entry stand after the header
abbrev pub groups_in : List ℕ → ℕ
groups_in b = (length b - HEADER_LEN) / ENTRY_LEN

abbrev pub message_of_kind : List ℕ → Kind → Result Message WireError
message_of_kind b Request = Ok request
message_of_kind b Response = entries_at (groups_in b) HEADER_LEN b >>= λ es. Ok (response es)

-- the message of a datagram
unfoldable pub message_in : List ℕ → Result Message WireError
message_in b = kind_in b >>= message_of_kind b
