-- A response field by field, each by its place in the datagram (RFC 2453, sections 3.6 and 4).
use Rattle.std.specs.Prelude.{◌≡◌, ℕ, ◌+◌, ◌%◌, ◌≤◌, List, length, Some, slice_get, slice_index}
use Rattle.rip_wire.specs.Fields.{entry_offset, number_at}
use Rattle.rip_wire.specs.Prefix.{mask_of, size_of}
use Rattle.rip_wire.specs.declared.entry.Entry.{Entry}
use Rattle.rip_wire.specs.declared.limits.TheConstants.{MOST_ENTRIES}

-- the entry that begins at offset k: the numbers that stand in its fields, and what they may be
pub record IsEntryAt (b : List ℕ) (k : ℕ) (e : Entry) : Type 0 where
  pub family : number_at 2 k b ≡ 2
  pub tag : number_at 2 (k + 2) b ≡ e.tag
  pub address : number_at 4 (k + 4) b ≡ e.prefix.network
  pub mask : number_at 4 (k + 8) b ≡ mask_of e.prefix.prefix_len
  pub next_hop : number_at 4 (k + 12) b ≡ e.next_hop
  pub metric : number_at 4 (k + 16) b ≡ e.metric
  pub bits : e.prefix.prefix_len ≤ 32
  -- no bit is set that the mask does not cover, and an address with mask zero is zero
  pub covered : e.prefix.network % size_of e.prefix.prefix_len ≡ 0
  pub default : e.prefix.prefix_len ≡ 0 → e.prefix.network ≡ 0
  pub reachable : 1 ≤ e.metric
  pub infinity : e.metric ≤ 16

-- the bytes are a response with these entries: command 2, version 2, two zero bytes, and then the
-- 1 to 25 entries and nothing else
pub record IsResponseOf (entries : List Entry) (b : List ℕ) : Type 0 where
  pub some : 1 ≤ length entries
  pub few : length entries ≤ MOST_ENTRIES
  pub command : slice_index b 0 ≡ 2
  pub version : slice_index b 1 ≡ 2
  pub zeros : (slice_index b 2 ≡ 0) × (slice_index b 3 ≡ 0)
  pub size : length b ≡ entry_offset (length entries)
  pub each : (i : ℕ) (e : Entry)
      → slice_get entries i ≡ Some e → IsEntryAt b (entry_offset i) e
