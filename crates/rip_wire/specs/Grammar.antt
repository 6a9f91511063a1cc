-- Which bytes are a datagram of RIP version 2 (RFC 2453, sections 3.6 and 4).
use Rattle.std.specs.Prelude.{◌≡◌, ℕ, ◌*◌, ◌<◌, ◌≤◌, ◌^◌, List, [], ◌∷◌, ◌++◌, length}
use Rattle.std.specs.List.{AllByRecursion}
use Rattle.rip_wire.specs.Prefix.{mask_of, IsBlock}
use Rattle.rip_wire.specs.Fields.{bytes_of_number}
use Rattle.rip_wire.specs.declared.entry.Entry.{Entry}
use Rattle.rip_wire.specs.declared.limits.TheConstants.{ENTRY_LEN, MOST_ENTRIES}

-- an entry's numbers fit their fields, and its metric is 1 to 16
pub record IsEntry (e : Entry) : Type 0 where
  pub tag : e.tag < 2 ^ 16
  pub prefix : IsBlock e.prefix
  pub next_hop : e.next_hop < 2 ^ 32
  pub reachable : 1 ≤ e.metric
  pub infinity : e.metric ≤ 16

-- the twenty bytes of an entry: address family 2, route tag, address, subnet mask, next hop, metric
abbrev pub entry_bytes : Entry → List ℕ
entry_bytes e =
    bytes_of_number 2 2
    ++ (bytes_of_number 2 e.tag
    ++ (bytes_of_number 4 e.prefix.network
    ++ (bytes_of_number 4 (mask_of e.prefix.prefix_len)
    ++ (bytes_of_number 4 e.next_hop
    ++ bytes_of_number 4 e.metric))))

-- the bytes are the spelling of the entry
pub record EntryBytes (e : Entry) (b : List ℕ) : Type 0 where
  pub entry : IsEntry e
  pub bytes : b ≡ entry_bytes e

-- the spellings of entries, one after the other
unfoldable pub entries_bytes : List Entry → List ℕ
entries_bytes [] = []
entries_bytes (e ∷ es) = entry_bytes e ++ entries_bytes es

-- a response: command 2, version 2, two zero bytes, and the spellings of 1 to 25 entries
pub record ResponseBytes (es : List Entry) (b : List ℕ) : Type 0 where
  pub some : 1 ≤ length es
  pub few : length es ≤ MOST_ENTRIES
  pub entries : AllByRecursion IsEntry es
  pub bytes : b ≡ 2 ∷ 2 ∷ 0 ∷ 0 ∷ entries_bytes es

-- a request: command 1, version 2, two zero bytes, and 0 to 25 times any twenty bytes
pub record RequestBytes (b : List ℕ) : Type 0 where
  pub count : ℕ
  pub few : count ≤ MOST_ENTRIES
  pub body : List ℕ
  pub groups : length body ≡ ENTRY_LEN * count
  pub bytes : b ≡ 1 ∷ 2 ∷ 0 ∷ 0 ∷ body
