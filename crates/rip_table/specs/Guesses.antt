-- Where a guess at a key's number is kept.
use Rattle.std.specs.Prelude.{ℕ, ◌+◌, ◌*◌, ◌/◌, ◌%◌, ◌^◌, List, slice_index}
use Rattle.rip_wire.specs.Prefix.{Block}
use Rattle.rip_table.specs.declared.guesses.TheConstants.{MULTIPLIER}

-- the slot of a key: the top 12 bits of a product in 32
abbrev pub slot : ℕ → ℕ
slot key = key * MULTIPLIER % 2 ^ 32 / 2 ^ 20

-- the number in the slot of a key
abbrev pub kept_number : List ℕ → ℕ → ℕ
kept_number slots key = slice_index slots (slot key)

-- the key of a prefix; those of one network differ by their length
abbrev pub key : Block → ℕ
key p = (p.network + p.prefix_len) % 2 ^ 32
