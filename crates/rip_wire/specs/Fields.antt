-- The fields of a datagram (RFC 2453, section 4): numbers of two and four bytes, the highest byte
-- first.
use Rattle.std.specs.Prelude.{ℕ, ◌+◌, ◌*◌, List, drop}
use Rattle.byteorder.specs.Endian.{big_number, big_bytes}
use Rattle.rip_wire.specs.declared.limits.TheConstants.{HEADER_LEN, ENTRY_LEN}

-- the number in the n bytes from offset k on
unfoldable pub number_at : ℕ → ℕ → List ℕ → ℕ
number_at n k b = big_number n (drop k b)

-- the n bytes of a number
unfoldable pub bytes_of_number : ℕ → ℕ → List ℕ
bytes_of_number n x = big_bytes n x

-- where an entry begins
abbrev pub entry_offset : ℕ → ℕ
entry_offset i = HEADER_LEN + ENTRY_LEN * i
