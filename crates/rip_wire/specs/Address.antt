-- The text of an IPv4 address.
use Rattle.std.specs.Prelude.{ℕ, zero, suc, ◌/◌, ◌%◌, ◌^◌, if◌then◌else◌, List, ◌++◌, Option, Some, None, bytes_eq, codes, decimal}

-- four decimal numbers with dots between them, the highest byte first
abbrev pub address_text : ℕ → List ℕ
address_text a =
    decimal (a / 2 ^ 24)
    ++ (codes "." ++ (decimal (a / 2 ^ 16 % 256)
    ++ (codes "." ++ (decimal (a / 2 ^ 8 % 256)
    ++ (codes "." ++ decimal (a % 256))))))

-- the address below n that has this text
unfoldable pub address_below : ℕ → List ℕ → Option ℕ
address_below zero text = None
address_below (suc n) text = if bytes_eq (address_text n) text then Some n else address_below n text

-- the address that has this text
unfoldable pub address_in : List ℕ → Option ℕ
address_in text = address_below (2 ^ 32) text
