-- The texts of a plan's addresses and prefixes: each is what is printed of one.
use Rattle.std.specs.Prelude.{◌≡◌, ℕ, ◌<◌, ◌^◌, List}
use Rattle.rip_wire.specs.Address.{address_text}
use Rattle.rip_wire.specs.Prefix.{Block, IsBlock, prefix_text}

-- the text of this address
abbrev pub IsAddressText : List ℕ → ℕ → Type 0
IsAddressText text a = (a < 2 ^ 32) × (text ≡ address_text a)

-- the text of this prefix
abbrev pub IsPrefixText : List ℕ → Block → Type 0
IsPrefixText text p = IsBlock p × (text ≡ prefix_text p)

-- the text is of no address
abbrev pub IsNoAddress : List ℕ → Type 0
IsNoAddress text = (a : ℕ) → ¬ IsAddressText text a

-- the text is of no prefix, or a host bit is set
abbrev pub IsNoPrefix : List ℕ → Type 0
IsNoPrefix text = (p : Block) → ¬ IsPrefixText text p
