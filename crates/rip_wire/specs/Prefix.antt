-- Prefixes: networks with the number of their fixed bits.
use Rattle.std.specs.Prelude.{◌≡◌, ℕ, zero, suc, ◌-◌, ◌/◌, ◌%◌, ◌^◌, ◌<◌, ◌≤◌, ◌==◌, ◌&&◌, if◌then◌else◌, List, ◌++◌, Option, Some, None, option_and_then, bytes_eq, codes, decimal}
use Rattle.std.specs.List.{before_first}
use Rattle.rip_wire.specs.Address.{address_text, address_in}

-- the addresses whose first `prefix_len` bits are those of `network`
pub record Block : Type 0 where
  pub network : ℕ
  pub prefix_len : ℕ

abbrev pub block : ℕ → ℕ → Block
block network prefix_len = record { network = network; prefix_len = prefix_len }

-- how many addresses have the same first bits
abbrev pub size_of : ℕ → ℕ
size_of prefix_len = 2 ^ (32 - prefix_len)

-- at most 32 bits are fixed, and no other bit of the network is set
abbrev pub IsBlock : Block → Type 0
IsBlock p = (p.prefix_len ≤ 32) × (p.network < 2 ^ 32) × (p.network % size_of p.prefix_len ≡ 0)

-- the mask with so many ones from the top, and zeros after them
abbrev pub mask_of : ℕ → ℕ
mask_of prefix_len = 2 ^ 32 - size_of prefix_len

-- the first bits of the address are those of the network
abbrev pub ContainsAddress : Block → ℕ → Type 0
ContainsAddress p address = address / size_of p.prefix_len ≡ p.network / size_of p.prefix_len

-- a mask is one of these 33
abbrev pub IsMask : ℕ → Type 0
IsMask mask = (prefix_len : ℕ) × (prefix_len ≤ 32) × (mask ≡ mask_of prefix_len)

-- the network, a slash and the number of fixed bits
abbrev pub prefix_text : Block → List ℕ
prefix_text p = address_text p.network ++ (codes "/" ++ decimal p.prefix_len)

-- the prefix of this network with fewer than n fixed bits that has this text
unfoldable pub prefix_below : ℕ → ℕ → List ℕ → Option Block
prefix_below zero network text = None
prefix_below (suc n) network text =
    if (network % size_of n == 0) && bytes_eq (prefix_text (block network n)) text
    then Some (block network n) else prefix_below n network text

-- the prefix that has this text: the network is the address before the slash
unfoldable pub prefix_in : List ℕ → Option Block
prefix_in text =
    option_and_then (λ network. prefix_below 33 network text)
    (address_in (before_first (λ c. c == 47) text))
