-- The networks of the prefixes of a list.
use Rattle.std.specs.Prelude.{ℕ, List, slice_get, unwrap_or}
use Rattle.rip_wire.specs.Prefix.{Block, block}
use Rattle.rip_plan.specs.Network.{Network}
use Rattle.rip_plan.specs.PrefixNetworks.{network_for}

-- the prefix of this number in a list; past its end it does not matter which
abbrev pub block_at : List Block → ℕ → Block
block_at prefixes p = unwrap_or (slice_get prefixes p) (block 0 0)

-- the network of that prefix: without the links that do not exchange it
abbrev pub network_at : Network → List Block → ℕ → Network
network_at n prefixes p = network_for n (block_at prefixes p)
