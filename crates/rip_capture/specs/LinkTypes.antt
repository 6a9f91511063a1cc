-- The numbers of link types (tcpdump.org/linktypes.html).
use Rattle.std.specs.Prelude.{◌≢◌, ℕ}
use Rattle.rip_capture.specs.declared.link.LinkType.{LinkType}
use Rattle.rip_capture.specs.declared.link.LinkType.TheVariants.{Null, Ethernet, Raw, Loop, LinuxSll, Ipv4, LinuxSll2}

-- the number of a link type that is read
abbrev pub number_of : LinkType → ℕ
number_of Null = 0
number_of Ethernet = 1
number_of Raw = 101
number_of Loop = 108
number_of LinuxSll = 113
number_of Ipv4 = 228
number_of LinuxSll2 = 276

-- no link type that is read has this number
abbrev pub IsNoType : ℕ → Type 0
IsNoType number = (t : LinkType) → number_of t ≢ number
