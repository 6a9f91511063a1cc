-- What is true of the bytes of each datagram that was read.
use Rattle.std.specs.Prelude.{◌≡◌, ◌≤◌, true, List, ℕ, length, is_ok}
use Rattle.rip_wire.specs.Message.{message_in}
use Rattle.rip_wire.specs.declared.limits.TheConstants.{HEADER_LEN, MOST_BYTES}

pub record IsWhole (b : List ℕ) : Type 0 where
  pub readable : is_ok (message_in b) ≡ true
  pub header : HEADER_LEN ≤ length b
  pub few : length b ≤ MOST_BYTES
