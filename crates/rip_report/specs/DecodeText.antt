-- What `decode` prints.
use Rattle.std.specs.Prelude.{◌≡◌, ℕ, ◌-◌, ◌/◌, List, ◌++◌, length, codes, decimal, Ok}
use Rattle.std.specs.List.{flat_map}
use Rattle.hex.specs.Hex.{decode_of}
use Rattle.rip_wire.specs.Address.{address_text}
use Rattle.rip_wire.specs.Prefix.{prefix_text}
use Rattle.rip_wire.specs.Grammar.{ResponseBytes, RequestBytes}
use Rattle.rip_wire.specs.Faults.{WireFault}
use Rattle.rip_wire.specs.Message.{Message, request, response}
use Rattle.rip_wire.specs.declared.entry.Entry.{Entry}
use Rattle.rip_wire.specs.declared.error.WireCode.{WireCode}
use Rattle.rip_wire.specs.declared.error.WireCode.TheVariants.{Short, Command, Version, Zero, Ragged, Empty, TooMany, Authentication, Family, Mask, NoMask, HostBits, Metric}
use Rattle.rip_report.specs.Written.{Written, line}
use Rattle.rip_report.specs.declared.status.Status.TheVariants.{Done, Refused}

-- the number and the word of a code
abbrev pub wire_code_text : WireCode → List ℕ
wire_code_text Short = codes "1 Short"
wire_code_text Command = codes "2 Command"
wire_code_text Version = codes "3 Version"
wire_code_text Zero = codes "4 Zero"
wire_code_text Ragged = codes "5 Ragged"
wire_code_text Empty = codes "6 Empty"
wire_code_text TooMany = codes "7 TooMany"
wire_code_text Authentication = codes "8 Authentication"
wire_code_text Family = codes "9 Family"
wire_code_text Mask = codes "10 Mask"
wire_code_text NoMask = codes "11 NoMask"
wire_code_text HostBits = codes "12 HostBits"
wire_code_text Metric = codes "13 Metric"

-- the line of an entry, as `10.3.0.0/16 tag 0 next 0.0.0.0 metric 1`
unfoldable pub entry_line : Entry → List ℕ
entry_line e =
    line (prefix_text e.prefix ++ codes " tag " ++ decimal e.tag ++ codes " next "
    ++ address_text e.next_hop ++ codes " metric " ++ decimal e.metric)

-- one line for each entry
abbrev pub entry_lines : List Entry → List ℕ
entry_lines es = flat_map entry_line es

abbrev pub refused_hex : Written
refused_hex = record { text = line (codes "refused: hex"); status = Refused }

-- a fault of a datagram, as `10 Mask at 12`
abbrev pub wire_fault_text : WireCode → ℕ → List ℕ
wire_fault_text code at = wire_code_text code ++ codes " at " ++ decimal at

abbrev pub refused_wire : WireCode → ℕ → Written
refused_wire code at =
    record { text = line (codes "refused: wire " ++ wire_fault_text code at); status = Refused }

-- a request, with the number of twenties after its header
abbrev pub shown_request : List ℕ → Written
shown_request b =
    record { text = line (codes "request " ++ decimal ((length b - 4) / 20)); status = Done }

-- a response, with the number of its entries, and their lines
abbrev pub shown_response : List Entry → Written
shown_response es = record {
  text = line (codes "response " ++ decimal (length es)) ++ entry_lines es;
  status = Done;
}

-- what is written for the bytes of a datagram and what they say
abbrev pub shown : List ℕ → Message → Written
shown b request = shown_request b
shown b (response es) = shown_response es

-- what is written for a word: it spells no bytes in hexadecimal digits, or bytes that are no
-- datagram, or a request, or a response
pub data DecodeText (word : List ℕ) : Written → Type 0 where
  no_hex : ((b : List ℕ) → decode_of word ≡ Ok b → ⊥) → DecodeText word refused_hex
  no_datagram : (b : List ℕ) (code : WireCode) (at : ℕ) → decode_of word ≡ Ok b
      → WireFault b code at → DecodeText word (refused_wire code at)
  a_request : (b : List ℕ) → decode_of word ≡ Ok b → RequestBytes b
      → DecodeText word (shown_request b)
  a_response : (b : List ℕ) (es : List Entry) → decode_of word ≡ Ok b → ResponseBytes es b
      → DecodeText word (shown_response es)
