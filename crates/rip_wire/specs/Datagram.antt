-- What a `Datagram` stands for.
use Rattle.std.specs.Prelude.{ℕ, List, [], drop, Result, Ok, Err}
use Rattle.rip_wire.specs.declared.datagram.Datagram.{Datagram}
use Rattle.rip_wire.specs.declared.datagram.Kind.{Kind}
use Rattle.rip_wire.specs.declared.datagram.Kind.TheVariants.{Request, Response}
use Rattle.rip_wire.specs.declared.entry.Entry.{Entry}
use Rattle.rip_wire.specs.declared.error.WireError.{WireError}
use Rattle.rip_wire.specs.declared.limits.TheConstants.{HEADER_LEN}
use Rattle.rip_wire.specs.Message.{Message, request, response, message_in}

-- the bytes of the datagram, its header with them
abbrev pub datagram_bytes : Datagram → List ℕ
datagram_bytes d = d.bytes.now

-- the bytes after the header
abbrev pub body_of : Datagram → List ℕ
body_of d = drop HEADER_LEN (datagram_bytes d)

abbrev pub message_or_request : Result Message WireError → Message
message_or_request (Ok message) = message
message_or_request (Err e) = request

-- what the datagram says; bytes that are read have a message
abbrev pub message_of : Datagram → Message
message_of d = message_or_request (message_in (datagram_bytes d))

abbrev pub kind_of : Message → Kind
kind_of request = Request
kind_of (response entries) = Response

-- the entries of a response; a request has none
abbrev pub entries_of : Message → List Entry
entries_of request = []
entries_of (response entries) = entries
