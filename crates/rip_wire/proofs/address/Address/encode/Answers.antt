use Rattle.std.proofs.Common.{arith}
use Rattle.std.proofs.lemmas.Str.{IsUtf8-from_ascii}
use Rattle.rip_wire.proofs.TextLemmas.{ok_unless, IsAscii-address_text}
use Rattle.rip_wire.proofs.address.Address.encode.Goals as goal

pub unwrap-requires : goal.unwrap-requires
unwrap-requires c =
    ok_unless _ _ c.from_utf8.result c.from_utf8.ensures.cases (λ e never. never.0 (rw c.put_address-end.ensures.text (IsUtf8-from_ascii _ (IsAscii-address_text c.self.inside.number (omega arith)))))
