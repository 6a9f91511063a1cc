use Rattle.std.proofs.Common.{arith}
use Rattle.std.proofs.lemmas.Str.{IsUtf8-from_ascii}
use Rattle.rip_wire.proofs.TextLemmas.{ok_unless, IsAscii-prefix_text}
use Rattle.rip_wire.proofs.prefix.Prefix.encode.Goals as goal

pub unwrap-requires : goal.unwrap-requires
unwrap-requires c =
    let few = c.self.invariant.0 in
    ok_unless _ _ c.from_utf8.result c.from_utf8.ensures.cases (λ e never. never.0
    (rw (c.put_length-end.ensures.text, c.put_address-end.ensures.text, c.get.ensures) (IsUtf8-from_ascii _ (IsAscii-prefix_text _ c.self.invariant.1 (omega arith)))))
