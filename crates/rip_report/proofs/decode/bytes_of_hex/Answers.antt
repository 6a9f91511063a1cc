use Rattle.std.proofs.Common.{◌≡◌, true, take, subst, sym, ◌∙◌}
use Rattle.hex.proofs.HexLemmas.{decode_of-ok, decode_of-digits}
use Rattle.rip_report.proofs.HexLemmas.{IsFront, front, front-is}
use Rattle.rip_report.proofs.decode.bytes_of_hex.Goals as goal

pub returns-then-not-is_hex : goal.returns-then-not-is_hex
returns-then-not-is_hex c bytes h =
    let ok = decode_of-ok c.args.word.now bytes h in
    let hex : c.is_hex.result ≡ true = c.is_hex.ensures.1 (ok.0, ok.1) in
    cc (sym c.if-not-is_hex.true ∙ hex)

pub unreachable-requires : goal.unreachable-requires
unreachable-requires c =
    let hex = c.is_hex.ensures.0 c.if-not-is_hex.false in
    let b = decode_of-digits c.args.word.now hex.0 hex.1 in
    let n = c.min-count.result in
    let f : IsFront c.args.word.now b.0 n = subst (IsFront c.args.word.now b.0) (sym c.min-count.ensures) (front c.args.word.now b.0 b.1) in
    c.decode_digits.ensures.none c.if-decode_digits.false (take 505 b.0) f.spells

pub returns : goal.returns
returns c =
    let hex = c.is_hex.ensures.0 c.if-not-is_hex.false in
    let b = decode_of-digits c.args.word.now hex.0 hex.1 in
    let n = c.min-count.result in
    let f : IsFront c.args.word.now b.0 n = subst (IsFront c.args.word.now b.0) (sym c.min-count.ensures) (front c.args.word.now b.0 b.1) in
    (b.0, b.1, front-is c.args.word.now b.0 c.decode_digits.new.room n f (c.decode_digits.ensures.bytes c.if-decode_digits.true))
