-- The texts of addresses and prefixes are ASCII.
use Rattle.std.proofs.Common.{ℕ, ◌/◌, ◌%◌, ◌^◌, ◌<◌, List, [], ◌++◌, Result, Ok, Err, IsOk, decimal, codes, refl, arith}
use Rattle.std.specs.Str.{IsAscii}
use Rattle.std.specs.Prelude.{MatchResult}
use Rattle.std.proofs.lemmas.Fmt.{IsAscii-decimal}
use Rattle.std.proofs.lemmas.Str.{IsAscii-append}
use Rattle.std.proofs.lemmas.Str.Ascii.{IsAscii-cons, IsAscii-nil}
use Rattle.rip_wire.specs.Address.{address_text}
use Rattle.rip_wire.specs.Prefix.{Block, prefix_text}

-- what has no error is a value
pub ok_unless : {X E : Type 0} (P : X → Type 0) (Q : E → Type 0) (r : Result X E) → MatchResult r P Q → ((e : E) → Q e → ⊥) → IsOk r
ok_unless P Q (Ok x) h never = refl
ok_unless P Q (Err e) h never = absurd (never e h)

IsAscii-dot : IsAscii (codes ".")
IsAscii-dot = IsAscii-cons 46 [] (omega arith) IsAscii-nil

IsAscii-slash : IsAscii (codes "/")
IsAscii-slash = IsAscii-cons 47 [] (omega arith) IsAscii-nil

-- a number, a dot and more
IsAscii-dotted : (n : ℕ) (rest : List ℕ) → n < 2 ^ 64 → IsAscii rest → IsAscii (decimal n ++ (codes "." ++ rest))
IsAscii-dotted n rest small h = IsAscii-append (decimal n) (codes "." ++ rest) (IsAscii-decimal n small) (IsAscii-append (codes ".") rest IsAscii-dot h)

pub IsAscii-address_text : (a : ℕ) → a < 2 ^ 32 → IsAscii (address_text a)
IsAscii-address_text a small =
    let last = decimal (a % 256) in
    let third = decimal (a / 2 ^ 8 % 256) ++ (codes "." ++ last) in
    let second = decimal (a / 2 ^ 16 % 256) ++ (codes "." ++ third) in
    IsAscii-dotted (a / 2 ^ 24) second (omega arith)
    (IsAscii-dotted (a / 2 ^ 16 % 256) third (omega arith) (IsAscii-dotted (a / 2 ^ 8 % 256) last (omega arith) (IsAscii-decimal (a % 256) (omega arith))))

pub IsAscii-prefix_text : (p : Block) → p.network < 2 ^ 32 → p.prefix_len < 2 ^ 8 → IsAscii (prefix_text p)
IsAscii-prefix_text p small short =
    IsAscii-append (address_text p.network) (codes "/" ++ decimal p.prefix_len) (IsAscii-address_text p.network small)
    (IsAscii-append (codes "/") (decimal p.prefix_len) IsAscii-slash (IsAscii-decimal p.prefix_len (omega arith)))
