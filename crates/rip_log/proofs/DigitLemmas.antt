-- The faults of hex digits.
use Rattle.std.proofs.Common.{◌≡◌, ◌%◌, ◌<◌, ℕ, ◌==◌, Bool, true, false, List, [], ◌∷◌, length, get_or, Option, Some, None, Result, Ok, Err, refl, sym, ap, ◌∙◌, arith}
use Rattle.std.proofs.lemmas.Bool.{eqb-true, false≢true}
use Rattle.std.specs.List.{AllPass}
use Rattle.hex.specs.Hex.{decode_of, is_hex_digit}
use Rattle.hex.specs.declared.error.FromHexError.{FromHexError}
use Rattle.hex.proofs.HexLemmas.{decode_of-odd, decode_of-ok, decode_of-digits}
use Rattle.rip_wire.specs.Address.{address_in}
use Rattle.rip_wire.specs.Name.{is_name}
use Rattle.rip_log.specs.Fields.{fields_of, is_blank}
use Rattle.rip_log.specs.Lines.{Capture, bytes_of, capture_in, sized, three_fields, with_sender}
use Rattle.rip_log.specs.declared.error.LogCode.TheVariants.{Hex, LongDatagram}
use Rattle.rip_log.proofs.FieldLemmas.{fields_of-one}

pub bytes_of-odd : (s : List ℕ) → length s % 2 ≡ 1 → bytes_of s ≡ Err Hex
bytes_of-odd s odd = ap sized (decode_of-odd s odd)

pub sized-long : (bytes : List ℕ) → 504 < length bytes → sized (Ok bytes) ≡ Err LongDatagram
sized-long bytes h = grind arith

pub bytes_of-long : (s : List ℕ) → length s % 2 ≡ 0 → AllPass is_hex_digit s → 1008 < length s → bytes_of s ≡ Err LongDatagram
bytes_of-long s even digits long =
    let found = decode_of-digits s even digits in
    ap sized found.1 ∙ sized-long found.0 (omega (arith, (decode_of-ok s found.0 found.1).2))

sized-bad : (s : List ℕ) (r : Result (List ℕ) FromHexError) → decode_of s ≡ r → (AllPass is_hex_digit s → ⊥) → sized r ≡ Err Hex
sized-bad s (Ok bytes) e bad = absurd (bad (decode_of-ok s bytes e).1)
sized-bad s (Err x) e bad = refl

pub bytes_of-bad : (s : List ℕ) → (AllPass is_hex_digit s → ⊥) → bytes_of s ≡ Err Hex
bytes_of-bad s bad = sized-bad s (decode_of s) refl bad

no-blank : (b : ℕ) (x y : Bool) → (b == 32) ≡ x → (b == 9) ≡ y → is_hex_digit b ≡ true → is_blank b ≡ false
no-blank b true y e f h = absurd (false≢true (sym (ap is_hex_digit (eqb-true b 32 e)) ∙ h))
no-blank b false true e f h = absurd (false≢true (sym (ap is_hex_digit (eqb-true b 9 f)) ∙ h))
no-blank b false false e f h = rw (e, f) refl

-- digits are a field
digits-field : (s : List ℕ) → 0 < length s → AllPass is_hex_digit s → fields_of s ≡ s ∷ []
digits-field s some digits = fields_of-one s some (λ k low. no-blank (get_or s k 0) _ _ refl refl (digits k 0 low))

spelled : (link : List ℕ) (sender : ℕ) (s : List ℕ) (c : Option Capture) (r : Result (List ℕ) FromHexError) → decode_of s ≡ r → capture_in link sender (sized r) ≡ Ok c → AllPass is_hex_digit s
spelled link sender s c (Ok bytes) e h = (decode_of-ok s bytes e).1
spelled link sender s c (Err x) e h = absurd (cc h)

sent : (link : List ℕ) (sender : Option ℕ) (s : List ℕ) (c : Option Capture) → with_sender link sender s ≡ Ok c → AllPass is_hex_digit s
sent link None s c h = absurd (cc h)
sent link (Some sender) s c h = spelled link sender s c (decode_of s) refl h

named : (b : Bool) (link sender s : List ℕ) (c : Option Capture) → is_name link ≡ b → three_fields link sender s ≡ Ok c → AllPass is_hex_digit s
named true link sender s c e h = sent link (address_in sender) s c (rw e at h)
named false link sender s c e h = absurd (cc (rw e at h))

-- what ends a line that is good is one field
pub good-field : (link sender s : List ℕ) (c : Option Capture) → 0 < length s → three_fields link sender s ≡ Ok c → fields_of s ≡ s ∷ []
good-field link sender s c some h = digits-field s some (named (is_name link) link sender s c refl h)
