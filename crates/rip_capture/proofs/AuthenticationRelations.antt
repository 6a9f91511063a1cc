-- The tests of an authentication are the authentication in the words of the standard.
use Rattle.std.proofs.Common.{◌≡◌, ◌⊎◌, ◌+◌, ◌-◌, ◌/◌, ◌%◌, ◌==◌, ◌&&◌, ◌||◌, ℕ, Bool, true, false, List, ◌++◌, length, take, nat_le, arith, inl, inr, refl}
use Rattle.std.proofs.lemmas.Bool.{and_from, and_parts, eq-eqb, eqb-true, le-leb, leb-true, or_cases, or_left, or_right}
use Rattle.rip_wire.specs.Fields.{number_at}
use Rattle.rip_capture.specs.Authentication.{AreEntries, HasKeyedDigest, HasTextPassword, IsAuthenticated, IsOfEntries, data_len, has_authentication, has_keyed_digest, has_text_password, has_trailer, is_of_entries, trailer_at, without_authentication}
use Rattle.rip_capture.specs.Authentication.AreEntries.{of_digest, of_password}
use Rattle.rip_capture.specs.Passwords.{HasPassword, has_password}
use Rattle.rip_log.specs.Spans.{slice_of}
use Rattle.rip_log.specs.declared.span.Span.{Span}

of-entries : (n : ℕ) → is_of_entries n ≡ true → IsOfEntries n
of-entries n h =
    let parts = and_parts (nat_le 24 n) ((n - 4) % 20 == 0) h in
    let most = leb-true 24 n parts.0 in
    let whole = eqb-true ((n - 4) % 20) 0 parts.1 in
    record { entries = (n - 4) / 20; some = omega (arith, most, whole); bytes = omega (arith, most, whole) }

entries-tested : (n : ℕ) → IsOfEntries n → is_of_entries n ≡ true
entries-tested n h =
    let some = h.some in
    let bytes = h.bytes in
    and_from (nat_le 24 n) ((n - 4) % 20 == 0) (le-leb 24 n (omega (arith, some, bytes))) (eq-eqb ((n - 4) % 20) 0 (omega (arith, bytes)))

password-of : (d : List ℕ) → has_password d ≡ true → HasPassword d
password-of d h =
    let a = and_parts (nat_le 8 (length d)) (number_at 2 4 d == 65535 && number_at 2 6 d == 2) h in
    let b = and_parts (number_at 2 4 d == 65535) (number_at 2 6 d == 2) a.1 in
    record { entry = leb-true 8 (length d) a.0; family = eqb-true (number_at 2 4 d) 65535 b.0; kind = eqb-true (number_at 2 6 d) 2 b.1 }

password-tested : (d : List ℕ) → HasPassword d → has_password d ≡ true
password-tested d h =
    and_from (nat_le 8 (length d)) (number_at 2 4 d == 65535 && number_at 2 6 d == 2) (le-leb 8 (length d) h.entry)
    (and_from (number_at 2 4 d == 65535) (number_at 2 6 d == 2) (eq-eqb (number_at 2 4 d) 65535 h.family) (eq-eqb (number_at 2 6 d) 2 h.kind))

pub text-password-of : (d : List ℕ) → has_text_password d ≡ true → HasTextPassword d
text-password-of d h =
    let parts = and_parts (has_password d) (is_of_entries (length d)) h in
    record { password = password-of d parts.0; whole = of-entries (length d) parts.1 }

text-password-tested : (d : List ℕ) → HasTextPassword d → has_text_password d ≡ true
text-password-tested d h = and_from (has_password d) (is_of_entries (length d)) (password-tested d h.password) (entries-tested (length d) h.whole)

size-tested : (d : List ℕ) → (trailer_at d + 4 + data_len d ≡ length d) ⊎ (trailer_at d + data_len d ≡ length d) →
    (trailer_at d + 4 + data_len d == length d || trailer_at d + data_len d == length d) ≡ true
size-tested d (inl e) = or_left (trailer_at d + 4 + data_len d == length d) (trailer_at d + data_len d == length d) (eq-eqb (trailer_at d + 4 + data_len d) (length d) e)
size-tested d (inr e) = or_right (trailer_at d + 4 + data_len d == length d) (trailer_at d + data_len d == length d) (eq-eqb (trailer_at d + data_len d) (length d) e)

size-of : (d : List ℕ) → (trailer_at d + 4 + data_len d == length d || trailer_at d + data_len d == length d) ≡ true →
    (trailer_at d + 4 + data_len d ≡ length d) ⊎ (trailer_at d + data_len d ≡ length d)
size-of d h = elim (or_cases (trailer_at d + 4 + data_len d == length d) (trailer_at d + data_len d == length d) h) [
  | inl e ↦ inl (eqb-true (trailer_at d + 4 + data_len d) (length d) e)
  | inr e ↦ inr (eqb-true (trailer_at d + data_len d) (length d) e)
]

module _ (d : List ℕ) where
  abbrev first : Bool
  first = nat_le 24 (length d)

  abbrev family : Bool
  family = number_at 2 4 d == 65535

  abbrev kind : Bool
  kind = number_at 2 6 d == 3

  abbrev within : Bool
  within = nat_le (trailer_at d + 4) (length d)

  abbrev trailer_family : Bool
  trailer_family = number_at 2 (trailer_at d) d == 65535

  abbrev trailer_kind : Bool
  trailer_kind = number_at 2 (trailer_at d + 2) d == 1

  abbrev size : Bool
  size = trailer_at d + 4 + data_len d == length d || trailer_at d + data_len d == length d

  pub keyed-digest-of : has_keyed_digest d ≡ true → HasKeyedDigest d
  keyed-digest-of h =
      let a = and_parts first (family && (kind && (is_of_entries (trailer_at d) && has_trailer d))) h in
      let b = and_parts family (kind && (is_of_entries (trailer_at d) && has_trailer d)) a.1 in
      let c = and_parts kind (is_of_entries (trailer_at d) && has_trailer d) b.1 in
      let e = and_parts (is_of_entries (trailer_at d)) (has_trailer d) c.1 in
      let f = and_parts within (trailer_family && (trailer_kind && size)) e.1 in
      let g = and_parts trailer_family (trailer_kind && size) f.1 in
      let k = and_parts trailer_kind size g.1 in
      record {
        entry = leb-true 24 (length d) a.0;
        family = eqb-true (number_at 2 4 d) 65535 b.0;
        kind = eqb-true (number_at 2 6 d) 3 c.0;
        whole = of-entries (trailer_at d) e.0;
        within = leb-true (trailer_at d + 4) (length d) f.0;
        trailer_family = eqb-true (number_at 2 (trailer_at d) d) 65535 g.0;
        trailer_kind = eqb-true (number_at 2 (trailer_at d + 2) d) 1 k.0;
        size = size-of d k.1;
      }

  keyed-digest-tested : HasKeyedDigest d → has_keyed_digest d ≡ true
  keyed-digest-tested h =
      and_from first (family && (kind && (is_of_entries (trailer_at d) && has_trailer d))) (le-leb 24 (length d) h.entry)
      (and_from family (kind && (is_of_entries (trailer_at d) && has_trailer d)) (eq-eqb (number_at 2 4 d) 65535 h.family)
      (and_from kind (is_of_entries (trailer_at d) && has_trailer d) (eq-eqb (number_at 2 6 d) 3 h.kind)
      (and_from (is_of_entries (trailer_at d)) (has_trailer d) (entries-tested (trailer_at d) h.whole)
      (and_from within (trailer_family && (trailer_kind && size)) (le-leb (trailer_at d + 4) (length d) h.within)
      (and_from trailer_family (trailer_kind && size) (eq-eqb (number_at 2 (trailer_at d) d) 65535 h.trailer_family)
      (and_from trailer_kind size (eq-eqb (number_at 2 (trailer_at d + 2) d) 1 h.trailer_kind) (size-tested d h.size)))))))

  pub tested-authentication : IsAuthenticated d → has_authentication d ≡ true
  unfolding has_authentication
  tested-authentication (inl h) = or_left (has_text_password d) (has_keyed_digest d) (text-password-tested d h)
  tested-authentication (inr h) = or_right (has_text_password d) (has_keyed_digest d) (keyed-digest-tested h)

  pub authentication-of : has_authentication d ≡ true → IsAuthenticated d
  unfolding has_authentication
  authentication-of h = elim (or_cases (has_text_password d) (has_keyed_digest d) h) [
    | inl e ↦ inl (text-password-of d e)
    | inr e ↦ inr (keyed-digest-of e)
  ]

  -- a datagram has one kind alone
  no-password : HasKeyedDigest d → has_text_password d ≡ false
  no-password h = by (has_text_password d) refl where
    by : (b : Bool) → has_text_password d ≡ b → b ≡ false
    by true e =
        let is = (text-password-of d e).password.kind in
        let other = h.kind in
        absurd (omega (arith, is, other))
    by false e = refl

  pub entries-left : (span : Span) → AreEntries d span → without_authentication d ≡ take 4 d ++ slice_of d span
  unfolding without_authentication
  entries-left span (of_password h from to) = rw (text-password-tested d h, from, to) refl
  entries-left span (of_digest h from to) = rw (no-password h, from, to) refl
