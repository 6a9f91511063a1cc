-- The authentication of a datagram: a password in text (RFC 2453, section 4.1), or a keyed digest
-- behind the entries (RFC 2082, section 3.2; RFC 4822, section 2).
use Rattle.std.specs.Prelude.{◌≡◌, ◌⊎◌, ◌+◌, ◌-◌, ◌*◌, ◌%◌, ◌≤◌, ◌==◌, ◌&&◌, ◌||◌, ℕ, Bool, List, ◌++◌, if◌then◌else◌, nat_le, length, take, slice_index, slice_range}
use Rattle.rip_wire.specs.Fields.{number_at}
use Rattle.rip_wire.specs.declared.limits.TheConstants.{ENTRY_LEN, HEADER_LEN}
use Rattle.rip_capture.specs.Passwords.{HasPassword, has_password}
use Rattle.rip_capture.specs.declared.authentication.TheConstants.{DATA_LEN_AT, DIGEST, ENTRIES_FROM, TRAILER, TRAILER_HEADER}
use Rattle.rip_capture.specs.declared.password.TheConstants.{AUTHENTICATION}
use Rattle.rip_log.specs.declared.span.Span.{Span}

-- a header and whole entries, at least one, are so many bytes
pub record IsOfEntries (size : ℕ) : Type 0 where
  pub entries : ℕ
  pub some : 1 ≤ entries
  pub bytes : size ≡ HEADER_LEN + ENTRY_LEN * entries

-- a password in text: the first of whole entries
pub record HasTextPassword (d : List ℕ) : Type 0 where
  pub password : HasPassword d
  pub whole : IsOfEntries (length d)

-- where the trailer begins that has the digest, by the first entry
abbrev pub trailer_at : List ℕ → ℕ
trailer_at d = number_at 2 8 d

-- how many bytes of authentication data there are, by the first entry
abbrev pub data_len : List ℕ → ℕ
data_len d = slice_index d DATA_LEN_AT

-- a keyed digest: whole entries, of which the first says where they end, and behind them a trailer
-- to the end, as long as the first one says, with its header or without
pub record HasKeyedDigest (d : List ℕ) : Type 0 where
  pub entry : ENTRIES_FROM ≤ length d
  pub family : number_at 2 4 d ≡ AUTHENTICATION
  pub kind : number_at 2 6 d ≡ DIGEST
  pub whole : IsOfEntries (trailer_at d)
  pub within : trailer_at d + TRAILER_HEADER ≤ length d
  pub trailer_family : number_at 2 (trailer_at d) d ≡ AUTHENTICATION
  pub trailer_kind : number_at 2 (trailer_at d + 2) d ≡ TRAILER
  pub size : (trailer_at d + TRAILER_HEADER + data_len d ≡ length d)
      ⊎ (trailer_at d + data_len d ≡ length d)

-- it has an authentication that can be taken off
abbrev pub IsAuthenticated : List ℕ → Type 0
IsAuthenticated d = HasTextPassword d ⊎ HasKeyedDigest d

-- these bytes are the entries behind the one that authenticates
pub data AreEntries (d : List ℕ) (span : Span) : Type 0 where
  of_password : HasTextPassword d → span.from ≡ ENTRIES_FROM → span.to ≡ length d →
      AreEntries d span
  of_digest : HasKeyedDigest d → span.from ≡ ENTRIES_FROM → span.to ≡ trailer_at d →
      AreEntries d span

-- ---- the same, as tests

-- the test of a header and whole entries
abbrev pub is_of_entries : ℕ → Bool
is_of_entries size = nat_le ENTRIES_FROM size && (size - HEADER_LEN) % ENTRY_LEN == 0

-- the test of a password in text
abbrev pub has_text_password : List ℕ → Bool
has_text_password d = has_password d && is_of_entries (length d)

-- the test of a trailer
abbrev pub has_trailer : List ℕ → Bool
has_trailer d =
    nat_le (trailer_at d + TRAILER_HEADER) (length d)
    && (number_at 2 (trailer_at d) d == AUTHENTICATION
    && (number_at 2 (trailer_at d + 2) d == TRAILER
    && (trailer_at d + TRAILER_HEADER + data_len d == length d
    || trailer_at d + data_len d == length d)))

-- the test of a keyed digest
abbrev pub has_keyed_digest : List ℕ → Bool
has_keyed_digest d =
    nat_le ENTRIES_FROM (length d)
    && (number_at 2 4 d == AUTHENTICATION
    && (number_at 2 6 d == DIGEST && (is_of_entries (trailer_at d) && has_trailer d)))

-- the test of an authentication that can be taken off
unfoldable pub has_authentication : List ℕ → Bool
has_authentication d = has_text_password d || has_keyed_digest d

-- where the entries of such a datagram end
abbrev pub entries_end : List ℕ → ℕ
entries_end d = if has_text_password d then length d else trailer_at d

-- such a datagram as it would be without: its header, and the entries behind the one that
-- authenticates
unfoldable pub without_authentication : List ℕ → List ℕ
without_authentication d = take HEADER_LEN d ++ slice_range d ENTRIES_FROM (entries_end d)
