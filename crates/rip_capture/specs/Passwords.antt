-- The password of a datagram (RFC 2453, section 4.1).
use Rattle.std.specs.Prelude.{◌≡◌, ◌≤◌, ℕ, ◌-◌, ◌==◌, ◌&&◌, nat_le, if◌then◌else◌, Bool, List, ◌++◌, length, take, drop, min, replicate}
use Rattle.rip_wire.specs.Fields.{number_at}
use Rattle.rip_capture.specs.declared.password.TheConstants.{AUTHENTICATION, PASSWORD, PASSWORD_FROM, PASSWORD_TO}
use Rattle.rip_log.specs.declared.span.Span.{Span}

-- the first entry says that a password follows
pub record HasPassword (d : List ℕ) : Type 0 where
  pub entry : PASSWORD_FROM ≤ length d
  pub family : number_at 2 4 d ≡ AUTHENTICATION
  pub kind : number_at 2 6 d ≡ PASSWORD

-- these bytes are the password, as far as it is there
pub record IsPassword (d : List ℕ) (span : Span) : Type 0 where
  pub has : HasPassword d
  pub from : span.from ≡ PASSWORD_FROM
  pub to : span.to ≡ min (length d) PASSWORD_TO

-- the test of a password
abbrev pub has_password : List ℕ → Bool
has_password d =
    nat_le PASSWORD_FROM (length d)
    && (number_at 2 4 d == AUTHENTICATION && number_at 2 6 d == PASSWORD)

-- where a password ends
abbrev pub password_end : List ℕ → ℕ
password_end d = min (length d) PASSWORD_TO

-- the datagram, with zeros for its password if it has one
abbrev pub without_password : List ℕ → List ℕ
without_password d =
    if has_password d
    then take PASSWORD_FROM d ++ replicate (password_end d - PASSWORD_FROM) 0
    ++ drop (password_end d) d
    else d
