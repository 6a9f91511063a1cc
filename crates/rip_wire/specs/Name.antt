-- The form of a name, of a link or of a router.
use Rattle.std.specs.Prelude.{◌≡◌, ◌⊎◌, ℕ, ◌≤◌, Bool, ◌&&◌, ◌||◌, ◌==◌, nat_le, List, length, All}
use Rattle.std.specs.Char.{is_ascii_alphanumeric}
use Rattle.std.specs.Int.{IsInRange}
use Rattle.std.specs.List.{list_all}

-- a letter, a digit, `-`, `_` or `.`
abbrev pub IsNameByte : ℕ → Type 0
IsNameByte c =
    IsInRange 65 90 c ⊎ IsInRange 97 122 c ⊎ IsInRange 48 57 c ⊎ (c ≡ 45) ⊎ (c ≡ 95) ⊎ (c ≡ 46)

-- 1 to 32 of these bytes
pub record IsName (text : List ℕ) : Type 0 where
  pub some : 1 ≤ length text
  pub few : length text ≤ 32
  pub bytes : All IsNameByte text

-- the test of a byte of a name
abbrev pub is_name_byte : ℕ → Bool
is_name_byte c = is_ascii_alphanumeric c || (c == 45 || (c == 95 || c == 46))

-- the test of a name
abbrev pub is_name : List ℕ → Bool
is_name text = nat_le 1 (length text) && (nat_le (length text) 32 && list_all is_name_byte text)
