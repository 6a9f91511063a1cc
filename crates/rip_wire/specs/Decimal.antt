-- Numbers of up to three digits at the front of a text, without zeros before them.
use Rattle.std.specs.Prelude.{ℕ, ◌+◌, ◌-◌, ◌*◌, ◌==◌, ◌&&◌, nat_le, nat_lt, if◌then◌else◌, List, [], ◌∷◌, Option, Some, None}

-- the value of a digit at the front, and the text after it
abbrev pub digit_of : List ℕ → Option (ℕ × List ℕ)
digit_of [] = None
digit_of (b ∷ bytes) = if nat_le 48 b && nat_le b 57 then Some (b - 48, bytes) else None

-- a number of two digits, or of three with the next one, which is at most 255
abbrev pub with_third : ℕ → List ℕ → Option (ℕ × List ℕ) → Option (ℕ × List ℕ)
with_third two more None = Some (two, more)
with_third two more (Some x) =
    if nat_lt 255 (10 * two + x.0) then None else Some (10 * two + x.0, x.1)

-- a digit, or a number that begins with it
abbrev pub with_second : ℕ → List ℕ → Option (ℕ × List ℕ) → Option (ℕ × List ℕ)
with_second first rest None = Some (first, rest)
with_second first rest (Some x) = with_third (10 * first + x.0) x.1 (digit_of x.1)

-- what follows a zero is no part of its number
abbrev pub with_first : Option (ℕ × List ℕ) → Option (ℕ × List ℕ)
with_first None = None
with_first (Some x) = if x.0 == 0 then Some (0, x.1) else with_second x.0 x.1 (digit_of x.1)

-- the number at the front, at most 255, and the text after it
abbrev pub number_of : List ℕ → Option (ℕ × List ℕ)
number_of text = with_first (digit_of text)
