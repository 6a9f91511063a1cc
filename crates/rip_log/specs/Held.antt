-- The lines in bytes that are held.
use Rattle.std.specs.Prelude.{ℕ, ◌+◌, ◌==◌, nat_lt, if◌then◌else◌, List, [], ◌∷◌}
use Rattle.rip_log.specs.declared.limits.TheConstants.{MOST_LINE_BYTES}

-- the lines that are ready in these bytes, where n more of the first one come before them
abbrev pub ready_behind : ℕ → List ℕ → ℕ
ready_behind n [] = if nat_lt MOST_LINE_BYTES n then 1 else 0
ready_behind n (b ∷ bytes) =
    if b == 10 then ready_behind 0 bytes + 1 else ready_behind (n + 1) bytes

-- how many lines these bytes tell, whatever comes after them: those that a line feed ends, and one
-- after them that is too long already
abbrev pub ready_lines : List ℕ → ℕ
ready_lines bytes = ready_behind 0 bytes

-- how many lines a line feed ends in these bytes
abbrev pub ended_lines : List ℕ → ℕ
ended_lines [] = 0
ended_lines (b ∷ bytes) = if b == 10 then ended_lines bytes + 1 else ended_lines bytes
