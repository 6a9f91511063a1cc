-- What a source over a reader has come to, and a sink over a writer.
use Rattle.std.specs.Prelude.{◌≡◌, ◌||◌, Bool, true, false, ℕ, List, [], Option, Some, refl}
use Rattle.std.specs.Io.KnownBytes.{IsAtEnd}
use Rattle.rip_log.specs.Outcomes.{Outcome, all_moved, ends_in, is_failure, is_no_bytes}
use Rattle.rip_log.specs.declared.source.Mark.{Mark}
use Rattle.rip_log.specs.declared.source.Mark.TheVariants.{Open, Ended, Broken}

-- it has failed
abbrev pub is_broken : Mark → Bool
is_broken Open = false
is_broken Ended = false
is_broken Broken = true

-- it has come to its end
abbrev pub is_ended : Mark → Bool
is_ended Open = false
is_ended Ended = true
is_ended Broken = false

-- what is still to come: nothing past the end, else what the reader beneath has left
abbrev pub left_at : Mark → Option (List ℕ) → Option (List ℕ)
left_at Open left = left
left_at Ended left = Some []
left_at Broken left = left

-- at the end nothing is left
pub nothing_left : (m : Mark) (left : Option (List ℕ)) → is_ended m ≡ true →
    IsAtEnd (left_at m left)
nothing_left Open left h = cc h
nothing_left Ended left h = refl
nothing_left Broken left h = cc h

-- what its reads came to, by its mark: each gave some bytes, but for the last one, which gave none
-- where it has ended, and failed where it is broken
abbrev pub is_marked : Mark → List Outcome → Bool
is_marked Open reads = all_moved reads
is_marked Ended reads = ends_in is_no_bytes reads
is_marked Broken reads = ends_in is_failure reads

-- a write that failed, or took nothing
abbrev pub takes_none : Outcome → Bool
takes_none write = is_failure write || is_no_bytes write

-- what the writes of a sink came to, by whether it has failed: each took some bytes, but for the
-- last one where it has
abbrev pub is_written : Bool → List Outcome → Bool
is_written false writes = all_moved writes
is_written true writes = ends_in takes_none writes
