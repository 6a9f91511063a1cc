-- How a reader comes to the next line that says something.
use Rattle.std.specs.Prelude.{◌≡◌, ◌+◌, ◌<◌, ◌≤◌, ℕ, Bool, true, List, Option, None, Result, Ok}
use Rattle.rip_log.specs.Cuts.{DropsFront, PassesLines}
use Rattle.rip_log.specs.NextCall.{IsOver, last_ready, lines_behind, source_of, text}
use Rattle.rip_log.specs.NextLineCall.{last_ended}
use Rattle.rip_log.specs.Said.{SameSaid, said_at}
use Rattle.rip_log.specs.Steps.{Moves, NextIsGood, NextSays, TakesNext, TakesNextEnded, is_found, lines_counted}
use Rattle.rip_log.specs.Wholes.{OfWhole}
use Rattle.rip_log.specs.declared.error.LogError.{LogError}
use Rattle.rip_log.specs.declared.limits.TheConstants.{MOST_LINES}
use Rattle.rip_log.specs.declared.reader.FoundLine.{FoundLine}
use Rattle.rip_log.specs.declared.reader.LogReader.{LogReader}

-- lines of known text that say nothing were passed, so that what is left says the same
pub record SkipsLines (t : Option (List ℕ)) (n : ℕ)
    (left : Option (List ℕ)) (after : ℕ) : Type 0 where
  pub passed : PassesLines t n left after
  pub front : DropsFront t left
  pub said : SameSaid (said_at n t) (said_at after left)

-- lines that say nothing were passed, and the next one is this
pub record ComesTo {R : Type 0} (t : Option (List ℕ)) (n before : ℕ) (left : Option (List ℕ))
    (new : LogReader R) (result : Result (Option FoundLine) LogError) : Type 0 where
  -- the text that begins with it
  pub at : Option (List ℕ)
  pub skips : SkipsLines t n at before
  pub says : NextSays at before left new result

-- a reader came to the next line that says something, or to the end
pub record Advances {R : Type 0} (given : R → List ℕ) (coming : R → Option (List ℕ))
    (broken at_end : R → Bool) (old new : LogReader R)
    (result : Result (Option FoundLine) LogError) : Type 0 where
  -- how many lines are before it
  pub before : ℕ
  pub onward : lines_behind old ≤ before
  -- a line that is bad or too long is not yet behind
  pub behind : lines_behind new ≡ before + lines_counted result
  pub few : is_found result ≡ true → before < MOST_LINES
  pub comes : OfWhole given at_end (source_of new) (λ coming.
      ComesTo (text coming old) (lines_behind old) before (text coming new) new result)
  pub good : NextIsGood new result
  pub moves : Moves given coming broken at_end old new result
  pub over : result ≡ Ok None → IsOver at_end new
  pub stays_over : IsOver at_end old → result ≡ Ok None
  -- where the line was ready, or its line feed held, nothing was pulled, and the others are there
  -- still
  pub unpulled : before + 1 ≤ last_ready old → source_of new ≡ source_of old
  pub ready : before + 1 ≤ last_ready old → TakesNext old new result
  pub unpulled_ended : before + 1 ≤ last_ended old → source_of new ≡ source_of old
  pub ended : before + 1 ≤ last_ended old → TakesNextEnded old new result
