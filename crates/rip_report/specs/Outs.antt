-- Text on its way to a sink.
use Rattle.std.specs.Prelude.{◌≡◌, ◌≤◌, ℕ, Bool, false, List, [], ◌∷◌, ◌++◌, length, Option, Some, None, Result, Ok}
use Rattle.rip_log.specs.declared.device.Failed.{Failed}
use Rattle.rip_log.specs.Taken.{Taken, Took}
use Rattle.rip_report.specs.Sent.{SinkState, Writes, sink_state}
use Rattle.rip_report.specs.declared.page.TheConstants.{PAGE_BYTES}

-- how far a text has come: how the sink stood before it and stands now, all that was added, and
-- whether a write has failed
pub record Progress : Type 0 where
  pub start : SinkState
  pub sink : SinkState
  pub text : List ℕ
  pub failed : Bool

-- this text was added
pub record Adds (old new : Progress) (more : List ℕ) : Type 0 where
  pub start : new.start ≡ old.start
  pub text : new.text ≡ old.text ++ more

-- one of these texts was added
pub record AddsOne (old new : Progress) (IsText : List ℕ → Type 0) : Type 0 where
  pub text : List ℕ
  pub is_text : IsText text
  pub adds : Adds old new text

-- all text that was added has gone out, unless a write has failed
abbrev pub HasGoneOut : Progress → Type 0
HasGoneOut o = o.failed ≡ false → Took o.start.taken o.sink.taken o.text

-- the texts that were noted, as one
abbrev pub noted : List (Option (List ℕ)) → List ℕ
noted [] = []
noted (Some text ∷ later) = text ++ noted later
noted (None ∷ later) = noted later

-- a text is on its way: no write has failed, and all of it is written but for what a page holds
pub record IsOnItsWay {K : Type 0} (taken : K → Taken) (broken : K → Bool) (start : SinkState)
    (text : List ℕ) : Type 0 where
  pub sink : K
  pub held : List ℕ
  pub writes : Writes start (sink_state taken broken sink) (Ok tt) text held
  pub few : length held ≤ PAGE_BYTES

-- more text was taken: where all text before was written but for what was held, all is written but
-- for what is held now
abbrev pub TakesMore : SinkState → Result (Unit {0}) Failed → List ℕ → SinkState →
    Result (Unit {0}) Failed → List ℕ → List ℕ → Type 0
TakesMore old before held_before new after held_after more =
    (start : SinkState) (text : List ℕ) → Writes start old before text held_before →
    Writes start new after (text ++ more) held_after
