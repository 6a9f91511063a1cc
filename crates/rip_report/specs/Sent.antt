-- What has gone out of a text, by what a sink has taken before and after.
use Rattle.std.specs.Prelude.{◌≡◌, ◌≢◌, ◌⊎◌, ℕ, Bool, true, false, List, ◌++◌, Result, Err, IfOk, OnErr, OnOk, is_err}
use Rattle.rip_log.specs.Taken.{Taken, Took}
use Rattle.rip_log.specs.declared.device.Failed.{Failed}
use Rattle.rip_report.specs.Written.{Written}
use Rattle.rip_report.specs.declared.status.Status.{Status}
use Rattle.rip_report.specs.declared.status.RunError.{RunError}
use Rattle.rip_report.specs.declared.status.RunError.TheVariants.{Read, Write, Memory}

-- how a sink stands: what it has taken, and whether it has failed
pub record SinkState : Type 0 where
  pub taken : Taken
  pub broken : Bool

abbrev pub sink_state : {K : Type 0} → (K → Taken) → (K → Bool) → K → SinkState
sink_state taken broken k = record { taken = taken k; broken = broken k }

-- nothing was taken
abbrev pub Keeps : Taken → Taken → Type 0
Keeps old new = new ≡ old

-- a front of the text went out, and `left` is the rest of it
pub record Sent (old new : Taken) (text left : List ℕ) : Type 0 where
  pub front : List ℕ
  pub sent : Took old new front
  pub whole : text ≡ front ++ left

-- a beginning of the text went out
pub record Began (old new : Taken) (text : List ℕ) : Type 0 where
  pub left : List ℕ
  pub sent : Sent old new text left

-- between two states of a sink a text was written: all but `left` went out; or the sink has
-- failed, and a beginning went out
pub record Writes (old new : SinkState) (result : Result (Unit {0}) Failed) (text left : List ℕ)
    : Type 0 where
  pub ok : OnOk result (Sent old.taken new.taken text left)
  pub err : OnErr result (Began old.taken new.taken text)
  pub failed : is_err result ≡ true → new.broken ≡ true
  pub kept : is_err result ≡ false → new.broken ≡ old.broken

-- the whole of one of these texts went out, and its status is the one that is answered
abbrev pub WentOut : (Written → Type 0) → Taken → Taken → Status → Type 0
WentOut IsText old new status =
    (text : List ℕ) × IsText (record { text = text; status = status }) × Took old new text

-- a beginning of one of these texts went out
abbrev pub BeginningOut : (Written → Type 0) → Taken → Taken → Type 0
BeginningOut IsText old new = (w : Written) × IsText w × Began old new w.text

-- what a run leaves that prints one of these texts
pub record Prints
    {K : Type 0}
    (taken : K → Taken)
    (broken : K → Bool)
    (old new : K)
    (result : Result Status RunError)
    (IsText : Written → Type 0)
    : Type 0 where
  -- the whole text went out, and nothing else
  pub text : IfOk result (WentOut IsText (taken old) (taken new))
  -- the sink has failed, and a beginning of the text went out
  pub write : result ≡ Err Write
      → (broken new ≡ true) × BeginningOut IsText (taken old) (taken new)
  -- with Read and with Memory nothing went out
  pub read : result ≡ Err Read → Keeps (taken old) (taken new)
  pub memory : result ≡ Err Memory → Keeps (taken old) (taken new)
  -- after every other answer it has failed only where it had before
  pub sink : result ≢ Err Write → broken new ≡ broken old

-- what a run leaves that prints one of these texts while it reads: where it gives up, a beginning
-- of one of those went out
pub record PrintsAlong
    {K : Type 0}
    (taken : K → Taken)
    (broken : K → Bool)
    (old new : K)
    (result : Result Status RunError)
    (IsText IsFront : Written → Type 0)
    : Type 0 where
  -- the whole text went out, and nothing else
  pub text : IfOk result (WentOut IsText (taken old) (taken new))
  -- nothing went out, or a beginning of what is printed for a beginning of the log
  pub front : OnErr result
      (Keeps (taken old) (taken new) ⊎ BeginningOut IsFront (taken old) (taken new))
  -- the sink has failed
  pub write : result ≡ Err Write → broken new ≡ true
  -- after every other answer it has failed only where it had before
  pub sink : result ≢ Err Write → broken new ≡ broken old
