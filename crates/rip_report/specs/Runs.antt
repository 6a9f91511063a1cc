-- What runs print and leave: each on a plan, or on a plan and a log, by the texts of its command.
use Rattle.std.specs.Prelude.{◌≡◌, ◌≢◌, ◌↔◌, ◌⊎◌, ◌+◌, ◌≤◌, ℕ, Bool, true, false, List, ◌++◌, length, Option, Some, Result, Err, IfOk}
use Rattle.rip_log.specs.declared.sink.Sink.{Ghosts as SinkOf}
use Rattle.rip_log.specs.declared.source.Source.{Ghosts as SourceOf}
use Rattle.rip_log.specs.Cuts.{PassesLines}
use Rattle.rip_log.specs.LogText.{AreLines}
use Rattle.rip_log.specs.Taken.{Taken}
use Rattle.rip_log.specs.Wholes.{Went}
use Rattle.rip_log.specs.declared.limits.TheConstants.{MOST_HELD_BYTES}
use Rattle.rip_plan.specs.Network.{Network}
use Rattle.rip_plan.specs.PlanFaults.{PlanFault}
use Rattle.rip_plan.specs.PlanOf.{IsPlanOfText}
use Rattle.rip_plan.specs.declared.error.PlanError.{PlanError}
use Rattle.rip_table.specs.Events.{EventAt}
use Rattle.rip_table.specs.State.{State}
use Rattle.rip_table.specs.declared.error.CollectError.{CollectError}
use Rattle.rip_report.specs.Given.{IsGiven}
use Rattle.rip_report.specs.Hearings.{EventsText, IsUnread}
use Rattle.rip_report.specs.PlanText.{IsNoText, OfPlan}
use Rattle.rip_report.specs.ReportText.{IsAccepted, IsTable, LogMakes, ReportText}
use Rattle.rip_report.specs.Films.{HasShownOf, IsUnreadTo, Stage}
use Rattle.rip_report.specs.Outs.{IsOnItsWay}
use Rattle.rip_report.specs.Sent.{Prints, PrintsAlong, WentOut, sink_state}
use Rattle.rip_report.specs.WatchText.{EndsRight, IsVerdictStatus, LiesWithin, WatchFront, WatchText, WatchedLog, WatchedLogFront}
use Rattle.rip_log.specs.TimedText.{LineSaid, TextSays}
use Rattle.rip_report.specs.Written.{Written}
use Rattle.rip_report.specs.declared.status.Status.{Status}
use Rattle.rip_report.specs.declared.status.Status.TheVariants.{Refused, Settled}
use Rattle.rip_report.specs.declared.status.RunError.{RunError}
use Rattle.rip_report.specs.declared.status.RunError.TheVariants.{Memory, Read, Write}

-- what a run leaves of its source
pub record Draws {R : Type 0} (given : R → List ℕ) (coming : R → Option (List ℕ))
    (broken at_end : R → Bool) (old new : R) (result : Result Status RunError) : Type 0 where
  -- every answer but Read leaves the source's mark as it was
  pub source : result ≢ Err Read → broken new ≡ broken old
  -- the bytes given, perhaps none, are the first of those to come, where these are modelled
  pub went : Went given coming at_end old new
  pub to_come : (text : List ℕ) → coming old ≡ Some text → IsGiven given at_end old new text

-- the same of a run that ends at the first line that is refused
pub record Reads {R : Type 0} (given : R → List ℕ) (coming : R → Option (List ℕ))
    (broken at_end : R → Bool) (old new : R) (result : Result Status RunError) : Type 0 where
  pub draws : Draws given coming broken at_end old new result
  -- with Read the source has failed
  pub read : result ≡ Err Read → broken new ≡ true
  -- what is printed of a log's table comes only where the source has come to its end
  pub ended : IfOk result (λ status. status ≢ Refused → at_end new ≡ true)

-- the same of a run that goes on to the last line, whatever the lines say
pub record ReadsOn {R : Type 0} (given : R → List ℕ) (coming : R → Option (List ℕ))
    (broken at_end : R → Bool) (old new : R) (result : Result Status RunError) : Type 0 where
  pub draws : Draws given coming broken at_end old new result
  -- with Read the source has failed, or a line has more than 2^64 - 1 bytes
  pub read : (text : List ℕ) → IsGiven given at_end old new text → result ≡ Err Read →
      IsUnread (broken new) text

-- what a run leaves whose plan is refused
pub record RefusesPlan {R : Type 0} (plan : List ℕ) (old new : R) (result : Result Status RunError)
    : Type 0 where
  -- the log is not touched, and the error is not Read
  pub untouched : (e : PlanError) → PlanFault plan e → (new ≡ old) × (result ≢ Err Read)
  -- too many bytes, or bytes that are not UTF-8, never give Memory
  pub no_text : IsNoText plan → result ≢ Err Memory

-- bytes are those of lines up to this one, and then those of the others, no more than a reader
-- holds
pub record StopsBehind (bytes : List ℕ) (line : ℕ) : Type 0 where
  pub front : List ℕ
  pub behind : List ℕ
  pub whole : bytes ≡ front ++ behind
  pub lines : List (List ℕ)
  pub others : List (List ℕ)
  pub are_lines : AreLines bytes (lines ++ others)
  pub are_others : AreLines behind others
  pub few : length lines ≤ line
  pub held : length behind ≤ MOST_HELD_BYTES

-- the same of all bytes that a source gave between old and new
abbrev pub PullsLittleBehind : {R : Type 0} → (R → List ℕ) → R → R → ℕ → Type 0
PullsLittleBehind given old new line =
    (bytes : List ℕ) → given new ≡ given old ++ bytes → StopsBehind bytes line

-- where a log is refused at a line by this plan, no more is pulled behind it than a reader holds
abbrev pub StopsAtRefusal : {R : Type 0} → (R → List ℕ) → (R → Bool) → List ℕ → R → R →
    Result Status RunError → Type 0
StopsAtRefusal given at_end plan old new result =
    (text : List ℕ) → IsGiven given at_end old new text → (n : Network) (s : State)
    (e : CollectError) → IsPlanOfText plan n → LogMakes n text s (Some e) →
    IfOk result (λ status. PullsLittleBehind given old new e.line)

-- a run on a plan alone: what it prints and leaves, by the texts that its command has for a plan
pub record RunsOnPlan {K : Type 0} (sink : SinkOf K) (IsText : Network → Written → Type 0)
    (plan : List ℕ) (out : K) (run : K × Result Status RunError) : Type 0 where
  -- the whole text went out, or a beginning where the sink failed, or nothing
  pub prints : Prints sink.taken sink.broken out run.0 run.1 (OfPlan IsText plan)
  -- there is no log to read
  pub read : run.1 ≢ Err Read
  -- too many bytes, or bytes that are not UTF-8, never give Memory
  pub no_text : IsNoText plan → run.1 ≢ Err Memory

-- a run on a plan and a log that ends at the first line that is refused, by the texts that its
-- command has for the table of a log
pub record RunsOnLog {R K : Type 0} (source : SourceOf R) (sink : SinkOf K)
    (IsText : Network → State → Written → Type 0) (plan : List ℕ) (log : R) (out : K)
    (run : R × K × Result Status RunError) : Type 0 where
  -- the whole text went out, or a beginning where the sink failed, or nothing
  pub prints : (text : List ℕ) → IsGiven source.given source.at_end log run.0 text →
      Prints sink.taken sink.broken out run.1 run.2 (ReportText IsText plan text)
  -- what is printed of a table comes only at the source's end, and Read only where it has failed
  pub reads : Reads source.given source.coming source.broken source.at_end log run.0 run.2
  -- where plan and log are accepted, the text is one for the table that the log shows
  pub told : (text : List ℕ) → IsGiven source.given source.at_end log run.0 text →
      (n : Network) (s : State) → IsAccepted plan text n s →
      IfOk run.2 (WentOut (IsText n s) (sink.taken out) (sink.taken run.1))
  -- if the plan is refused, the log is not touched; one that is no text never gives Memory
  pub refuses : RefusesPlan plan log run.0 run.2
  -- behind the line at which a log is refused no more is pulled than a reader holds
  pub stops : StopsAtRefusal source.given source.at_end plan log run.0 run.2

-- a run on a plan and a log that goes on to the last line, whatever the lines say, by the texts
-- that its command has for what the lines come to
pub record RunsToEnd {R K : Type 0} (source : SourceOf R) (sink : SinkOf K)
    (IsText : Network → List EventAt → State → Written → Type 0) (plan : List ℕ) (log : R)
    (out : K) (run : R × K × Result Status RunError) : Type 0 where
  -- the whole text went out, or a beginning where the sink failed, or nothing
  pub prints : (text : List ℕ) → IsGiven source.given source.at_end log run.0 text →
      Prints sink.taken sink.broken out run.1 run.2 (EventsText IsText plan text)
  -- Read only where the source has failed, or a line has more than 2^64 - 1 bytes
  pub reads : ReadsOn source.given source.coming source.broken source.at_end log run.0 run.2
  -- if the plan is refused, the log is not touched; one that is no text never gives Memory
  pub refuses : RefusesPlan plan log run.0 run.2

-- what a run leaves of the source of a log with times
pub record DrawsTimes {R : Type 0} (from : SourceOf R) (until : Bool) (log new : R)
    (result : Result Status RunError) : Type 0 where
  -- the bytes given, perhaps none, are the first of those to come, where these are modelled
  pub went : Went from.given from.coming from.at_end log new
  pub to_come : (text : List ℕ) → from.coming log ≡ Some text →
      IsGiven from.given from.at_end log new text
  -- every answer but Read and Write leaves the source's mark as it was
  pub source : result ≢ Err Read → result ≢ Err Write → from.broken new ≡ from.broken log
  -- Read only where the source has failed, or a line or the number of lines has no end
  pub read : (text : List ℕ) → IsGiven from.given from.at_end log new text →
      result ≡ Err Read → IsUnreadTo (from.broken new) (Some text)
  -- it ends before the source does only by a refusal, or where a settled second ends it
  pub ended : IfOk result (λ status. (until ≡ true → status ≢ Settled) → status ≢ Refused →
      from.at_end new ≡ true)

-- Of the bytes of a log with times that a run had pulled so many lines were read before the last
-- one: what it had printed for them was on its way then, and no write had failed; and behind that
-- line no more was pulled than a reader holds.
pub record ReadsInStep {K : Type 0} (taken : K → Taken) (broken : K → Bool) (n : Network)
    (window : ℕ) (until : Bool) (out : K) (bytes : List ℕ) : Type 0 where
  pub before : ℕ
  pub to_come : Option (List ℕ)
  pub passed : PassesLines (Some bytes) 0 to_come before
  pub stage : Stage
  pub printed : List ℕ
  pub shown : HasShownOf n window until (Some bytes) to_come before stage printed
  pub way : IsOnItsWay taken broken (sink_state taken broken out) printed
  pub stops : StopsBehind bytes (before + 1)

-- the same of all bytes that a source gave, unless it failed, or a line or the number of lines has
-- no end
abbrev pub StaysInStep : {R K : Type 0} → SourceOf R → SinkOf K → ℕ → Bool → Network → R → R → K
    → Type 0
StaysInStep source sink window until n log new out =
    (bytes : List ℕ) → source.given new ≡ source.given log ++ bytes
    → IsUnreadTo (source.broken new) (Some bytes)
    ⊎ ReadsInStep sink.taken sink.broken n window until out bytes

-- a run on a log with times by a plan
pub record Watches {R K : Type 0} (source : SourceOf R) (sink : SinkOf K) (window : ℕ)
    (until : Bool) (n : Network) (log : R) (out : K) (run : R × K × Result Status RunError)
    : Type 0 where
  -- the whole text went out, or a beginning of what is printed for a beginning of the log
  pub prints : (text : List ℕ) → IsGiven source.given source.at_end log run.0 text →
      PrintsAlong sink.taken sink.broken out run.1 run.2
      (WatchedLog n window until text) (WatchedLogFront n window until text)
  pub draws : DrawsTimes source until log run.0 run.2
  -- the status is Settled exactly where the last second is right, or any that ends it
  pub settled : (text : List ℕ) → IsGiven source.given source.at_end log run.0 text →
      (said : List LineSaid) → TextSays text said →
      IfOk run.2 (λ status. (status ≡ Settled) ↔ EndsRight n window until said)
  -- of a log within one window it is that of the verdict on the table of the log without times
  pub film : (text plain : List ℕ) → IsGiven source.given source.at_end log run.0 text →
      LiesWithin window text plain → until ≡ false → (s : State) → IsTable n plain s →
      IfOk run.2 (IsVerdictStatus n s)

-- a run on a plan and a log with times
pub record RunsOnTimes {R K : Type 0} (source : SourceOf R) (sink : SinkOf K) (window : ℕ)
    (until : Bool) (plan : List ℕ) (log : R) (out : K) (run : R × K × Result Status RunError)
    : Type 0 where
  -- the whole text went out, or a beginning of what is printed for a beginning of the log
  pub prints : (text : List ℕ) → IsGiven source.given source.at_end log run.0 text →
      PrintsAlong sink.taken sink.broken out run.1 run.2
      (WatchText window until plan text) (WatchFront window until plan text)
  pub draws : DrawsTimes source until log run.0 run.2
  -- if the plan is refused, the log is not touched; one that is no text never gives Memory
  pub refuses : RefusesPlan plan log run.0 run.2
  -- by this plan not much more is read where the sink has failed
  pub stops : (n : Network) → IsPlanOfText plan n →
      StaysInStep source sink window until n log run.0 out
