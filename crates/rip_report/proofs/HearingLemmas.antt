-- What a run makes of a log that it reads to its end.
use Rattle.std.proofs.Common.{◌≡◌, ◌↔◌, ◌⊎◌, ℕ, Bool, true, List, [], ◌++◌, Some, Result, Ok, Err, refl, inl, inr}
use Rattle.std.specs.Prelude.{OnOk}
use Rattle.rip_plan.specs.Network.{Network}
use Rattle.rip_log.specs.Said.{AllSaid, AreAllSaid, all_said}
use Rattle.rip_log.specs.NextLineCall.{BeginsEndless}
use Rattle.rip_table.specs.Events.{EventAt, last_event}
use Rattle.rip_table.specs.CollectsAll.{IsLogError, SaidOutcome, UnreadAt}
use Rattle.rip_table.specs.State.{State, new_state}
use Rattle.rip_table.specs.declared.error.CollectAllError.{CollectAllError}
use Rattle.rip_table.specs.declared.error.CollectAllError.TheVariants.{Log, Memory}
use Rattle.rip_log.specs.declared.error.LogError.{LogError}
use Rattle.rip_report.specs.Hearings.{IsUnread, LogComesTo, heard_in}
use Rattle.rip_report.specs.declared.status.RunError.TheVariants as run

-- what a listener holds that had heard nothing
pub heard_of : ((text : List ℕ) (all : AllSaid) → (all_said text ≡ all) ↔ AreAllSaid text all) →
    (n : Network) (text : List ℕ) (s : State) (was then : List EventAt → Type 0) (r : Result (Unit {0}) CollectAllError)
    → was [] → SaidOutcome n (new_state n) (Some (all_said text)) s was then r → OnOk (heard_in r) ((events : List EventAt) × then events × LogComesTo n text events s)
heard_of law n text s was then (Ok u) start said =
    (said.0 ++ last_event (all_said text).too_many, said.2 [] start, record { all = all_said text; said = (law text (all_said text)).0 refl; of_lines = said.0; come = said.1; whole = refl })
heard_of law n text s was then (Err (Log e)) start said = tt
heard_of law n text s was then (Err Memory) start said = tt

-- what is so where the reader's error is Read
pub unread_of : (r : Result (Unit {0}) CollectAllError) (P : LogError → Type 0) (Q : Type 0) → heard_in r ≡ Err run.Read → IsLogError r P → ((e : LogError) → P e → Q) → Q
unread_of (Ok u) P Q is said f = cc is
unread_of (Err (Log e)) P Q is said f = f e said
unread_of (Err Memory) P Q is said f = cc is

-- where a line could not be read, the source failed or the text has a line without an end
pub endless_of : (n : Network) (old : State) (text : List ℕ) (others behind : ℕ) (failed : Bool) (s : State) (was then : List EventAt → Type 0) → UnreadAt n old text others behind failed s was then →
    IsUnread failed text
endless_of n old text others behind failed s was then unread = by unread.cause
  where
    by : (failed ≡ true) ⊎ BeginsEndless unread.rest → IsUnread failed text
    by (inl broke) = inl broke
    by (inr long) = inr (unread.passed, unread.rest, unread.lines, long)
