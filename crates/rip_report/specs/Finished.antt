-- What a command adds, and how a run ends.
use Rattle.std.specs.Prelude.{◌≡◌, ◌≢◌, true, List, ℕ, Result, Ok, Err, IfOk, OnErr}
use Rattle.std.specs.declared.alloc.AllocError.{AllocError}
use Rattle.rip_log.specs.Taken.{Took}
use Rattle.rip_report.specs.Outs.{AddsOne, Progress}
use Rattle.rip_report.specs.Sent.{Began, SinkState}
use Rattle.rip_report.specs.Written.{Written}
use Rattle.rip_report.specs.declared.status.Status.{Status}
use Rattle.rip_report.specs.declared.status.RunError.{RunError}
use Rattle.rip_report.specs.declared.status.RunError.TheVariants.{Memory, Write}

-- a run that wrote a text, and then ends with this answer, or with Write where the sink has failed
pub record EndsWith (old new : SinkState) (text : List ℕ) (answer result : Result Status RunError)
    : Type 0 where
  pub out : result ≢ Err Write → (result ≡ answer) × Took old.taken new.taken text
  pub write : result ≡ Err Write → (new.broken ≡ true) × Began old.taken new.taken text
  pub sink : result ≢ Err Write → new.broken ≡ old.broken

-- one of these texts was added, and its status is the one that is answered; or nothing was
pub record AddsWritten (old new : Progress) (added : Result Status AllocError)
    (IsText : Written → Type 0) : Type 0 where
  pub text : IfOk added (λ status.
      AddsOne old new (λ text. IsText (record { text = text; status = status })))
  pub nothing : OnErr added (new ≡ old)

-- what is answered for what was added
pub record Answers (text : Progress) (added : Result Status AllocError) (now : SinkState)
    (answer : Result Status RunError) : Type 0 where
  pub ends : IfOk added (λ status. EndsWith text.start now text.text (Ok status) answer)
  pub lacks : OnErr added ((answer ≡ Err Memory) × (now ≡ text.sink))
