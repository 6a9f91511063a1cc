-- Joining a record never blames the log.
use Rattle.std.proofs.Common.{◌≡◌, ◌+◌, ℕ, Bool, true, false, Option, Some, None, Result, Ok, Err, refl, ap, ◌∙◌, subst}
use Rattle.rip_wire.specs.Message.{Message, request, response}
use Rattle.rip_plan.specs.Network.{Network}
use Rattle.rip_log.specs.Lines.{Capture}
use Rattle.rip_log.specs.Logs.{IfElse}
use Rattle.rip_log.specs.declared.error.LogError.{LogError}
use Rattle.rip_log.specs.declared.error.LogCode.TheVariants as codes
use Rattle.rip_table.specs.State.{State}
use Rattle.rip_table.specs.Joined.{as_cause, interface_of, joined_from, joined_message, message_of_capture, Joins}
use Rattle.rip_table.specs.Collects.{IsAtLine, is_log_cause, is_read_cause}
use Rattle.rip_table.specs.declared.error.CollectError.{CollectError}
use Rattle.rip_table.specs.declared.error.TableError.{TableError}
use Rattle.rip_table.specs.declared.error.CollectCause.{CollectCause}
use Rattle.rip_table.specs.declared.error.CollectCause.TheVariants.{Log as OfLog, Table, UnknownSender}

abbrev blames_log : Result State CollectCause → Bool
blames_log (Ok s) = false
blames_log (Err cause) = is_log_cause cause

blames-cause : (r : Result State TableError) → blames_log (as_cause r) ≡ false
blames-cause (Ok s) = refl
blames-cause (Err e) = refl

blames-from : (net : Network) (s : State) (m : Message) (o : Option ℕ) → blames_log (joined_from net s m o) ≡ false
blames-from net s request None = refl
blames-from net s (response es) None = refl
blames-from net s request (Some i) = blames-cause (joined_message net i s request)
blames-from net s (response es) (Some i) = blames-cause (joined_message net i s (response es))

pub Joins-blame : (n : Network) (old : State) (c : Capture) (new : State) (cause : CollectCause) → Joins n old c new (Err cause) → is_log_cause cause ≡ false
Joins-blame n old c new (OfLog error) h =
    let k : blames_log (Err (OfLog error)) ≡ false = subst (λ (r : Result State CollectCause). blames_log r ≡ false) h.1 (blames-from n old (message_of_capture c) (interface_of n c)) in
    k
Joins-blame n old c new (Table error) h = refl
Joins-blame n old c new UnknownSender h = refl

pub not_log-not_read : (cause : CollectCause) → is_log_cause cause ≡ false → is_read_cause cause ≡ false
not_log-not_read (OfLog error) h = cc h
not_log-not_read (Table error) h = refl
not_log-not_read UnknownSender h = refl

-- what is not of the reader is told at the last of the lines behind it
pub at_last : (behind line : ℕ) (cause : CollectCause) → is_log_cause cause ≡ false → line ≡ behind → IsAtLine behind line cause
at_last behind line (OfLog error) h is = cc h
at_last behind line (Table error) h is = is
at_last behind line UnknownSender h is = is

pub tell : {W J S O : Type 0} (P : Type 0) (b r : Bool) → IfElse b W J → (W → S) → (J → O) → r ≡ false → IfElse b S (IfElse r P O)
tell P true r w f g k = f w
tell P false false w f g k = g w
tell P false true w f g k = cc k

-- a reader that answers no error had not stopped
pub runs : {A E P : Type 0} (b : Bool) (x : A) (e : E) → (b ≡ true → (Ok x ≡ Err e) × P) → b ≡ false
runs true x e h = let k = (h refl).0 in cc k
runs false x e h = refl

pub again : {A B : Type 0} (e : LogError) (n m : ℕ) → ◌≡◌ {A = Result B LogError} (Err e) (Err (record { code = codes.Ended; line = n + 1 })) → n ≡ m
    → ◌≡◌ {A = Result A CollectError} (Err (record { line = e.line; cause = OfLog e })) (Err (record { line = m + 1; cause = OfLog (record { code = codes.Ended; line = m + 1 }) }))
again e n m h k =
    let q : e ≡ record { code = codes.Ended; line = n + 1 } = cc h in
    ap (λ (x : LogError). Err (record { line = x.line; cause = OfLog x })) q ∙ ap (λ (j : ℕ). Err (record { line = j + 1; cause = OfLog (record { code = codes.Ended; line = j + 1 }) })) k
