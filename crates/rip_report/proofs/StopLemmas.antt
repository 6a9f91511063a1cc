-- What a run pulls behind the line that refuses a log.
use Rattle.std.proofs.Common.{◌≡◌, ◌≤◌, ◌∙◌, ℕ, Bool, List, [], ◌++◌, length, Option, None, Some, Result, Ok, Err, refl, sym, ap, subst, arith, append-nil}
use Rattle.std.specs.Prelude.{IfErr, IfOk, IfSome}
use Rattle.std.proofs.lemmas.List.{append_cancel_left}
use Rattle.std.proofs.lemmas.Option.{same_Some}
use Rattle.std.specs.Io.KnownBytes.{prepend_known}
use Rattle.rip_plan.specs.Network.{Network}
use Rattle.rip_plan.specs.Relations.{IsLawful}
use Rattle.rip_log.specs.Cuts.{DropsLines}
use Rattle.rip_log.specs.Lines.{lines_of}
use Rattle.rip_log.specs.LogText.{AreLines}
use Rattle.rip_log.specs.Feeds.{held, text}
use Rattle.rip_log.specs.NextCall.{held_by, lines_behind, source_of, text as log_text}
use Rattle.rip_log.specs.Wholes.{Begins, OfWhole, rest_of}
use Rattle.rip_log.specs.declared.limits.TheConstants.{MOST_HELD_BYTES}
use Rattle.rip_log.specs.declared.feed.Feed.{Feed}
use Rattle.rip_log.specs.declared.reader.LogReader.{LogReader}
use Rattle.rip_log.proofs.LineRelations.{AreLines-lines_of}
use Rattle.rip_log.proofs.WholeLemmas.{rest-is}
use Rattle.rip_table.specs.Collects.{is_read_cause}
use Rattle.rip_table.specs.Joined.{Outcome, is_memory, outcome}
use Rattle.rip_table.specs.State.{Fits, IsState, State, new_state}
use Rattle.rip_table.specs.declared.error.CollectError.{CollectError}
use Rattle.rip_table.proofs.OutcomeLemmas.{RefusedLogs}
use Rattle.rip_report.specs.LogRefusals.{refusal_in}
use Rattle.rip_report.specs.ReportText.{LogMakes}
use Rattle.rip_report.specs.Runs.{PullsLittleBehind, StopsBehind}
use Rattle.rip_report.specs.declared.status.RunError.{RunError}
use Rattle.rip_report.specs.declared.status.Status.{Status}
use Rattle.rip_report.proofs.GivenLemmas.{rest_given}
use Rattle.rip_report.proofs.ReportLemmas.{LogWords, as_read, of_causes}

-- of lines that were taken off a text the others are those of what is left
pub of_lines : (bytes behind : List ℕ) (line : ℕ) → DropsLines (Some bytes) 0 (Some behind) line → length behind ≤ MOST_HELD_BYTES → StopsBehind bytes line
of_lines bytes behind line drops held = record {
  front = drops.0;
  behind = behind;
  whole = drops.2;
  lines = drops.1;
  others = lines_of behind;
  are_lines = subst (AreLines bytes) drops.3 (AreLines-lines_of bytes);
  are_others = AreLines-lines_of behind;
  few = omega (arith, drops.4);
  held = held;
}

-- nothing is left of what was given
pub nothing_left : {R : Type 0} (given : R → List ℕ) (s : R) (whole : List ℕ) → whole ≡ given s ++ [] → rest_of given whole s ≡ Some []
unfolding rest_of
nothing_left given s whole split = ap Some (rest-is whole (given s) [] split)

-- all that the source gave was taken as lines, or is held by the buffer: so a reading stops at a line
pub stops_at : {R : Type 0} (given : R → List ℕ) (at_end : R → Bool) (from : R) (before after : Feed R) → ((coming : R → Option (List ℕ)) → text coming before ≡ coming from)
    → length (held after) ≤ MOST_HELD_BYTES → (line : ℕ)
    → OfWhole given at_end after.source (λ coming. DropsLines (text coming before) 0 (text coming after) line) → PullsLittleBehind given from after.source line
stops_at given at_end from before after front few line drops bytes gave =
    let whole = given from ++ bytes in
    let split : whole ≡ given after.source ++ [] = sym gave ∙ sym (append-nil (given after.source)) in
    let begins : Begins whole (given after.source) (at_end after.source) = record { left = []; split = split; ended = λ _. refl } in
    let old : text (rest_of given whole) before ≡ Some bytes = front (rest_of given whole) ∙ rest_given given from bytes in
    let new : text (rest_of given whole) after ≡ Some (held after) =
    ap (prepend_known (held after)) (nothing_left given after.source whole split) ∙ ap Some (append-nil (held after)) in
    of_lines bytes (held after) line
    (subst (λ (t : Option (List ℕ)). DropsLines t 0 (Some (held after)) line) old
    (subst (λ (t : Option (List ℕ)). DropsLines (text (rest_of given whole) before) 0 t line) new (drops whole begins))) few

-- so the reading of a log stops at the line of its error
pub stops_at_error : {R : Type 0} (given : R → List ℕ) (at_end : R → Bool) (log : R) (before after : LogReader R) → ((coming : R → Option (List ℕ)) → log_text coming before ≡ coming log)
    → lines_behind before ≡ 0 → length (held_by after) ≤ MOST_HELD_BYTES → (collected : Result (Unit {0}) CollectError)
    → IfErr collected (λ e. OfWhole given at_end (source_of after) (λ coming. DropsLines (log_text coming before) (lines_behind before) (log_text coming after) e.line))
    → IfOk (refusal_in collected) (λ refusal. IfSome refusal (λ e. PullsLittleBehind given log (source_of after) e.line))
stops_at_error given at_end log before after front none few (Ok done) drops = tt
stops_at_error given at_end log before after front none few (Err e) drops =
    let front_drops : OfWhole given at_end (source_of after) (λ coming. DropsLines (log_text coming before) 0 (log_text coming after) e.line) =
    λ whole begins. subst (λ (n : ℕ). DropsLines (log_text (rest_of given whole) before) n (log_text (rest_of given whole) after) e.line) none (drops whole begins) in
    of_causes (λ refusal. IfSome refusal (λ e. PullsLittleBehind given log (source_of after) e.line)) e (is_memory e.cause) (is_read_cause e.cause)
    (λ fine read. stops_at given at_end log before.window.feed after.window.feed front few e.line front_drops)

-- a source that was not touched gave nothing
pub stops_untouched : {R : Type 0} (given : R → List ℕ) (s : R) (line : ℕ) → PullsLittleBehind given s s line
stops_untouched given s line bytes gave =
    let nothing : bytes ≡ [] = sym (append_cancel_left (given s) [] bytes (append-nil (given s) ∙ gave)) in
    subst (λ (b : List ℕ). StopsBehind b line) (sym nothing) (of_lines [] [] line ([], [], refl, refl, omega arith) (omega arith))

-- a log is refused in one way
pub one_refusal : (words : LogWords) (refused : RefusedLogs) (n : Network) (log : List ℕ) (s t : State) (a b : Option CollectError) → IsLawful n → IsState (new_state n) → Fits n (new_state n)
    → LogMakes n log s a → LogMakes n log t b → a ≡ b
one_refusal words refused n log s t a b lawful valid fits (first, says, made) (second, said, makes) =
    let same = same_Some _ _ (sym (as_read words log first.records first.fault says) ∙ as_read words log second.records second.fault said) in
    let left = (refused n (new_state n) s first a lawful valid fits).1 made in
    let right = (refused n (new_state n) t second b lawful valid fits).1 makes in
    ap (λ (o : Outcome). o.fault) (sym left ∙ ap (outcome n (new_state n)) same ∙ right)

-- what is answered of a log that is refused, where the line of the refusal is known
pub stops_there : {R : Type 0} (given : R → List ℕ) (old new : R) (a b : CollectError) (result : Result Status RunError) → ◌≡◌ {A = Option CollectError} (Some a) (Some b)
    → PullsLittleBehind given old new a.line → IfOk result (λ status. PullsLittleBehind given old new b.line)
stops_there given old new a b (Ok status) same stops = subst (λ (e : CollectError). PullsLittleBehind given old new e.line) (same_Some a b same) stops
stops_there given old new a b (Err f) same stops = tt

-- a log of which nothing is refused is not refused
pub never_refused : (P : Type 0) (e : CollectError) → ◌≡◌ {A = Option CollectError} None (Some e) → P
never_refused P e h = absurd (cc)

pub if_done : (P : Type 0) (result : Result Status RunError) → P → IfOk result (λ status. P)
if_done P (Ok status) h = h
if_done P (Err f) h = tt
