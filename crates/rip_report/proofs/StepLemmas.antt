-- A run of `watch` reads in step with what it prints.
use Rattle.std.proofs.Common.{◌≡◌, ◌⊎◌, ◌+◌, ◌++◌, ◌≤◌, ◌∙◌, ℕ, Bool, false, List, [], length, Option, None, Some, inl, inr, refl, sym, ap, subst, arith, append-nil}
use Rattle.std.proofs.lemmas.List.{append_cancel_left}
use Rattle.std.specs.Io.KnownBytes.{prepend_known}
use Rattle.rip_log.specs.declared.sink.Sink.{Ghosts as SinkOf}
use Rattle.rip_log.specs.declared.source.Source.{Ghosts as SourceOf}
use Rattle.rip_log.specs.Cuts.{DropsLines, PassesLines}
use Rattle.rip_log.specs.Taken.{Taken}
use Rattle.rip_log.specs.TimedCall.{TakesTimed, timed_held, timed_source, timed_text}
use Rattle.rip_log.specs.TimedText.{TimedSaid}
use Rattle.rip_log.specs.Wholes.{Begins, OfWhole, rest_of}
use Rattle.rip_log.specs.declared.limits.TheConstants.{MOST_HELD_BYTES}
use Rattle.rip_log.specs.declared.timed.reader.TimedReader.{TimedReader}
use Rattle.rip_log.proofs.PassLemmas.{drops_line, drops_trans}
use Rattle.rip_log.proofs.TakenLemmas.{Took-none}
use Rattle.rip_plan.specs.Network.{Network}
use Rattle.rip_table.specs.Scenes.{new_view}
use Rattle.rip_report.specs.Films.{HasShownOf, IsInStep, IsUnreadTo, Stage}
use Rattle.rip_report.specs.Films.HasShown.{nothing}
use Rattle.rip_report.specs.Outs.{AddsOne, IsOnItsWay, Progress}
use Rattle.rip_report.specs.Runs.{ReadsInStep, StaysInStep}
use Rattle.rip_report.specs.Sent.{sink_state}
use Rattle.rip_report.proofs.GivenLemmas.{rest_given}
use Rattle.rip_report.proofs.StopLemmas.{nothing_left, of_lines}

-- one line more was taken off a text, and none behind it
pub drops_timed : (text t left : Option (List ℕ)) (said : Option TimedSaid) (k : ℕ) → DropsLines text 0 t k → TakesTimed t left said → DropsLines text 0 left (k + 1)
drops_timed text None left said k drops takes = drops_trans text None left 0 k (k + 1) drops tt
drops_timed text (Some t) left said k drops takes = drops_trans text (Some t) left 0 k (k + 1) drops (drops_line (Some t) left k (k + 1) takes.0 takes.1 (omega arith))

-- what holds before a line that is read
pub in_step : {K : Type 0} (taken : K → Taken) (broken : K → Bool) (n : Network) (window : ℕ) (until : Bool) (before now : Progress) (text to_come left : Option (List ℕ)) (k : ℕ) (stage : Stage)
    → PassesLines text 0 to_come k → AddsOne before now (HasShownOf n window until text to_come k stage) → IsOnItsWay taken broken before.start now.text → DropsLines text 0 left (k + 1)
    → IsInStep taken broken n window until before text left
in_step taken broken n window until before now text to_come left k stage passed shown way drops = record {
  behind = k;
  to_come = to_come;
  passed = passed;
  stage = stage;
  printed = shown.text;
  shown = shown.is_text;
  way = subst (λ (t : List ℕ). IsOnItsWay taken broken before.start t) shown.adds.text way;
  drops = drops;
}

-- nothing was printed yet
pub no_text_yet : {K : Type 0} (taken : K → Taken) (broken : K → Bool) (out : K) → IsOnItsWay taken broken (sink_state taken broken out) []
no_text_yet taken broken out = record {
  sink = out;
  held = [];
  writes = record { ok = record { front = []; sent = Took-none (taken out); whole = refl }; err = tt; failed = λ e. absurd (cc e); kept = λ e. refl };
  few = omega arith;
}

-- of a log that was not touched
pub untouched_in_step : {R K : Type 0} (source : SourceOf R) (sink : SinkOf K) (window : ℕ) (until : Bool) (n : Network) (log : R) (out : K) → StaysInStep source sink window until n log log out
untouched_in_step source sink window until n log out bytes gave =
    let none : bytes ≡ [] = sym (append_cancel_left (source.given log) [] bytes (append-nil (source.given log) ∙ gave)) in
    inr (subst (ReadsInStep sink.taken sink.broken n window until out) (sym none) (record {
      before = 0;
      to_come = Some [];
      passed = ([], refl, refl);
      stage = record { begun = false; second = 0; last = []; view = new_view n };
      printed = [];
      shown = λ to_come says. (to_come, says, nothing refl refl refl refl refl);
      way = no_text_yet sink.taken sink.broken out;
      stops = of_lines [] [] 1 ([], [], refl, refl, omega arith) (omega arith);
    }))

-- of a log of which lines were read
pub stays_in_step : {R K : Type 0} (source : SourceOf R) (sink : SinkOf K) (window : ℕ) (until : Bool) (n : Network) (log : R) (out : K) (before after : TimedReader R) (start : Progress)
    → ((coming : R → Option (List ℕ)) → timed_text coming before ≡ coming log) → length (timed_held after) ≤ MOST_HELD_BYTES
    → start.start ≡ sink_state sink.taken sink.broken out → start.text ≡ []
    → OfWhole source.given source.at_end (timed_source after) (λ coming. IsUnreadTo (source.broken (timed_source after)) (timed_text coming before)
    ⊎ IsInStep sink.taken sink.broken n window until start (timed_text coming before) (timed_text coming after))
    → StaysInStep source sink window until n log (timed_source after) out
stays_in_step {R} {K} source sink window until n log out before after start front few starts empty all bytes gave =
    let whole = source.given log ++ bytes in
    let split : whole ≡ source.given (timed_source after) ++ [] = sym gave ∙ sym (append-nil (source.given (timed_source after))) in
    let begins : Begins whole (source.given (timed_source after)) (source.at_end (timed_source after)) = record { left = []; split = split; ended = λ _. refl } in
    let old : timed_text (rest_of source.given whole) before ≡ Some bytes = front (rest_of source.given whole) ∙ rest_given source.given log bytes in
    let new : timed_text (rest_of source.given whole) after ≡ Some (timed_held after) =
    ap (prepend_known (timed_held after)) (nothing_left source.given (timed_source after) whole split) ∙ ap Some (append-nil (timed_held after)) in
    by_step (subst (λ (t : Option (List ℕ)). IsUnreadTo (source.broken (timed_source after)) t ⊎ IsInStep sink.taken sink.broken n window until start t (Some (timed_held after))) old
    (subst (λ (t : Option (List ℕ)). IsUnreadTo (source.broken (timed_source after)) (timed_text (rest_of source.given whole) before)
    ⊎ IsInStep sink.taken sink.broken n window until start (timed_text (rest_of source.given whole) before) t) new (all whole begins)))
  where
    by_step : IsUnreadTo (source.broken (timed_source after)) (Some bytes) ⊎ IsInStep sink.taken sink.broken n window until start (Some bytes) (Some (timed_held after))
        → IsUnreadTo (source.broken (timed_source after)) (Some bytes) ⊎ ReadsInStep sink.taken sink.broken n window until out bytes
    by_step (inl unread) = inl unread
    by_step (inr step) = inr (record {
      before = step.behind;
      to_come = step.to_come;
      passed = step.passed;
      stage = step.stage;
      printed = step.printed;
      shown = step.shown;
      way = rw (starts, empty) at step.way;
      stops = of_lines bytes (timed_held after) (step.behind + 1) step.drops few;
    })
