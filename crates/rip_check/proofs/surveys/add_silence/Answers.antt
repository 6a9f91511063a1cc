use Rattle.std.proofs.Common.{◌≡◌, ℕ, inl, inr, true, Option, None, Some, ap, is_some, not, sym, ◌∙◌}
use Rattle.std.proofs.lemmas.Bool.Decides.{not_from_Decides}
use Rattle.rip_table.specs.State.{State}
use Rattle.rip_check.specs.Cases.{network_of, told_in}
use Rattle.rip_check.specs.Metrics.{metric_at}
use Rattle.rip_check.specs.Tables.{IsSilent, MayHoldBack}
use Rattle.rip_check.proofs.SilenceLemmas.{none_there, some_there}
use Rattle.rip_check.proofs.SurveyLemmas.{no_speech, no_telling, first_silent_link, more_silence}
use Rattle.rip_check.proofs.surveys.add_silence.Goals as goal
use Rattle.rip_check.proofs.surveys.add_silence.Goals.{then-is_some, else-is_some, then-found, else-found}

is_poison : (o : Option ℕ) → IsSilent o → is_some o ≡ true → o ≡ Some 16
is_poison o (inl none) e = absurd (some_there o e none)
is_poison o (inr is) e = is

here : (t : State) (i p : ℕ) (shown : Option ℕ) → metric_at t i p ≡ shown → IsSilent shown → IsSilent (metric_at t i p)
here t i p shown e silent = rw e silent

pub returns-then-may_hold_back : goal.returns-then-may_hold_back
returns-then-may_hold_back g c = λ r i d was its seen on.
    let case = c.args.case.now in
    let n = network_of case in
    let t = told_in case in
    let old = c.args.found.now in
    let silent = here t i case.prefix c.args.shown seen c.requires in
    record {
      speech = no_speech n t r case.prefix i c.args.link d its silent old.metric old.another was.speech;
      telling = no_telling n t r case.prefix i c.args.link d its silent old.not_here was.telling;
      silence = more_silence n t r case.prefix i c.args.link d its silent c.lawful.ensures.network old.silent old.blocked was.silence (elim c.if-is_some.branch [
        | then-is_some w ↦ inl (some_there old.silent (sym c.is_some.ensures ∙ w.if-is_some.true))
        | else-is_some w ↦ inr ((w.may_hold_back.ensures r on).0 (sym w.value-is ∙ c.if-may_hold_back.true))
      ]);
    }

pub returns-after-found : goal.returns-after-found
returns-after-found g c = λ r i d was its seen on.
    let case = c.args.case.now in
    let n = network_of case in
    let t = told_in case in
    let old = c.args.found.now in
    let silent = here t i case.prefix c.args.shown seen c.requires in
    let none : old.silent ≡ None = elim c.if-is_some.branch [
      | then-is_some w ↦ cc (w.value-is, c.if-may_hold_back.false)
      | else-is_some w ↦ none_there old.silent (sym c.is_some.ensures ∙ w.if-is_some.false)
    ] in
    let off : MayHoldBack n r case.prefix c.args.link → ⊥ = elim c.if-is_some.branch [
      | then-is_some w ↦ cc (w.value-is, c.if-may_hold_back.false)
      | else-is_some w ↦ not_from_Decides w.may_hold_back.result (w.may_hold_back.ensures r on) (sym w.value-is ∙ c.if-may_hold_back.false)
    ] in
    record {
      speech = no_speech n t r case.prefix i c.args.link d its silent old.metric old.another was.speech;
      telling = no_telling n t r case.prefix i c.args.link d its silent old.not_here was.telling;
      silence = first_silent_link n t r case.prefix i c.args.link d its silent off old.blocked (rw none at was.silence) c.if-found.found
          (λ e. elim c.if-found.branch [
            | then-found w ↦ inl w.if-found.true
            | else-found w ↦ inr (seen ∙ none_there c.args.shown (w.is_none-found.ensures ∙ ap not (sym w.found-is ∙ e)))
          ])
          (λ e. elim c.if-found.branch [
            | then-found w ↦ cc (w.found-is, e)
            | else-found w ↦ (w.if-found.false, seen ∙ is_poison c.args.shown c.requires (w.is_none-found.ensures ∙ ap not (sym w.found-is ∙ e)))
          ]);
    }
