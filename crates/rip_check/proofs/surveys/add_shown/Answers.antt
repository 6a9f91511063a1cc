use Rattle.std.proofs.Common.{◌≡◌, ◌∙◌, sym}
use Rattle.rip_check.specs.Cases.{network_of, told_in}
use Rattle.rip_check.proofs.PlanLemmas.{attached_test}
use Rattle.rip_check.proofs.surveys.add_shown.Goals as goal
use Rattle.rip_check.proofs.surveys.add_shown.Goals.{in_default-via-in-Some+else-metric-lt16, in_default-via-in_default}

pub returns-in-Some : goal.returns-in-Some
returns-in-Some g c =
    let case = c.args.case.now in
    λ r i d was its seen exact. c.add_speech.ensures (network_of case) (told_in case) r i c.args.link d case.prefix was its (seen ∙ c.in-Some.is)
    (attached_test (network_of case) r case.prefix c.args.link c.args.attached c.eq.result exact c.eq.ensures)

pub returns-in_default : goal.returns-in_default
returns-in_default g c = λ r i d was its seen exact.
    let same : c.args.shown ≡ c.in_default.shown = elim c.in_default.branch [
      | in_default-via-in-Some+else-metric-lt16 w ↦ w.in-Some.is ∙ sym w.shown-is
      | in_default-via-in_default w ↦ sym w.shown-is
    ] in
    c.add_silence.ensures r i d was its (seen ∙ same) exact
