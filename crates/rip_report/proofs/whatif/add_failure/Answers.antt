use Rattle.std.proofs.Common.{refl}
use Rattle.rip_report.proofs.OutLemmas.{adds_one, adds_then}
use Rattle.rip_report.proofs.whatif.add_failure.Goals as goal

pub returns-clause-text : goal.returns-clause-text
returns-clause-text g c =
    let under = c.add_under.ensures in
    adds_one (record { impact = c.impact-impact.result; under = under.text; costs = c.impact-impact.ensures.impact; told = under.is_text; whole = refl })
    (adds_then c.push_failure_line.ensures under.adds)
