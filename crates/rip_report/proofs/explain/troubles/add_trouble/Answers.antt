use Rattle.std.proofs.Common.{refl}
use Rattle.rip_report.proofs.OutLemmas.{adds_one, adds_then}
use Rattle.rip_report.proofs.explain.troubles.add_trouble.Goals as goal

pub returns : goal.returns
returns g c =
    let under = c.add_under.ensures in
    adds_one (record { under = under.text; lines = under.is_text; whole = refl }) (adds_then c.push_unclear_line.ensures under.adds)
