use Rattle.rip_report.specs.ExplainText.{a_settled}
use Rattle.rip_report.proofs.OutLemmas.{adds_one, adds_then}
use Rattle.rip_report.proofs.explain.add_settled.Goals as goal

pub returns : goal.returns
returns g c = λ all.
    let lines = c.add_pairs.ensures in
    record { text = adds_one (a_settled lines.text c.requires.right lines.is_text) (adds_then c.push_settled_line.ensures lines.adds); nothing = tt }
