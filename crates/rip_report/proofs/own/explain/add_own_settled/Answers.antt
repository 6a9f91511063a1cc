use Rattle.rip_report.specs.OwnText.OwnExplainText.{a_settled}
use Rattle.rip_report.proofs.OutLemmas.{adds_one, adds_then}
use Rattle.rip_report.proofs.own.explain.add_own_settled.Goals as goal

pub returns-clause-adds : goal.returns-clause-adds
returns-clause-adds g c = λ all.
    let lines = c.add_pairs.ensures in
    record { text = adds_one (a_settled lines.text c.requires.right lines.is_text) (adds_then c.push_own_settled_line.ensures lines.adds); nothing = tt }
