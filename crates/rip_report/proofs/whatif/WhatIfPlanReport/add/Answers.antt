use Rattle.rip_report.specs.WhatifText.{failure_texts}
use Rattle.rip_report.proofs.OutLemmas.{adds_one, adds_then}
use Rattle.rip_report.proofs.whatif.WhatIfPlanReport.add.Goals as goal

pub returns : goal.returns
returns g c =
    let links = c.add_kind-links.ensures.text in
    let routers = c.add_kind-routers.ensures.text in
    let text = failure_texts links.text routers.text c.add_kind-links.result c.add_kind-routers.result links.is_text routers.is_text c.add_kind-links.ensures.count c.add_kind-routers.ensures.count in
    record { text = adds_one text (adds_then c.push_counts_line.ensures (adds_then links.adds (adds_then routers.adds c.push_losing_line.ensures))); nothing = tt }
