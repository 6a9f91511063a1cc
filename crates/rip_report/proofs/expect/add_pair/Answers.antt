use Rattle.std.proofs.Common.{refl}
use Rattle.rip_report.proofs.OutLemmas.{adds_one, adds_then}
use Rattle.rip_report.proofs.expect.add_pair.Goals as goal

pub returns : goal.returns
returns g c =
    let here = c.add_way.ensures in
    let over = c.add_over.ensures in
    let nowhere = c.add_way-2.ensures in
    adds_one
    (record { here = here.text; over = over.text; nowhere = nowhere.text; here_line = here.is_text; over_lines = over.is_text; nowhere_line = nowhere.is_text; whole = refl })
    (adds_then (adds_then here.adds over.adds) nowhere.adds)
