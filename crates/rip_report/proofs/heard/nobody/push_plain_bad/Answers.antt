use Rattle.std.proofs.Common.{refl}
use Rattle.rip_report.proofs.OutLemmas.{adds_then}
use Rattle.rip_report.proofs.heard.nobody.push_plain_bad.Goals as goal

pub returns : goal.returns
returns g c = λ events heard.
    adds_then (adds_then (adds_then (adds_then (adds_then (c.push_bad_by.ensures events 0 heard refl) (c.push_bad_by-2.ensures events 1 heard refl)) (c.push_bad_by-3.ensures events 2 heard refl))
    (c.push_bad_by-4.ensures events 3 heard refl)) (c.push_bad_by-5.ensures events 4 heard refl)) (c.push_bad_by-6.ensures events 5 heard refl)
