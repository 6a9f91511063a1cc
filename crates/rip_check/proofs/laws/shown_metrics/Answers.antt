use Rattle.rip_check.proofs.ToldTableLemmas.{shown_metric}
use Rattle.rip_check.proofs.RouteLemmas.{speaks}
use Rattle.rip_check.specs.Told.{told}
use Rattle.rip_check.proofs.laws.shown_metrics.Goals as goal

pub returns : goal.returns
returns c n s r p route plan two lt fits small =
    let (i, l, cost, its, e) = speaks n plan (told n s) r p route two fits small in
    (i, l, cost, its, shown_metric n s i r l cost p route.metric its lt small e)
