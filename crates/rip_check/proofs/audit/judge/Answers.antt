use Rattle.rip_check.specs.declared.verdict.Verdict.TheVariants.{Settled, Unsettled, Unclear as IsUnclear}
use Rattle.rip_check.proofs.CaseLemmas.{in_range_of}
use Rattle.rip_check.proofs.MeaningLemmas.{exactly, settled_places_too, no_tables, arrive}
use Rattle.rip_check.proofs.audit.judge.Goals as goal
use Rattle.rip_check.specs.Told.{told}

pub returns : goal.returns
returns g c =
    let n = c.args.plan.now in
    let shown = (told c.args.plan.now (g.T.Table.state c.args.table.now)) in
    let plan = c.lawful.ensures in
    let range = in_range_of g.T.Table n c.args.table.now c.requires in
    let v = c.decide.result in
    let is = c.decide.ensures in
    record {
      settled = exactly n shown plan range v Settled is;
      places = settled_places_too n shown plan range v is;
      unsettled = λ f. exactly n shown plan range v (Unsettled f) is;
      unclear = λ u. exactly n shown plan range v (IsUnclear u) is;
      no_tables = no_tables n shown plan range v is;
      arrive = λ e T shows. arrive n shown plan range ((exactly n shown plan range v Settled is).0 e) T shows;
    }
