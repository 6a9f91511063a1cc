use Rattle.std.proofs.Common.{refl}
use Rattle.rip_report.specs.ExplainText.{OfferLines, ShownLines}
use Rattle.rip_report.proofs.OutLemmas.{adds_one, adds_then}
use Rattle.rip_report.proofs.explain.places.add_place.Goals as goal

pub returns : goal.returns
returns g c =
    let r = c.args.place.now.router in
    let case = c.new-case.result in
    let shown = c.add_shown.ensures in
    let direct = c.add_direct.ensures in
    let offers = c.add_offers.ensures in
    let shown_of : ShownLines case.plan.now (g.T.Table.state case.table.now) r case.prefix shown.text = shown.is_text in
    let offers_of : OfferLines case.plan.now (g.T.Table.state case.table.now) r case.prefix offers.text = offers.is_text in
    adds_one (record {
      shown = shown.text;
      direct = direct.text;
      offers = offers.text;
      least = c.args.least;
      shown_lines = rw (c.new-case.ensures.plan, c.new-case.ensures.table, c.new-case.ensures.prefix) at shown_of;
      direct_line = direct.is_text;
      offer_lines = rw (c.new-case.ensures.plan, c.new-case.ensures.table, c.new-case.ensures.prefix) at offers_of;
      is_least = c.requires.least;
      whole = refl;
    })
    (adds_then c.push_unsettled_line.ensures
    (adds_then shown.adds (adds_then c.push_read_route_line.ensures (adds_then direct.adds (adds_then offers.adds c.push_least_line.ensures)))))
