use Rattle.std.proofs.Common.{refl}
use Rattle.rip_report.specs.ExplainText.{OfferLines}
use Rattle.rip_report.proofs.OutLemmas.{adds_one, adds_then}
use Rattle.rip_report.proofs.OwnTextLemmas.{known_hop}
use Rattle.rip_report.proofs.own.explain.add_own_place.Goals as goal

pub push_has_lines-requires-clause-prefix : goal.push_has_lines-requires-clause-prefix
push_has_lines-requires-clause-prefix g c = rw c.requires.told.prefixes at c.requires.place.prefix

pub push_has_lines-requires-clause-links : goal.push_has_lines-requires-clause-links
push_has_lines-requires-clause-links g c =
    let f = c.args.place.now in
    known_hop c.args.plan.now (g.T.Table.state c.args.table.now) (g.G.RouteTables.tables c.args.tables.now) c.lawful.ensures c.requires.own f.router f.prefix

pub returns : goal.returns
returns g c =
    let r = c.args.place.now.router in
    let case = c.new-case.result in
    let direct = c.add_direct.ensures in
    let offers = c.add_offers.ensures in
    let offers_of : OfferLines case.plan.now (g.T.Table.state case.table.now) r case.prefix offers.text = offers.is_text in
    adds_one (record {
      direct = direct.text;
      offers = offers.text;
      least = c.args.least;
      direct_line = direct.is_text;
      offer_lines = rw (c.new-case.ensures.plan, c.new-case.ensures.table, c.new-case.ensures.prefix) at offers_of;
      is_least = c.requires.least;
      whole = refl;
    })
    (adds_then c.push_own_unsettled_line.ensures (adds_then c.push_has_lines.ensures (adds_then direct.adds (adds_then offers.adds c.push_least_line.ensures))))
