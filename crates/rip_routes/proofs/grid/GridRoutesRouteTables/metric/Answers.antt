use Rattle.std.proofs.Common.{◌∙◌, ◌<◌, sym, ap, arith, length}
use Rattle.rip_table.proofs.RowLemmas.{row-width}
use Rattle.rip_routes.specs.OwnTables.{OwnRoute}
use Rattle.rip_routes.proofs.AskLemmas.{asked, metric_none, metric_some}
use Rattle.rip_routes.proofs.grid.GridRoutesRouteTables.metric.Goals as goal

pub index-requires-2 : goal.index-requires-2
index-requires-2 g c =
    let row = c.index.result.now in
    let listed = c.args.self.now.listed in
    let wide = row-width c.args.self.now.rows.entries c.args.k (length listed.items) row c.args.self.now.grid c.index.ensures in
    let ok = row.ok.0 in
    let is = listed.ok.0 in
    omega (arith, wide, ok, is)

pub returns-in-Some : goal.returns-in-Some
returns-in-Some g c =
    let self = c.args.self.now in
    let within : c.args.router < length self.listed.items = let is = self.listed.ok.0 in omega (arith, is) in
    let place = asked self.listed.items self.rows.entries c.args.router c.args.k (length self.listed.items) c.index.result.now c.index-2.result.now self.valid.differ self.grid c.requires c.index.ensures within c.index-2.ensures in
    metric_some c.index-2.result.now c.in-Some.metric (sym c.metric.ensures ∙ c.in-Some.is) ∙ sym (ap (λ (x : OwnRoute). x.metric) place)

pub returns-in-None : goal.returns-in-None
returns-in-None g c =
    let self = c.args.self.now in
    let within : c.args.router < length self.listed.items = let is = self.listed.ok.0 in omega (arith, is) in
    let place = asked self.listed.items self.rows.entries c.args.router c.args.k (length self.listed.items) c.index.result.now c.index-2.result.now self.valid.differ self.grid c.requires c.index.ensures within c.index-2.ensures in
    c.infinity-in-None.ensures ∙ metric_none c.index-2.result.now (sym c.metric.ensures ∙ c.in-None.is) ∙ sym (ap (λ (x : OwnRoute). x.metric) place)
