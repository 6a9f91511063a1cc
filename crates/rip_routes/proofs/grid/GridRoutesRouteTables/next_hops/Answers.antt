use Rattle.std.proofs.Common.{◌∙◌, ◌<◌, sym, ap, arith, length}
use Rattle.rip_table.proofs.RowLemmas.{row-width}
use Rattle.rip_routes.specs.OwnTables.{OwnRoute}
use Rattle.rip_routes.proofs.AskLemmas.{asked, hops_are}
use Rattle.rip_routes.proofs.grid.GridRoutesRouteTables.next_hops.Goals as goal

pub index-requires-2 : goal.index-requires-2
index-requires-2 g c =
    let row = c.index.result.now in
    let listed = c.args.self.now.listed in
    let wide = row-width c.args.self.now.rows.entries c.args.k (length listed.items) row c.args.self.now.grid c.index.ensures in
    let ok = row.ok.0 in
    let is = listed.ok.0 in
    omega (arith, wide, ok, is)

pub returns : goal.returns
returns g c =
    let self = c.args.self.now in
    let within : c.args.router < length self.listed.items = let is = self.listed.ok.0 in omega (arith, is) in
    let place = asked self.listed.items self.rows.entries c.args.router c.args.k (length self.listed.items) c.index.result.now c.index-2.result.now self.valid.differ self.grid c.requires c.index.ensures within c.index-2.ensures in
    c.hops.ensures ∙ hops_are c.index-2.result.now ∙ sym (ap (λ (x : OwnRoute). x.hops) place)
