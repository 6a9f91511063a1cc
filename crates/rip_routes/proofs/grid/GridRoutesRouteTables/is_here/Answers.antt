use Rattle.std.proofs.Common.{◌∙◌, ◌<◌, sym, ap, arith, length}
use Rattle.rip_table.proofs.RowLemmas.{row-width}
use Rattle.rip_routes.specs.OwnTables.{OwnRoute}
use Rattle.rip_routes.proofs.AskLemmas.{asked, here_is}
use Rattle.rip_routes.proofs.grid.GridRoutesRouteTables.is_here.Goals as goal

pub index-requires-then-router-len : goal.index-requires-then-router-len
index-requires-then-router-len g c =
    let row = c.index.result.now in
    let listed = c.args.self.now.listed in
    let wide = row-width c.args.self.now.rows.entries c.args.k (length listed.items) row c.args.self.now.grid c.index.ensures in
    let ok = row.ok.0 in
    let is = listed.ok.0 in
    omega (arith, wide, ok, is)

pub returns-then-router-len : goal.returns-then-router-len
returns-then-router-len g c =
    let self = c.args.self.now in
    let within : c.args.router < length self.listed.items = let is = self.listed.ok.0 in let below = c.if-router-len.true in let len = c.len.ensures in omega (arith, is, below, len) in
    let place = asked self.listed.items self.rows.entries c.args.router c.args.k (length self.listed.items) c.index.result.now c.index-then-router-len.result.now self.valid.differ self.grid c.requires c.index.ensures
    within c.index-then-router-len.ensures in
    c.is_here.ensures ∙ here_is c.index-then-router-len.result.now ∙ sym (ap (λ (x : OwnRoute). x.here) place)
