use Rattle.std.proofs.Common.{◌≡◌, ◌∙◌, sym, ap, subst, ℕ, length, arith, length-append}
use Rattle.rip_table.specs.State.{Fits, IsState}
use Rattle.rip_table.specs.Rows.{IsGrid, rows_of}
use Rattle.rip_table.specs.Window.{Window, forgotten, shown}
use Rattle.rip_table.specs.WindowRows.{kept_rows, window_of}
use Rattle.rip_table.proofs.RowLemmas.{length-heads, length-rows}
use Rattle.rip_table.proofs.ForgetLemmas.{forgotten-fits, forgotten-valid, kept-grid, kept-is}
use Rattle.rip_table.proofs.grid.window.GridWindowWindowTable.forget.Goals as goal

pub drop_rows-requires : goal.drop_rows-requires
drop_rows-requires g c =
    let n = c.args.plan.now in
    let es = c.args.self.now.rows.entries in
    omega (arith, c.prefixes.ensures, length-rows es, length-heads (rows_of es), ap length c.requires.prefixes, length-append n.prefixes c.requires.others)

pub returns-clause-window : goal.returns-clause-window
returns-clause-window g c =
    let heard = c.args.self.now.heard.items in
    let rows = rows_of c.args.self.now.rows.entries in
    ap (window_of heard) (c.drop_rows.ensures ∙ ap (λ (k : ℕ). kept_rows k rows) c.prefixes.ensures)
    ∙ kept-is c.args.plan.now heard rows c.requires c.args.self.now.valid.differ c.args.self.now.grid

pub returns-clause-fits : goal.returns-clause-fits
returns-clause-fits g c =
    let w = window_of c.args.self.now.heard.items (rows_of c.args.self.now.rows.entries) in
    subst (λ (v : Window). Fits c.args.plan.now (shown v)) (sym (returns-clause-window g c)) (forgotten-fits c.args.plan.now w c.requires)

pub invariant_of-self-clause-valid : goal.invariant_of-self-clause-valid
invariant_of-self-clause-valid g c =
    let w = window_of c.args.self.now.heard.items (rows_of c.args.self.now.rows.entries) in
    let heard = c.args.self.now.heard.items in
    let rows = rows_of c.args.self.now.rows.entries in
    let same : window_of heard (rows_of c.drop_rows.new.rows.entries) ≡ forgotten c.args.plan.now w =
    ap (window_of heard) (c.drop_rows.ensures ∙ ap (λ (k : ℕ). kept_rows k rows) c.prefixes.ensures) ∙ kept-is c.args.plan.now heard rows c.requires c.args.self.now.valid.differ c.args.self.now.grid in
    subst (λ (v : Window). IsState (shown v)) (sym same) (forgotten-valid c.args.plan.now w c.args.self.now.valid)

pub invariant_of-self-clause-grid : goal.invariant_of-self-clause-grid
invariant_of-self-clause-grid g c =
    let n = length c.args.self.now.heard.items in
    subst (IsGrid n) (sym c.drop_rows.ensures) (kept-grid c.prefixes.result n (rows_of c.args.self.now.rows.entries) c.args.self.now.grid)
