use Rattle.std.proofs.Common.{◌≡◌, ◌∙◌, sym, ap, subst, ℕ, Bool, List, length, replicate, false, None, Option}
use Rattle.rip_table.specs.Rows.{IsGrid, Rows, cell, grid_state, heads, rows_of}
use Rattle.rip_table.proofs.FitLemmas.{Fits-new}
use Rattle.rip_table.proofs.NewLemmas.{empty-is, grid-new, length-none}
use Rattle.rip_table.proofs.RowLemmas.{grid-planned, heads-planned}
use Rattle.rip_table.proofs.CellLemmas.{cell-planned}
use Rattle.rip_table.proofs.grid.GridTable.with_hasher.Goals as goal

pub invariant_of-result-3-clause-valid : goal.invariant_of-result-3-clause-valid
invariant_of-result-3-clause-valid g c =
    let n = c.args.plan.now in
    let w = length n.interfaces in
    let rows = c.in_ok-add_planned.ensures.ok in
    empty-is n c.lawful.ensures (grid_state c.in_ok-heard.heard.items (rows_of c.add_planned.new.rows.entries)) (ap heads rows ∙ heads-planned None w n.prefixes)
    (λ i p. ap (λ (r : Rows (Option ℕ)). cell None r i p) rows ∙ cell-planned None w n.prefixes i p)

pub invariant_of-result-3-clause-grid : goal.invariant_of-result-3-clause-grid
invariant_of-result-3-clause-grid g c =
    let n = c.args.plan.now in
    let w = length n.interfaces in
    let heard = c.in_ok-heard.heard.items in
    let rows = c.in_ok-add_planned.ensures.ok in
    let wide : length heard ≡ w = ap length c.in_ok-heard.ensures ∙ length-none c.interfaces.result ∙ c.interfaces.ensures in
    subst (λ (v : ℕ). IsGrid v (rows_of c.add_planned.new.rows.entries)) (sym wide) (subst (IsGrid w) (sym rows) (grid-planned None w n.prefixes))

pub returns-clause-state : goal.returns-clause-state
returns-clause-state g c =
    let n = c.args.plan.now in
    let w = length n.interfaces in
    let rows = c.in_ok-add_planned.ensures.ok in
    ap (λ (h : List Bool). grid_state h (rows_of c.add_planned.new.rows.entries)) (c.in_ok-heard.ensures ∙ ap (λ (k : ℕ). replicate k false) c.interfaces.ensures)
    ∙ ap (grid_state (replicate w false)) rows
    ∙ grid-new n

pub returns-clause-fits : goal.returns-clause-fits
returns-clause-fits g c = Fits-new c.args.plan.now (grid_state c.in_ok-heard.heard.items (rows_of c.add_planned.new.rows.entries)) (returns-clause-state g c)
