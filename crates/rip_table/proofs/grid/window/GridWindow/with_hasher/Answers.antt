use Rattle.std.proofs.Common.{◌≡◌, ◌∙◌, sym, ap, subst, ℕ, List, length, replicate, None}
use Rattle.rip_table.specs.State.{Fits, IsState}
use Rattle.rip_table.specs.Rows.{IsGrid, rows_of}
use Rattle.rip_table.specs.Window.{Window, new_window, shown}
use Rattle.rip_table.specs.WindowRows.{window_of}
use Rattle.rip_table.proofs.RowLemmas.{grid-planned, length-empty}
use Rattle.rip_table.proofs.WindowLemmas.{new-fits, new-valid, window-new}
use Rattle.rip_table.proofs.grid.window.GridWindow.with_hasher.Goals as goal

pub returns-clause-window : goal.returns-clause-window
returns-clause-window g c =
    let w = length c.args.plan.now.interfaces in
    ap (λ (h : List ℕ). window_of h (rows_of c.add_planned.new.rows.entries)) (c.in_ok-heard.ensures.items_if_clones_equal (λ y h. h) ∙ ap (λ (k : ℕ). replicate k 0) c.interfaces.ensures)
    ∙ ap (window_of (replicate w 0)) c.in_ok-add_planned.ensures.ok
    ∙ window-new c.args.plan.now

pub returns-clause-fits : goal.returns-clause-fits
returns-clause-fits g c = subst (λ (w : Window). Fits c.args.plan.now (shown w)) (sym (returns-clause-window g c)) (new-fits c.args.plan.now)

pub invariant_of-result-3-clause-valid : goal.invariant_of-result-3-clause-valid
invariant_of-result-3-clause-valid g c =
    let w = length c.args.plan.now.interfaces in
    let same : window_of c.in_ok-heard.heard.items (rows_of c.add_planned.new.rows.entries) ≡ new_window c.args.plan.now =
    ap (λ (h : List ℕ). window_of h (rows_of c.add_planned.new.rows.entries)) (c.in_ok-heard.ensures.items_if_clones_equal (λ y h. h) ∙ ap (λ (k : ℕ). replicate k 0) c.interfaces.ensures)
    ∙ ap (window_of (replicate w 0)) c.in_ok-add_planned.ensures.ok
    ∙ window-new c.args.plan.now in
    subst (λ (v : Window). IsState (shown v)) (sym same) (new-valid c.args.plan.now c.lawful.ensures)

pub invariant_of-result-3-clause-grid : goal.invariant_of-result-3-clause-grid
invariant_of-result-3-clause-grid g c =
    let n = c.args.plan.now in
    let w = length n.interfaces in
    let wide : length c.in_ok-heard.heard.items ≡ w = ap (λ (h : List ℕ). length h) (c.in_ok-heard.ensures.items_if_clones_equal (λ y h. h)) ∙ length-empty 0 c.interfaces.result ∙ c.interfaces.ensures in
    subst (λ (v : ℕ). IsGrid v (rows_of c.add_planned.new.rows.entries)) (sym wide) (subst (IsGrid w) (sym c.in_ok-add_planned.ensures.ok) (grid-planned None w n.prefixes))
