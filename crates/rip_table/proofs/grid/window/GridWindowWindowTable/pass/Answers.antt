use Rattle.std.proofs.Common.{◌≡◌, ◌∙◌, ◌-◌, sym, ap, subst, refl, ℕ, List, length, map}
use Rattle.rip_table.specs.State.{Fits, IsState}
use Rattle.rip_table.specs.Rows.{IsGrid, rows_of}
use Rattle.rip_table.specs.Window.{Window, passed, shown}
use Rattle.rip_table.specs.WindowRows.{window_of}
use Rattle.rip_table.proofs.WindowLemmas.{length_passed, passed-grid, passed-is, passed-valid, same_fits}
use Rattle.rip_table.proofs.grid.window.GridWindowWindowTable.pass.Goals as goal

pub returns-clause-window : goal.returns-clause-window
returns-clause-window g c =
    let heard = c.args.self.now.heard.items in
    let rows = rows_of c.args.self.now.rows.entries in
    ap (λ (h : List ℕ). window_of h (rows_of c.pass_rows.new.rows.entries)) c.pass_marks.ensures
    ∙ ap (window_of (map (λ left. left - 1) heard)) c.pass_rows.ensures
    ∙ passed-is heard rows

pub invariant_of-self-clause-valid : goal.invariant_of-self-clause-valid
invariant_of-self-clause-valid g c =
    let heard = c.args.self.now.heard.items in
    let rows = rows_of c.args.self.now.rows.entries in
    let same : window_of c.pass_marks.new.heard.items (rows_of c.pass_rows.new.rows.entries) ≡ passed (window_of heard rows) =
    ap (λ (h : List ℕ). window_of h (rows_of c.pass_rows.new.rows.entries)) c.pass_marks.ensures ∙ ap (window_of (map (λ left. left - 1) heard)) c.pass_rows.ensures ∙ passed-is heard rows in
    subst (λ (w : Window). IsState (shown w)) (sym same) (passed-valid (window_of c.args.self.now.heard.items (rows_of c.args.self.now.rows.entries)) c.args.self.now.valid)

pub invariant_of-self-clause-grid : goal.invariant_of-self-clause-grid
invariant_of-self-clause-grid g c =
    let heard = c.args.self.now.heard.items in
    let wide = ap (λ (h : List ℕ). length h) c.pass_marks.ensures ∙ length_passed heard in
    subst (λ (n : ℕ). IsGrid n (rows_of c.pass_rows.new.rows.entries)) (sym wide)
    (subst (IsGrid (length heard)) (sym c.pass_rows.ensures) (passed-grid (length heard) (rows_of c.args.self.now.rows.entries) c.args.self.now.grid))

pub returns-clause-fits : goal.returns-clause-fits
returns-clause-fits g c n fits =
    let w = window_of c.args.self.now.heard.items (rows_of c.args.self.now.rows.entries) in
    subst (λ (v : Window). Fits n (shown v)) (sym (returns-clause-window g c)) (same_fits n (shown w) (shown (passed w)) refl refl fits)
