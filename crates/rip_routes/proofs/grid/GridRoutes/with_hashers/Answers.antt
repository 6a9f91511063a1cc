use Rattle.std.proofs.Common.{◌≡◌, ◌∙◌, sym, ap, subst, ℕ, Bool, List, length, replicate, false, None}
use Rattle.rip_table.specs.Rows.{IsGrid, rows_of}
use Rattle.rip_table.proofs.NewLemmas.{length-none}
use Rattle.rip_table.proofs.RowLemmas.{grid-planned}
use Rattle.rip_routes.specs.Judging.{grid_tables}
use Rattle.rip_routes.specs.TableFacts.{AreGood}
use Rattle.rip_routes.specs.Ways.{AreWays}
use Rattle.rip_routes.proofs.NewLemmas.{new_good, new_tables_are, new_ways}
use Rattle.rip_routes.proofs.grid.GridRoutes.with_hashers.Goals as goal

pub invariant_of-result : goal.invariant_of-result
invariant_of-result g c =
    let n = c.args.plan.now in
    let w = length n.routers in
    let listed = c.in_ok-listed.listed.items in
    let rows = c.in_ok-add_planned.ensures.ok in
    let wide : length listed ≡ w = ap length c.in_ok-listed.ensures ∙ length-none c.routers.result ∙ c.routers.ensures in
    let are = c.in_ok-listed.ensures ∙ ap (λ (k : ℕ). replicate k false) c.routers.ensures in
    record {
      valid = subst AreGood (sym (ap (λ (l : List Bool). grid_tables l (rows_of c.add_planned.new.rows.entries)) are ∙ ap (grid_tables (replicate w false)) rows ∙ new_tables_are n)) (new_good n c.lawful.ensures);
      grid = subst (λ (v : ℕ). IsGrid v (rows_of c.add_planned.new.rows.entries)) (sym wide) (subst (IsGrid w) (sym rows) (grid-planned None w n.prefixes));
    }

pub returns-clause-tables : goal.returns-clause-tables
returns-clause-tables g c =
    let n = c.args.plan.now in
    let w = length n.routers in
    let are = c.in_ok-listed.ensures ∙ ap (λ (k : ℕ). replicate k false) c.routers.ensures in
    ap (λ (l : List Bool). grid_tables l (rows_of c.add_planned.new.rows.entries)) are ∙ ap (grid_tables (replicate w false)) c.in_ok-add_planned.ensures.ok ∙ new_tables_are n

pub returns-clause-ways : goal.returns-clause-ways
returns-clause-ways g c = subst (AreWays c.with_hasher.result.keys) (sym c.in_ok-add_planned.ensures.ok) (new_ways c.args.plan.now c.with_hasher.result.keys c.with_hasher.ensures.empty)
