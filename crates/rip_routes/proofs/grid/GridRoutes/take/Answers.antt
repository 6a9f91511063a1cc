use Rattle.std.proofs.Common.{rules, ◌≡◌, ◌∙◌, Err, Ok, Some, None, true, false, inl, inr, length, set, sym, ap, subst, Option, ℕ}
use Rattle.std.specs.Prelude.{unwrap_or}
use Rattle.rip_wire.specs.Prefix.{Block}
use Rattle.rip_plan.specs.Network.{number_of_prefix}
use Rattle.rip_table.specs.Rows.{IsGrid, Rows, cell, heads, rows_of, with_cell, with_row}
use Rattle.rip_table.proofs.RowLemmas.{grid-with_row}
use Rattle.rip_routes.specs.Cells.{added}
use Rattle.rip_routes.specs.Judging.{grid_tables}
use Rattle.rip_routes.specs.OwnTables.{OwnRoute, OwnTables}
use Rattle.rip_routes.specs.TableFacts.{AreGood}
use Rattle.rip_routes.specs.Takes.{Takes}
use Rattle.rip_routes.specs.Telling.{first_route, has_hop}
use Rattle.rip_routes.specs.Ways.{AreWays, hops_of}
use Rattle.rip_routes.specs.declared.error.RoutesCause.TheVariants.{Memory}
use Rattle.rip_routes.proofs.GridLemmas.{cells-grown, tables-grown, ways-grown}
use Rattle.rip_routes.proofs.OwnLemmas.{good_prefix, good_told, told_room}
use Rattle.rip_routes.proofs.TakeLemmas.{fresh_of, grid-written, lacking, refused, tables-written, ways-written}
use Rattle.rip_routes.proofs.grid.GridRoutes.take.Goals as goal

pub returns-in_err-judge-clause-takes : goal.returns-in_err-judge-clause-takes
returns-in_err-judge-clause-takes g c =
    let t = grid_tables c.args.self.now.listed.items (rows_of c.args.self.now.rows.entries) in
    let is : c.from_residual.result ≡ Err (c.in_err-judge.field-0).0 = search rules in
    subst (Takes t c.args.told.now t) (sym is) (refused t t c.args.told.now (c.in_err-judge.field-0).0 (c.in_err-judge.ensures c.args.self.now.listed.items))

pub invariant_of-self : goal.invariant_of-self
invariant_of-self g c =
    let same = ap rows_of (c.in_err-k.ensures.err) in
    record {
      valid = subst (λ (rows : Rows (Option OwnRoute)). AreGood (grid_tables c.args.self.now.listed.items rows)) (sym same) c.args.self.now.valid;
      grid = subst (λ (rows : Rows (Option OwnRoute)). IsGrid (length c.args.self.now.listed.items) rows) (sym same) c.args.self.now.grid;
    }

pub returns-in_err-k-clause-takes : goal.returns-in_err-k-clause-takes
returns-in_err-k-clause-takes g c =
    let listed = c.args.self.now.listed.items in
    let t = grid_tables listed (rows_of c.args.self.now.rows.entries) in
    let u = grid_tables listed (rows_of c.row_at.new.rows.entries) in
    let is : c.from_residual-in_err-k.result ≡ Err Memory = search rules in
    subst (Takes t c.args.told.now u) (sym is) (lacking t u c.args.told.now (c.in_ok-judge.ensures listed) (inl c.in_err-k.ensures.allocates))

pub invariant_of-self-in-Break-branch-3 : goal.invariant_of-self-in-Break-branch-3
invariant_of-self-in-Break-branch-3 g c =
    let listed = c.args.self.now.listed.items in
    let rows = rows_of c.args.self.now.rows.entries in
    let told = c.args.told.now in
    let wide : c.len-width.result ≡ length listed = c.len-width.ensures ∙ c.args.self.now.listed.ok.0 in
    let grows : rows_of c.row_at.new.rows.entries ≡ with_row None (length listed) rows told.prefix = c.in_ok-k.ensures.ok ∙ ap (λ (w : ℕ). with_row None w rows told.prefix) wide in
    record {
      valid = subst (λ (rs : Rows (Option OwnRoute)). AreGood (grid_tables listed rs)) (sym grows)
          (subst AreGood (sym (tables-grown listed (length listed) rows told.prefix))
          (good_prefix (grid_tables listed rows) told.prefix c.args.self.now.valid (told_room (grid_tables listed rows) told _ c.args.self.now.valid (c.in_ok-judge.ensures listed))));
      grid = subst (λ (rs : Rows (Option OwnRoute)). IsGrid (length listed) rs) (sym grows) (grid-with_row None (length listed) rows told.prefix c.args.self.now.grid);
    }

pub returns-in_err-is_new-clause-takes : goal.returns-in_err-is_new-clause-takes
returns-in_err-is_new-clause-takes g c =
    let listed = c.args.self.now.listed.items in
    let rows = rows_of c.args.self.now.rows.entries in
    let told = c.args.told.now in
    let t = grid_tables listed rows in
    let u = grid_tables listed (rows_of c.row_at.new.rows.entries) in
    let grows = c.in_ok-k.ensures.ok in
    let number = subst (λ (rs : Rows (Option OwnRoute)). number_of_prefix told.prefix (heads rs) ≡ Some c.in_ok-k.k) grows c.in_ok-k.ensures.number in
    let ways = ways-grown c.args.self.now.ways.keys c.len-width.result rows told.prefix c.requires.ways in
    let is : c.from_residual-in_err-is_new.result ≡ Err Memory = search rules in
    let (hop, to, fresh) = c.in_err-is_new.ensures.fresh in
    let lacks : has_hop hop (hops_of (cell None rows told.router told.prefix)) ≡ false =
    sym (ways.kept told.router c.in_ok-k.k told.prefix hop number ∙ ap (λ (f : ℕ → Block → Option OwnRoute). has_hop hop (hops_of (f told.router told.prefix))) (cells-grown c.len-width.result rows told.prefix)) ∙ fresh in
    subst (Takes t told u) (sym is) (lacking t u told (c.in_ok-judge.ensures listed) (inr (hop, to, lacks)))

pub add_to-requires-clause-grid : goal.add_to-requires-clause-grid
add_to-requires-clause-grid g c =
    let listed = c.args.self.now.listed.items in
    let rows = rows_of c.args.self.now.rows.entries in
    let wide : length listed ≡ c.len-width.result = sym (c.len-width.ensures ∙ c.args.self.now.listed.ok.0) in
    subst (λ (rs : Rows (Option OwnRoute)). IsGrid c.len-width.result rs) (sym c.in_ok-k.ensures.ok)
    (grid-with_row None c.len-width.result rows c.args.told.now.prefix (subst (λ (w : ℕ). IsGrid w rows) wide c.args.self.now.grid))

pub invariant_of-self-in-Break-branch-4 : goal.invariant_of-self-in-Break-branch-4
invariant_of-self-in-Break-branch-4 g c =
    let listed = c.args.self.now.listed.items in
    let rows = rows_of c.args.self.now.rows.entries in
    let told = c.args.told.now in
    let wide : c.len-width.result ≡ length listed = c.len-width.ensures ∙ c.args.self.now.listed.ok.0 in
    let grows : rows_of c.add_to.new.rows.entries ≡ with_row None (length listed) rows told.prefix = c.in_err-add_to.ensures.err ∙ c.in_ok-k.ensures.ok ∙ ap (λ (w : ℕ). with_row None w rows told.prefix) wide in
    record {
      valid = subst (λ (rs : Rows (Option OwnRoute)). AreGood (grid_tables listed rs)) (sym grows)
          (subst AreGood (sym (tables-grown listed (length listed) rows told.prefix))
          (good_prefix (grid_tables listed rows) told.prefix c.args.self.now.valid (told_room (grid_tables listed rows) told _ c.args.self.now.valid (c.in_ok-judge.ensures listed))));
      grid = subst (λ (rs : Rows (Option OwnRoute)). IsGrid (length listed) rs) (sym grows) (grid-with_row None (length listed) rows told.prefix c.args.self.now.grid);
    }

pub returns-in_err-add_to-clause-takes : goal.returns-in_err-add_to-clause-takes
returns-in_err-add_to-clause-takes g c =
    let listed = c.args.self.now.listed.items in
    let rows = rows_of c.args.self.now.rows.entries in
    let told = c.args.told.now in
    let t = grid_tables listed rows in
    let u = grid_tables listed (rows_of c.add_to.new.rows.entries) in
    let number = subst (λ (rs : Rows (Option OwnRoute)). number_of_prefix told.prefix (heads rs) ≡ Some c.in_ok-k.k) c.in_ok-k.ensures.ok c.in_ok-k.ensures.number in
    let ways = ways-grown c.args.self.now.ways.keys c.len-width.result rows told.prefix c.requires.ways in
    let is : c.from_residual-in_err-add_to.result ≡ Err Memory = search rules in
    let (hop, to, now) = c.in_err-add_to.ensures.allocates in
    let fresh = fresh_of c.args.self.now.ways.keys told.router c.in_ok-k.k told.way c.in_ok-is_new.is_new hop c.in_ok-is_new.ensures.is_new to now in
    let lacks : has_hop hop (hops_of (cell None rows told.router told.prefix)) ≡ false =
    sym (ways.kept told.router c.in_ok-k.k told.prefix hop number ∙ ap (λ (f : ℕ → Block → Option OwnRoute). has_hop hop (hops_of (f told.router told.prefix))) (cells-grown c.len-width.result rows told.prefix)) ∙ fresh in
    subst (Takes t told u) (sym is) (lacking t u told (c.in_ok-judge.ensures listed) (inr (hop, to, lacks)))

pub invariant_of-self-2 : goal.invariant_of-self-2
invariant_of-self-2 g c =
    let listed = c.args.self.now.listed.items in
    let rows = rows_of c.args.self.now.rows.entries in
    let told = c.args.told.now in
    let w = c.len-width.result in
    let wide : w ≡ length listed = c.len-width.ensures ∙ c.args.self.now.listed.ok.0 in
    let number = subst (λ (rs : Rows (Option OwnRoute)). number_of_prefix told.prefix (heads rs) ≡ Some c.in_ok-k.k) c.in_ok-k.ensures.ok c.in_ok-k.ensures.number in
    let (n, is_told) = c.requires.told in
    let is = c.in_ok-add_to.ensures.ok
    ∙ ap (λ (rs : Rows (Option OwnRoute)). with_cell rs c.in_ok-k.k told.router (Some (added (unwrap_or (cell None rs told.router told.prefix) (first_route told.metric)) told.way c.in_ok-is_new.is_new)))
    c.in_ok-k.ensures.ok in
    let tables = tables-written listed rows told c.args.self.now.ways.keys c.in_ok-k.k w c.in_ok-is_new.is_new wide c.requires.ways c.args.self.now.grid c.requires.router number c.in_ok-is_new.ensures.is_new in
    let grid = grid-written listed rows told c.args.self.now.ways.keys c.in_ok-k.k w c.in_ok-is_new.is_new wide c.requires.ways c.args.self.now.grid c.requires.router number c.in_ok-is_new.ensures.is_new in
    record {
      valid = subst (λ (rs : Rows (Option OwnRoute)). AreGood (grid_tables (set listed told.router true) rs)) (sym is)
          (subst AreGood (sym tables) (good_told n (grid_tables listed rows) told _ c.args.self.now.valid is_told (c.in_ok-judge.ensures listed)));
      grid = subst (λ (rs : Rows (Option OwnRoute)). IsGrid (length (set listed told.router true)) rs) (sym is) grid;
    }

pub returns-clause-takes : goal.returns-clause-takes
returns-clause-takes g c =
    let listed = c.args.self.now.listed.items in
    let rows = rows_of c.args.self.now.rows.entries in
    let told = c.args.told.now in
    let w = c.len-width.result in
    let wide : w ≡ length listed = c.len-width.ensures ∙ c.args.self.now.listed.ok.0 in
    let number = subst (λ (rs : Rows (Option OwnRoute)). number_of_prefix told.prefix (heads rs) ≡ Some c.in_ok-k.k) c.in_ok-k.ensures.ok c.in_ok-k.ensures.number in
    let is = c.in_ok-add_to.ensures.ok
    ∙ ap (λ (rs : Rows (Option OwnRoute)). with_cell rs c.in_ok-k.k told.router (Some (added (unwrap_or (cell None rs told.router told.prefix) (first_route told.metric)) told.way c.in_ok-is_new.is_new)))
    c.in_ok-k.ensures.ok in
    let tables = tables-written listed rows told c.args.self.now.ways.keys c.in_ok-k.k w c.in_ok-is_new.is_new wide c.requires.ways c.args.self.now.grid c.requires.router number c.in_ok-is_new.ensures.is_new in
    c.in_ok-judge.ensures listed ∙ ap (λ (t : OwnTables). Ok t) (sym (ap (λ (rs : Rows (Option OwnRoute)). grid_tables (set listed told.router true) rs) is ∙ tables))

pub returns-clause-ways : goal.returns-clause-ways
returns-clause-ways g c =
    let listed = c.args.self.now.listed.items in
    let rows = rows_of c.args.self.now.rows.entries in
    let told = c.args.told.now in
    let w = c.len-width.result in
    let wide : w ≡ length listed = c.len-width.ensures ∙ c.args.self.now.listed.ok.0 in
    let number = subst (λ (rs : Rows (Option OwnRoute)). number_of_prefix told.prefix (heads rs) ≡ Some c.in_ok-k.k) c.in_ok-k.ensures.ok c.in_ok-k.ensures.number in
    let is = c.in_ok-add_to.ensures.ok
    ∙ ap (λ (rs : Rows (Option OwnRoute)). with_cell rs c.in_ok-k.k told.router (Some (added (unwrap_or (cell None rs told.router told.prefix) (first_route told.metric)) told.way c.in_ok-is_new.is_new)))
    c.in_ok-k.ensures.ok in
    subst (λ (rs : Rows (Option OwnRoute)). AreWays c.note.new.ways.keys rs) (sym is)
    (ways-written listed rows told c.args.self.now.ways.keys c.in_ok-k.k w c.in_ok-is_new.is_new wide c.requires.ways c.args.self.now.grid c.requires.router number c.in_ok-is_new.ensures.is_new
    c.note.new.ways.keys c.in_ok-is_new.ensures.noted)
