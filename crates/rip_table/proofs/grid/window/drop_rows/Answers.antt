use Rattle.std.proofs.Common.{◌≡◌, ◌∙◌, ◌-◌, sym, ap, arith, suc}
use Rattle.rip_table.specs.Rows.{rows_of}
use Rattle.rip_table.specs.WindowRows.{is_shown_in}
use Rattle.rip_table.proofs.FrontLemmas.{back}
use Rattle.rip_table.proofs.ForgetLemmas.{row-gone, row-kept}
use Rattle.rip_table.proofs.grid.window.drop_rows.Goals as goal

pub loop-k-preserved-then-not-is_shown : goal.loop-k-preserved-then-not-is_shown
loop-k-preserved-then-not-is_shown g c =
    let es = c.loop-k.rows.entries in
    let next : c.loop-k.k ≡ suc (c.loop-k.k - 1) = omega (arith, c.loop-k-test.true) in
    record {
      sifted = c.drop_row.ensures
          ∙ row-gone es (rows_of c.args.rows.now.entries) (c.loop-k.k - 1) c.loop-k.k c.index.result.now next c.loop-k.invariant.sifted c.index.ensures (sym c.is_shown.ensures ∙ c.if-not-is_shown.true);
      behind = omega (arith, c.loop-k-test.true);
    }

pub loop-k-preserved : goal.loop-k-preserved
loop-k-preserved g c =
    let es = c.loop-k.rows.entries in
    let next : c.loop-k.k ≡ suc (c.loop-k.k - 1) = omega (arith, c.loop-k-test.true) in
    record {
      sifted = row-kept es (rows_of c.args.rows.now.entries) (c.loop-k.k - 1) c.loop-k.k c.index.result.now next c.loop-k.invariant.sifted c.index.ensures (sym c.is_shown.ensures ∙ c.if-not-is_shown.false);
      behind = omega (arith, c.loop-k-test.true);
    }

pub returns : goal.returns
returns g c =
    let here : c.loop-k.k ≡ c.args.first = omega (arith, c.loop-k-test.false, c.loop-k.invariant.behind) in
    c.loop-k.invariant.sifted ∙ ap (λ n. back n (λ row. is_shown_in row.1) (rows_of c.args.rows.now.entries)) here
