use Rattle.std.proofs.Common.{◌∙◌, arith}
use Rattle.rip_table.specs.Window.{passed_word}
use Rattle.rip_table.proofs.FrontLemmas.{front-all, front-step}
use Rattle.rip_table.proofs.grid.window.pass_row.Goals as goal

pub loop-i-preserved : goal.loop-i-preserved
loop-i-preserved c =
    let old = c.args.row.now in
    front-step c.loop-i.i passed_word old.items c.loop-i.row.items c.index.result.now c.passed.result c.loop-i.invariant
    (omega (arith, c.loop-i-test.true, c.len-i-end.ensures, old.ok.0)) c.index.ensures c.passed.ensures

pub returns : goal.returns
returns c =
    let old = c.args.row.now in
    c.loop-i.invariant ∙ front-all c.loop-i.i passed_word old.items (omega (arith, c.loop-i-test.false, c.len-i-end.ensures, old.ok.0))
