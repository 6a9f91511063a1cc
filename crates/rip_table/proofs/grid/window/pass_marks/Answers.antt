use Rattle.std.proofs.Common.{◌∙◌, ◌-◌, arith}
use Rattle.rip_table.proofs.FrontLemmas.{front-all, front-step}
use Rattle.rip_table.proofs.grid.window.pass_marks.Goals as goal

pub loop-i-preserved : goal.loop-i-preserved
loop-i-preserved c =
    let old = c.args.heard.now in
    front-step c.loop-i.i (λ left. left - 1) old.items c.loop-i.heard.items c.index.result.now c.saturating_sub.result c.loop-i.invariant
    (omega (arith, c.loop-i-test.true, c.len-i-end.ensures, old.ok.0)) c.index.ensures c.saturating_sub.ensures

pub returns : goal.returns
returns c =
    let old = c.args.heard.now in
    c.loop-i.invariant ∙ front-all c.loop-i.i (λ left. left - 1) old.items (omega (arith, c.loop-i-test.false, c.len-i-end.ensures, old.ok.0))
