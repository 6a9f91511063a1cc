use Rattle.std.proofs.Common.{◌≡◌, length, sym, arith}
use Rattle.rip_report.specs.Outs.{AddsOne}
use Rattle.rip_report.proofs.OutLemmas.{one_more}
use Rattle.rip_report.proofs.loops.add_row.Goals as goal

pub add-requires-clause-fits : goal.add-requires-clause-fits
add-requires-clause-fits g c = rw (sym c.new.ensures.plan, sym c.new.ensures.table) at c.requires.fits

pub add-requires-clause-router : goal.add-requires-clause-router
add-requires-clause-router g c = rw (sym c.new.ensures.plan) at c.requires.router

pub loop-prefix-preserved : goal.loop-prefix-preserved
loop-prefix-preserved g c =
    let case = c.new.result in
    let text : AddsOne c.loop-prefix.out c.add.new.out (g.E.PairText.is_text c.args.texts.now case.plan.now (g.T.Table.state case.table.now) c.args.router case.prefix) = c.add.ensures in
    let one = rw (c.new.ensures.plan, c.new.ensures.table, c.new.ensures.prefix) at text in
    record { adds = one_more _ c.loop-prefix.prefix c.loop-prefix.invariant.adds one }

pub returns : goal.returns
returns g c =
    let all : c.loop-prefix.prefix ≡ length (g.T.Table.state c.args.table.now).prefixes =
    omega (arith, c.loop-prefix-test.false, c.loop-prefix.auto.prefix-end, c.prefix_count-prefix-end.ensures) in
    rw all at c.loop-prefix.invariant.adds
