use Rattle.std.proofs.Common.{◌++◌, ◌<◌, length, ap, arith, codes}
use Rattle.rip_plan.proofs.ItemLemmas.{get_some}
use Rattle.rip_wire.specs.Prefix.{prefix_text}
use Rattle.rip_report.specs.TableText.{prefix_lines}
use Rattle.rip_report.proofs.LoopLemmas.{all_items, item_more}
use Rattle.rip_report.proofs.OutLemmas.{adds_same}
use Rattle.rip_report.proofs.TextLemmas.{text-at}
use Rattle.rip_report.proofs.table.push_shown_lines.Goals as goal

pub loop-k-preserved : goal.loop-k-preserved
loop-k-preserved g c =
    let n = c.args.plan.now in
    let s = g.T.Table.state c.args.table.now in
    let i = c.args.interface in
    let k = c.loop-k.k in
    let within : k < length s.prefixes = omega (arith, c.loop-k-test.true, c.prefix_count-k-end.ensures) in
    let item = get_some s.prefixes k within in
    let p = item.0 in
    let middle = text-at c.args.texts.now.prefixes k _ (prefix_text p ++ codes " ") (c.requires.texts.prefixes k p item.1) in
    let line = adds_same (ap (prefix_lines n i p) (c.metric-metric.ensures p item.1)) (c.push_prefix_line.ensures n i p c.front_of-front.ensures middle) in
    item_more c.loop-k.invariant item.1 line

pub returns : goal.returns
returns g c = all_items c.loop-k.invariant (let all = c.prefix_count-k-end.ensures in omega (arith, c.loop-k-test.false))
