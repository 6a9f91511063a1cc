use Rattle.std.proofs.Common.{sym, ap, ◌∙◌, arith, length, refl}
use Rattle.std.proofs.lemmas.Option.{slice_get_read}
use Rattle.rip_table.proofs.NumberLemmas.{metric_among-found, metric_among-passed}
use Rattle.rip_table.specs.Numbers.{metric_among}
use Rattle.rip_table.proofs.PrefixListLemmas.{take-end}
use Rattle.rip_table.proofs.judging.earlier.Goals as goal

pub returns-then-eq : goal.returns-then-eq
returns-then-eq c =
    let here = slice_get_read c.args.entries.now (length c.args.entries.now) c.loop-j.j c.index-entries-j.result refl c.loop-j-test.true c.index-entries-j.is in
    let all = take-end c.args.entries.now (length c.args.entries.now) (omega arith) in
    sym (ap (metric_among c.args.prefix) (sym all) ∙ metric_among-found c.args.prefix c.args.entries.now c.loop-j.j (length c.args.entries.now) c.index-entries-j.result c.loop-j.invariant here
    (sym c.if-eq.ensures) c.loop-j-test.true)

pub loop-j-preserved : goal.loop-j-preserved
loop-j-preserved c =
    let here = slice_get_read c.args.entries.now (length c.args.entries.now) c.loop-j.j c.index-entries-j.result refl c.loop-j-test.true c.index-entries-j.is in
    metric_among-passed c.args.prefix c.args.entries.now c.loop-j.j c.index-entries-j.result c.loop-j.invariant here (sym c.if-eq.ensures)
