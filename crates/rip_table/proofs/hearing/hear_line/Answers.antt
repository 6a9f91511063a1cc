use Rattle.rip_log.specs.NextLineCall.{number_of, said_of}
use Rattle.rip_log.specs.declared.reader.lines.Line.{Line}
use Rattle.rip_table.specs.CollectsAll.{Hears}
use Rattle.rip_table.proofs.hearing.hear_line.Goals as goal
use Rattle.std.proofs.Common.{sym, subst}

pub returns-in-Bad-clause-hears : goal.returns-in-Bad-clause-hears
returns-in-Bad-clause-hears g c =
    let s = g.T.Table.state c.args.table.now in
    subst (λ (l : Line). Hears g.L.Listener.may_allocate c.args.plan.now s (said_of l) (number_of l) s (g.L.Listener.holds c.args.listener.now)
    (g.L.Listener.holds c.hear_bad.new.listener) c.hear_bad.result) (sym c.in-Bad.is) (c.hear_bad.ensures.hears s)
