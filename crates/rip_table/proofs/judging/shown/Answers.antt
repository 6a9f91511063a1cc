use Rattle.std.proofs.Common.{sym, ◌∙◌}
use Rattle.rip_table.proofs.NumberLemmas.{number-at, number-none, unlisted}
use Rattle.rip_table.proofs.judging.shown.Goals as goal

pub returns-in-Some : goal.returns-in-Some
returns-in-Some g c p is = c.metric.ensures p (number-at p (g.T.Table.state c.args.table.now).prefixes c.in-Some.k (sym is ∙ c.in-Some.is))

pub returns-in-None : goal.returns-in-None
returns-in-None g c p is =
    let state = g.T.Table.state c.args.table.now in
    sym (unlisted state c.args.interface p (g.T.Table.is_state c.args.table.now) c.requires.interface (number-none p state.prefixes (sym is ∙ c.in-None.is)))
