use Rattle.std.proofs.Common.{◌∙◌, ap, drop}
use Rattle.std.proofs.lemmas.List.{take_rest}
use Rattle.rip_log.proofs.HeldLemmas.{none-found, first-found}
use Rattle.rip_log.proofs.window.Window.feed_from.Goals as goal

pub returns-in-None : goal.returns-in-None
returns-in-None g c =
    none-found _ _ c.args.seen (take_rest c.held-held.result.now c.args.seen ∙ ap (drop c.args.seen) c.held-held.ensures)
    c.requires.before c.in-None.ensures

pub returns-in-Some : goal.returns-in-Some
returns-in-Some g c =
    first-found _ _ c.args.seen c.in-Some.found (take_rest c.held-held.result.now c.args.seen ∙ ap (drop c.args.seen) c.held-held.ensures)
    c.requires.within c.requires.before c.in-Some.ensures.0 c.in-Some.ensures.1
