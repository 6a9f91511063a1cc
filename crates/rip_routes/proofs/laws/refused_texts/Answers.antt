use Rattle.std.proofs.Common.{◌≡◌, Result, Ok, Err, sym, ◌∙◌}
use Rattle.rip_routes.specs.OwnTables.{OwnTables}
use Rattle.rip_routes.specs.declared.error.RoutesError.{RoutesError}
use Rattle.rip_routes.proofs.SayLemmas.{TextLaws}
use Rattle.rip_routes.proofs.TextLemmas.{refuses_text, tables_told, text_refused}
use Rattle.rip_routes.proofs.laws.refused_texts.Goals as goal

pub returns-clause-refused : goal.returns-clause-refused
returns-clause-refused c n text e lawful =
    let laws : TextLaws = record { prefixes = c.prefix_texts.ensures.exact; addresses = c.address_texts.ensures.exact } in
    (refuses_text laws n lawful text e, text_refused laws n lawful text e)

pub returns-clause-apart : goal.returns-clause-apart
returns-clause-apart c n text t e lawful h k =
    let laws : TextLaws = record { prefixes = c.prefix_texts.ensures.exact; addresses = c.address_texts.ensures.exact } in
    let both : ◌≡◌ {A = Result OwnTables RoutesError} (Ok t) (Err e) = sym (tables_told laws n lawful text t h) ∙ text_refused laws n lawful text e k in
    cc both
