use Rattle.std.proofs.Common.{◌≡◌, Result, Ok, sym, ◌∙◌}
use Rattle.rip_routes.specs.OwnTables.{OwnTables}
use Rattle.rip_routes.specs.declared.error.RoutesError.{RoutesError}
use Rattle.rip_routes.proofs.SayLemmas.{TextLaws}
use Rattle.rip_routes.proofs.TextLemmas.{tables_told, tells_tables}
use Rattle.rip_routes.proofs.laws.told_texts.Goals as goal

pub returns-clause-tables : goal.returns-clause-tables
returns-clause-tables c n text t lawful =
    let laws : TextLaws = record { prefixes = c.prefix_texts.ensures.exact; addresses = c.address_texts.ensures.exact } in
    (tells_tables laws n lawful text t, tables_told laws n lawful text t)

pub returns-clause-one : goal.returns-clause-one
returns-clause-one c n text t u lawful h k =
    let laws : TextLaws = record { prefixes = c.prefix_texts.ensures.exact; addresses = c.address_texts.ensures.exact } in
    let both : ◌≡◌ {A = Result OwnTables RoutesError} (Ok t) (Ok u) = sym (tables_told laws n lawful text t h) ∙ tables_told laws n lawful text u k in
    cc both
