use Rattle.rip_routes.proofs.SayLemmas.{TextLaws, line_is_said, line_says_by, tells_said}
use Rattle.rip_routes.proofs.laws.told_lines.Goals as goal

pub returns-clause-says : goal.returns-clause-says
returns-clause-says c n line said lawful =
    let laws : TextLaws = record { prefixes = c.prefix_texts.ensures.exact; addresses = c.address_texts.ensures.exact } in
    (line_says_by laws n lawful line said, line_is_said laws n lawful line said)

pub returns-clause-tells : goal.returns-clause-tells
returns-clause-tells c n t line = tells_said n t line
