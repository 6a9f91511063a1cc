use Rattle.std.proofs.Common.{◌+◌}
use Rattle.std.proofs.lemmas.List.{take_rest}
use Rattle.rip_log.proofs.FieldLemmas.{field-to_blank, field-to_end}
use Rattle.rip_log.proofs.fields.skip_field.Goals as goal

pub returns-in-Some-clause-split : goal.returns-in-Some-clause-split
returns-in-Some-clause-split c =
    field-to_blank _ _ c.args.from c.in-Some.count (take_rest c.args.line.now (c.args.from + 1))
    c.requires.inside c.requires.field c.in-Some.ensures.0 c.in-Some.ensures.1

pub returns-in-None-clause-split : goal.returns-in-None-clause-split
returns-in-None-clause-split c =
    field-to_end _ _ c.args.from (take_rest c.args.line.now (c.args.from + 1)) c.requires.inside c.requires.field c.in-None.ensures
