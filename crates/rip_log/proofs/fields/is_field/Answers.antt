use Rattle.std.proofs.Common.{◌+◌, ◌-◌, ◌<◌, length, drop, get_or, ap, ◌∙◌, arith}
use Rattle.std.proofs.lemmas.Bool.{eqb-false}
use Rattle.std.proofs.lemmas.List.{get_or-drop, length-drop}
use Rattle.rip_log.specs.Fields.{fields_of, is_blank}
use Rattle.rip_log.proofs.FieldLemmas.{fields_of-some}
use Rattle.rip_log.proofs.fields.is_field.Goals as goal

pub returns-clause-more : goal.returns-clause-more
returns-clause-more c = λ no.
    let bytes = c.args.bytes.now in
    let to = c.skip_field.result in
    let found = c.skip_field.ensures in
    let inside : to < length bytes = omega (arith, found.within, eqb-false to (length bytes) no) in
    let last = length bytes - 1 - to in
    let here = ap is_blank (get_or-drop to bytes last 0 ∙ ap (λ k. get_or bytes k 0) {x = to + last} {y = length bytes - 1} (omega arith)) ∙ c.requires.last in
    let more : 0 < length (fields_of (drop to bytes)) = fields_of-some (drop to bytes) last (omega (arith, length-drop to bytes)) here in
    omega (arith, ap length found.split, more)
