use Rattle.std.proofs.Common.{◌<◌, arith, length}
use Rattle.rip_log.proofs.FieldLemmas.{rest-fields, rest-trimmed}
use Rattle.rip_log.proofs.fields.three_from.Goals as goal

pub returns : goal.returns
returns c =
    let line = c.args.line.now in
    let one = c.in_ok-first.ensures in
    let two = c.in_ok-second.ensures in
    let again = c.skip_blanks-from.ensures in
    let from = c.skip_blanks-from.result in
    let to = c.end_of_rest.result in
    let rest = c.end_of_rest.ensures in
    let here : from < length line = omega (arith, rest.after, rest.within) in
    let last = rest-fields line from to (omega (arith, rest.after)) rest.blanks in (
      cc (one.split, two.split, again.same, last),
      record { ordered = omega (arith, one.some); within = one.within },
      record { ordered = omega (arith, two.some); within = two.within },
      record { ordered = omega (arith, rest.after); within = rest.within },
      rest-trimmed line from to rest.after rest.within (again.stops here) rest.last,
    )
