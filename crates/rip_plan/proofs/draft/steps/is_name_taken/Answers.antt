use Rattle.std.proofs.Common.{string_bytes, rules, tests}
use Rattle.std.specs.Str.{bytes_eq}
use Rattle.std.proofs.lemmas.Iterator.{YieldsList-from_slice}
use Rattle.std.proofs.lemmas.Iterator.Search.{any_from_yields_List}
use Rattle.rip_plan.proofs.NameLemmas.{is_one_of-map}
use Rattle.rip_plan.proofs.draft.steps.is_name_taken.Goals as goal

pub returns : goal.returns
returns c =
    rw (is_one_of-map string_bytes c.args.name.now c.args.names.now)
    (any_from_yields_List (λ other. bytes_eq (string_bytes other) c.args.name.now) _ _ _ c.any.ensures.ran (YieldsList-from_slice c.args.names.now cc) (λ x b q k. search (rules, tests)))
