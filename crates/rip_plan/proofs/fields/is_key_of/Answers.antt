use Rattle.std.proofs.Common.{rules, tests}
use Rattle.std.specs.Str.{bytes_eq}
use Rattle.std.proofs.lemmas.Iterator.{YieldsList-from_slice}
use Rattle.std.proofs.lemmas.Iterator.Search.{any_from_yields_List}
use Rattle.rip_plan.proofs.NameLemmas.{is_one_of-map}
use Rattle.rip_plan.proofs.fields.is_key_of.Goals as goal

pub returns : goal.returns
returns c =
    rw (is_one_of-map (λ k. k.now) c.args.key.now c.args.known.now)
    (any_from_yields_List (λ other. bytes_eq other.now c.args.key.now) _ _ _ c.any.ensures.ran (YieldsList-from_slice c.args.known.now cc) (λ x b q k. search (rules, tests)))
