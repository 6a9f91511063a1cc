use Rattle.std.proofs.Common.{◌≡◌, true, false, map, rules, tests, sym, ◌∙◌}
use Rattle.std.specs.Option.{is_some}
use Rattle.std.specs.List.{list_all}
use Rattle.std.proofs.lemmas.Iterator.{YieldsList-from_slice}
use Rattle.std.proofs.lemmas.Iterator.Search.{all_from_yields_List}
use Rattle.std.proofs.lemmas.List.Folds.{list_all-map}
use Rattle.toml.specs.Data.{as_str}
use Rattle.toml.specs.View.{view}
use Rattle.rip_plan.proofs.fields.all_texts.Goals as goal

pub returns-then-all : goal.returns-then-all
returns-then-all c =
    let texts = all_from_yields_List (λ v. is_some (as_str (view v))) _ _ _ c.all.ensures.ran (YieldsList-from_slice c.args.items.now cc) (λ x b q k. search (rules, tests)) in
    let all : list_all (λ d. is_some (as_str d)) (map view c.args.items.now) ≡ true = list_all-map (λ d. is_some (as_str d)) view c.args.items.now ∙ sym texts ∙ c.if-all.true in
    rw all

pub returns-else-all : goal.returns-else-all
returns-else-all c =
    let texts = all_from_yields_List (λ v. is_some (as_str (view v))) _ _ _ c.all.ensures.ran (YieldsList-from_slice c.args.items.now cc) (λ x b q k. search (rules, tests)) in
    let some : list_all (λ d. is_some (as_str d)) (map view c.args.items.now) ≡ false = list_all-map (λ d. is_some (as_str d)) view c.args.items.now ∙ sym texts ∙ c.if-all.false in
    rw some
