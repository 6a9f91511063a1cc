use Rattle.std.proofs.Common.{◌≡◌, ℕ, List, [], ◌∷◌, ◌&&◌, refl, ap, String, Global, map, string_bytes, rules, tests}
use Rattle.std.specs.List.{list_all}
use Rattle.std.specs.BTreeMap.{keys}
use Rattle.std.proofs.lemmas.Iterator.Consumers.{YieldsList-from_rest}
use Rattle.std.proofs.lemmas.Iterator.Search.{all_from_yields_List}
use Rattle.toml.specs.declared.value.Value.{Value}
use Rattle.toml.specs.View.{members_view}
use Rattle.rip_plan.specs.Fields as fields
use Rattle.rip_plan.specs.Names.{is_one_of}
use Rattle.rip_plan.proofs.fields.has_only.Goals as goal

-- the keys of a table, as a chain over the map meets them
entries_pass : (known : List (List ℕ)) (es : List (String Global × Value)) → fields.has_only known (members_view es)
    ≡ list_all (λ k. is_one_of (string_bytes k) known) (Rattle.std.specs.Map.keys_of es)
entries_pass known [] = refl
entries_pass known (e ∷ es) = ap (λ b. is_one_of (string_bytes e.0) known && b) (entries_pass known es)

pub returns : goal.returns
returns c =
    let known = map (λ k. k.now) c.args.known.now in
    rw (entries_pass known c.args.table.now.entries)
    (all_from_yields_List (λ k. is_one_of (string_bytes k) known) _ _ _ c.all.ensures.ran (YieldsList-from_rest (keys c.args.table.now) c.keys.ensures.rest) (λ x b q k. search (rules, tests)))
