use Rattle.std.proofs.Common.{◌≡◌, ◌∙◌, sym, ap, cond, Bool, true, false, [], ◌∷◌, ◌++◌}
use Rattle.std.specs.Option.{is_some}
use Rattle.rip_plan.specs.Network.{number_of_prefix}
use Rattle.rip_table.specs.State.{is_among}
use Rattle.rip_table.proofs.NumberLemmas.{number-is}
use Rattle.rip_table.proofs.list.add_prefix.Goals as goal

pub returns-then-is_none-clause-items : goal.returns-then-is_none-clause-items
returns-then-is_none-clause-items c =
    let ps = c.args.prefixes.now.items in
    let p = c.args.prefix in
    let at = c.number_in.ensures ∙ ap (number_of_prefix p) c.as_slice.ensures.value in
    let new : is_among p ps ≡ false = number-is p ps ∙ sym (ap is_some at) ∙ c.if-is_none.ensures in
    c.push_reserved.ensures.items ∙ sym (ap (λ (b : Bool). cond b ps (ps ++ p ∷ [])) new)

pub returns-else-is_none-clause-items : goal.returns-else-is_none-clause-items
returns-else-is_none-clause-items c =
    let ps = c.args.prefixes.now.items in
    let p = c.args.prefix in
    let at = c.number_in.ensures ∙ ap (number_of_prefix p) c.as_slice.ensures.value in
    let there : is_among p ps ≡ true = number-is p ps ∙ sym (ap is_some at) ∙ c.if-is_none.ensures in
    sym (ap (λ (b : Bool). cond b ps (ps ++ p ∷ [])) there)
