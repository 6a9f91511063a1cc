use Rattle.std.proofs.Common.{◌∙◌, arith, string_bytes}
use Rattle.std.specs.Str.{bytes_eq}
use Rattle.std.proofs.lemmas.Map.Text.{hash_map_updates_text}
use Rattle.rip_plan.proofs.ClashLemmas.{first_back}
use Rattle.rip_plan.proofs.NameLemmas.{number_of_name-map}
use Rattle.rip_plan.proofs.index.numbers_of_names.Goals as goal

pub loop-k-preserved : goal.loop-k-preserved
loop-k-preserved c name =
    let back = first_back (λ other. bytes_eq (string_bytes other) name) c.args.names.now c.loop-k.k c.index-names-k.result (omega arith) (omega arith) c.index-names-k.is in
    let updates = hash_map_updates_text (string_bytes c.in_ok-name.name) c.loop-k.numbers c.insert.new.self _ c.in_ok-insert.ensures.updates name in
    updates ∙ rw (c.in_ok-name.ensures.ok, c.as_str.ensures.value, c.loop-k.invariant name) back

pub returns : goal.returns
returns c = λ name. c.loop-k.invariant name ∙ grind (arith, number_of_name-map string_bytes name 0 c.args.names.now)
