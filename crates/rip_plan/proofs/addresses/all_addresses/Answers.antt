use Rattle.std.proofs.Common.{◌≡◌, ◌+◌, ◌<◌, ◌++◌, ◌∷◌, [], ℕ, List, Vec, Global, drop, get_or, length, map, append_assoc, ap, arith, sym, ◌∙◌}
use Rattle.std.proofs.lemmas.List.{append-nil, drop_all, get_or-map, length-map}
use Rattle.rip_plan.specs.declared.parts.Interface.{Interface}
use Rattle.rip_plan.specs.Addresses.{held_by, held_from}
use Rattle.rip_plan.proofs.ClashLemmas.{rest_from}
use Rattle.rip_plan.proofs.addresses.all_addresses.Goals as goal

pub loop-i-preserved : goal.loop-i-preserved
loop-i-preserved c =
    let items = λ (w : Vec ℕ Global). w.items in
    let is = c.args.interfaces.now in
    let also = map items c.args.also.now in
    let i = c.loop-i.i in
    let x = c.index-interfaces-i.result in
    let further = c.index-also-i.result in
    let one : drop i is ≡ x ∷ drop (i + 1) is = rest_from is i x c.loop-i-test.true c.index-interfaces-i.is in
    let within : i < length c.args.also.now = omega (arith, c.requires, c.loop-i-test.true) in
    let read : items further ≡ get_or also i (items further) = ap items c.index-also-i.is ∙ sym (get_or-map items c.args.also.now i further (items further) within) in
    let two : drop i also ≡ items further ∷ drop (i + 1) also = rest_from also i (items further) (omega (arith, within, length-map c.args.also.now items)) read in
    let rest = held_from (i + 1) (drop (i + 1) is) (drop (i + 1) also) in
    rw (c.in_ok-add_addresses.ensures, c.as_slice.ensures.value, append_assoc c.loop-i.held.items (held_by i x (items further)) rest) (rw (one, two) at c.loop-i.invariant)

pub returns : goal.returns
returns c =
    let items = λ (w : Vec ℕ Global). w.items in
    let none : drop c.loop-i.i c.args.interfaces.now ≡ [] = drop_all c.loop-i.i c.args.interfaces.now c.loop-i-test.false in
    sym (append-nil c.loop-i.held.items) ∙ ap (λ (rest : List Interface). c.loop-i.held.items ++ held_from c.loop-i.i rest (drop c.loop-i.i (map items c.args.also.now))) (sym none)
    ∙ c.loop-i.invariant
