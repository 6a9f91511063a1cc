use Rattle.std.proofs.Common.{◌≡◌, None, ap, sym, ◌∙◌}
use Rattle.std.specs.Prelude.{find, option_map}
use Rattle.std.proofs.lemmas.List.{at_drop_all}
use Rattle.rip_plan.specs.declared.draft.DraftPlace.{DraftPlace}
use Rattle.rip_plan.specs.Passes.{has_neighbours_gateway}
use Rattle.rip_plan.proofs.ClashLemmas.{found_here, found_later}
use Rattle.rip_plan.proofs.passes.first_neighbours_gateway.Goals as goal

pub returns-then-has_neighbours_gateway : goal.returns-then-has_neighbours_gateway
returns-then-has_neighbours_gateway c =
    let test = λ (p : DraftPlace). has_neighbours_gateway c.args.interfaces.now c.args.held.now p.seat in
    ap (option_map (λ (p : DraftPlace). p.at)) (found_here test c.args.places.now c.loop-k.k c.index-places-k.result c.loop-k-test.true c.index-places-k.is _
    (sym c.has_neighbours_gateway.ensures ∙ c.if-has_neighbours_gateway.true) c.loop-k.invariant)

pub loop-k-preserved : goal.loop-k-preserved
loop-k-preserved c =
    let test = λ (p : DraftPlace). has_neighbours_gateway c.args.interfaces.now c.args.held.now p.seat in
    found_later test c.args.places.now c.loop-k.k c.index-places-k.result c.loop-k-test.true c.index-places-k.is _ (sym c.has_neighbours_gateway.ensures ∙ c.if-has_neighbours_gateway.false) c.loop-k.invariant

pub returns : goal.returns
returns c =
    let test = λ (p : DraftPlace). has_neighbours_gateway c.args.interfaces.now c.args.held.now p.seat in
    let none : None ≡ find test c.args.places.now = sym (at_drop_all (find test) c.args.places.now c.loop-k.k c.loop-k-test.false) ∙ c.loop-k.invariant in
    ap (option_map (λ (p : DraftPlace). p.at)) none
