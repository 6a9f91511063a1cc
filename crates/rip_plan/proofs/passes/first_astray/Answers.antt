use Rattle.std.proofs.Common.{◌≡◌, None, ap, sym, ◌∙◌}
use Rattle.std.specs.Prelude.{find, option_map}
use Rattle.std.proofs.lemmas.List.{at_drop_all}
use Rattle.rip_plan.specs.declared.draft.DraftPlace.{DraftPlace}
use Rattle.rip_plan.specs.Passes.{is_astray}
use Rattle.rip_plan.proofs.ClashLemmas.{found_here, found_later}
use Rattle.rip_plan.proofs.passes.first_astray.Goals as goal

pub returns-then-is_astray : goal.returns-then-is_astray
returns-then-is_astray c =
    let test = λ (p : DraftPlace). is_astray c.args.interfaces.now p.seat in
    ap (option_map (λ (p : DraftPlace). p.at)) (found_here test c.args.places.now c.loop-k.k c.index-places-k.result c.loop-k-test.true c.index-places-k.is _
    (sym c.is_astray.ensures ∙ c.if-is_astray.true) c.loop-k.invariant)

pub loop-k-preserved : goal.loop-k-preserved
loop-k-preserved c =
    let test = λ (p : DraftPlace). is_astray c.args.interfaces.now p.seat in
    found_later test c.args.places.now c.loop-k.k c.index-places-k.result c.loop-k-test.true c.index-places-k.is _ (sym c.is_astray.ensures ∙ c.if-is_astray.false) c.loop-k.invariant

pub returns : goal.returns
returns c =
    let test = λ (p : DraftPlace). is_astray c.args.interfaces.now p.seat in
    let none : None ≡ find test c.args.places.now = sym (at_drop_all (find test) c.args.places.now c.loop-k.k c.loop-k-test.false) ∙ c.loop-k.invariant in
    ap (option_map (λ (p : DraftPlace). p.at)) none
