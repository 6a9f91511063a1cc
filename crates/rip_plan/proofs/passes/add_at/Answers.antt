use Rattle.std.proofs.Common.{◌≡◌, List, [], ◌∷◌, ◌++◌, Bool, true, cond, Option, Some, None, refl, ap, ◌∙◌, Vec, Global, arith}
use Rattle.std.specs.HashMap.{get}
use Rattle.std.specs.Option.{option_map_or}
use Rattle.rip_wire.specs.Prefix.{Block}
use Rattle.rip_plan.specs.Passes.{same_prefix}
use Rattle.rip_plan.specs.Touches.{listed}
use Rattle.rip_plan.proofs.NumberingLemmas.{same_is}
use Rattle.rip_plan.proofs.passes.add_at.Goals as goal
use Rattle.rip_plan.proofs.passes.add_at.Goals.{in-Some, in-None}

seat_added : {A V : Type 0} (view : V → List A) (here : Bool) (at old removed new : Option V) (v : V) (x : A) → new ≡ cond here (Some v) removed → removed ≡ cond here None old
    → view v ≡ option_map_or view at [] ++ x ∷ [] → (here ≡ true → at ≡ old) → option_map_or view new [] ≡ cond here (option_map_or view old [] ++ x ∷ []) (option_map_or view old [])
seat_added view here at old removed new v x h k g e = grind arith

pub returns : goal.returns
returns g c b =
    let p = c.args.prefix in
    let before : c.match-remove.values.items ≡ listed same_prefix c.args.all.now p = elim c.match-remove.branch [
      | in-Some w ↦ rw (w.values-is, ← w.in-Some.ensures.value) refl
      | in-None w ↦ rw (w.values-is, w.new-values.ensures.items, ← w.in-None.ensures.value) refl
    ] in
    seat_added (λ (v : Vec g.row.V.Denot Global). v.items) (same_prefix p b) (get same_prefix c.args.all.now p) (get same_prefix c.args.all.now b) (get same_prefix c.remove.new.self b)
    (get same_prefix c.insert.new.self b)
    c.push.new.self c.args.value (c.in_ok-insert.ensures.updates.0 b) (c.remove.ensures.updates.0 b)
    (c.in_ok-push.ensures.items ∙ ap (λ s. s ++ c.args.value ∷ []) before) (λ e. ap (λ (q : Block). get same_prefix c.args.all.now q) (same_is p b e))
