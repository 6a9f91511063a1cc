use Rattle.std.proofs.Common.{Option, None, Some, IfNone, IsSome, refl}
use Rattle.rip_check.specs.declared.verdict.Place2.{Place2}
use Rattle.rip_check.specs.Firsts.{IsFirstUnclear}
use Rattle.rip_check.proofs.CaseLemmas.{in_range_of}
use Rattle.rip_check.proofs.ReadableLemmas.{tables_shown}
use Rattle.rip_check.proofs.OneVerdictLemmas.{trouble_from, sound_is_right}
use Rattle.rip_check.proofs.audit.decide.Goals as goal
use Rattle.rip_check.specs.Told.{told}

pub returns-in-Err : goal.returns-in-Err
returns-in-Err g c =
    let n = c.args.plan.now in
    let shown = (told c.args.plan.now (g.T.Table.state c.args.table.now)) in
    let first = rw c.in-Err.is at c.first_place.ensures in
    let is : IsFirstUnclear n shown c.reason.result = record { router = c.in-Err.router; prefix = c.in-Err.prefix; first = first; reason = rw (c.new.ensures.plan, c.new.ensures.table, c.new.ensures.prefix) at c.reason.ensures } in
    trouble_from n shown c.reason.result c.in_default.ensures.none is

some_fails : (P : Type 0) (o : Option Place2) → IfNone o P → (P → ⊥) → IsSome o
some_fails P None holds fails = absurd (fails holds)
some_fails P (Some place) holds fails = refl

pub unwrap-requires : goal.unwrap-requires
unwrap-requires g c =
    let first = rw (c.in-Ok-Some.is, c.in-Ok-Some.field-0-is) at c.first_place.ensures in
    some_fails _ c.failing-place.result (rw (c.new-in-Ok-Some.ensures.plan, c.new-in-Ok-Some.ensures.table, c.new-in-Ok-Some.ensures.prefix) at c.failing-place.ensures.none) first.1.fails

pub returns-in-Ok-Some : goal.returns-in-Ok-Some
returns-in-Ok-Some g c =
    let n = c.args.plan.now in
    let shown = (told c.args.plan.now (g.T.Table.state c.args.table.now)) in
    let first = rw (c.in-Ok-Some.is, c.in-Ok-Some.field-0-is) at c.first_place.ensures in
    let place = rw (c.new-in-Ok-Some.ensures.plan, c.new-in-Ok-Some.ensures.table, c.new-in-Ok-Some.ensures.prefix) at (rw c.unwrap.ensures at c.failing-place.ensures.some) in (
      tables_shown n c.lawful.ensures shown (in_range_of g.T.Table n c.args.table.now c.requires) c.in_default.ensures.none first.0,
      record { first = rw place.0 (rw place.1 first.1); values = place.2 },
    )

pub returns-in-Ok-None : goal.returns-in-Ok-None
returns-in-Ok-None g c =
    let n = c.args.plan.now in
    let shown = (told c.args.plan.now (g.T.Table.state c.args.table.now)) in
    let first = rw (c.in-Ok-None.is, c.in-Ok-None.field-0-is) at c.first_place.ensures in
    sound_is_right n shown c.lawful.ensures (in_range_of g.T.Table n c.args.table.now c.requires) c.in_default.ensures.none first.0 first.1
