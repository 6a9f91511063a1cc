use Rattle.std.proofs.Common.{◌≡◌, ◌≤◌, ℕ, Option, None, Some, IfNone, IsSome, refl, arith}
use Rattle.rip_plan.specs.Network.{Network}
use Rattle.rip_table.specs.State.{State}
use Rattle.rip_check.specs.declared.routes.ReadRoute.{ReadRoute}
use Rattle.rip_check.specs.Marks.{IsMark, FailsWith}
use Rattle.rip_check.specs.Tables.{FitsThere}
use Rattle.rip_check.specs.Verdicts.{route_of}
use Rattle.rip_check.proofs.CaseLemmas.{in_range_plan}
use Rattle.rip_check.proofs.ReadableLemmas.{one_there, route_readable}
use Rattle.rip_check.proofs.unsettled.Unsettled.at.Goals as goal
use Rattle.rip_check.specs.Cases.{told_in}

-- the equation of a marked place
failing_at : (n : Network) (s : State) (r p v : ℕ) (mark : Option ℕ) → mark ≡ Some v → IsMark n s r p mark → (1 ≤ v) × (v ≤ 16) × FailsWith n s r p v
failing_at n s r p v mark e is = rw e at is.fails

there : (P : Type 0) (o : Option ReadRoute) → IfNone o (P → ⊥) → P → IsSome o
there P None none p = absurd (none p)
there P (Some t) none p = refl

pub returns-in_default-clause-none : goal.returns-in_default-clause-none
returns-in_default-clause-none g c =
    let n = c.args.case.now.plan.now in
    let s = told_in c.args.case.now in
    let mark = rw c.as_slice.ensures.value at c.mark_at.ensures in
    let is = rw (← mark) at (c.requires.places.each c.args.router c.args.case.now.prefix c.requires.router c.args.case.now.within) in
    rw c.in_default.is at is.sound

pub unwrap-route-requires : goal.unwrap-route-requires
unwrap-route-requires g c =
    let n = c.args.case.now.plan.now in
    let s = told_in c.args.case.now in
    let mark = rw c.as_slice.ensures.value at c.mark_at.ensures in
    let is = rw (← mark) at (c.requires.places.each c.args.router c.args.case.now.prefix c.requires.router c.args.case.now.within) in
    let failing = failing_at n s c.args.router c.args.case.now.prefix c.in-Some.equation c.mark_at.result c.in-Some.is is in
    there _ c.read.result c.read.ensures.none (route_readable n c.lawful.ensures.plan s (in_range_plan c.args.case.now) c.args.router c.args.case.now.prefix failing.2.route c.requires.router failing.2.fits)

pub place_of-requires-clause-equation : goal.place_of-requires-clause-equation
place_of-requires-clause-equation g c =
    let n = c.args.case.now.plan.now in
    let s = told_in c.args.case.now in
    let mark = rw c.as_slice.ensures.value at c.mark_at.ensures in
    let is = rw (← mark) at (c.requires.places.each c.args.router c.args.case.now.prefix c.requires.router c.args.case.now.within) in
    let failing = failing_at n s c.args.router c.args.case.now.prefix c.in-Some.equation c.mark_at.result c.in-Some.is is in
    (omega (arith, failing.0, c.from.ensures), omega (arith, failing.1, c.from.ensures))

pub returns-clause-some : goal.returns-clause-some
returns-clause-some g c =
    let n = c.args.case.now.plan.now in
    let s = told_in c.args.case.now in
    let r = c.args.router in
    let p = c.args.case.now.prefix in
    let t = route_of c.unwrap-route.result in
    let read = rw c.unwrap-route.ensures at c.read.ensures.some in
    let fits : FitsThere n s r p t = record { quiet = rw c.unwrap-route.ensures at c.read.ensures.quiet; fits = read.fits } in
    let mark = rw c.as_slice.ensures.value at c.mark_at.ensures in
    let is = rw (← mark) at (c.requires.places.each r p c.requires.router c.args.case.now.within) in
    let failing = (failing_at n s r p c.in-Some.equation c.mark_at.result c.in-Some.is is).2 in
    let one : failing.route ≡ t = one_there n c.lawful.ensures.plan s r p failing.route t c.requires.router failing.fits fits in
    rw c.place_of.ensures (
      refl,
      refl,
      record {
        fits = fits;
        fails = λ holds. failing.fails (rw one holds);
        equation = rw c.from.ensures failing.equation;
        hidden = read.hidden;
      },
    )
