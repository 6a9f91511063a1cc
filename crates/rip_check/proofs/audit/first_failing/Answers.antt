use Rattle.std.proofs.Common.{◌≡◌, ℕ, ◌<◌, Bool, true, false, not, Option, Some, None, IfSome, IfNone, is_some, below_more, length, refl, sym, ap, subst, ◌∙◌, arith}
use Rattle.rip_check.specs.Tables.{FitsThere}
use Rattle.rip_check.specs.Verdicts.{IsSound, route_of}
use Rattle.rip_check.proofs.CaseLemmas.{in_range_plan}
use Rattle.rip_check.proofs.ReadableLemmas.{one_fails, one_sound, route_readable}
use Rattle.rip_check.proofs.FirstPlaceLemmas.{so_far_on, so_far_first, all_so_far, IsFirstSoFar}
use Rattle.rip_check.proofs.audit.first_failing.Goals as goal
use Rattle.rip_check.proofs.audit.first_failing.Goals.{then-is_none+then-router-below+then-is_some, else-is_none, else-is_none-via-then-is_none+then-router-below+else-is_some, else-is_none-via-then-is_none+else-router-below, else-is_none-via-else-is_none}
use Rattle.rip_check.specs.Cases.{told_in}

some_fails : {P : Type 0} (o : Option ℕ) → IfSome o (λ _. P) → is_some o ≡ true → P
some_fails None h e = absurd cc
some_fails (Some v) h e = h

none_holds : {P : Type 0} (o : Option ℕ) → IfNone o P → is_some o ≡ false → P
none_holds None h e = h
none_holds (Some v) h e = absurd cc

is_nothing : (o : Option ℕ) (b : Bool) → is_some o ≡ not b → b ≡ true → o ≡ None
is_nothing None b e h = refl
is_nothing (Some r) b e h = let clash : true ≡ false = e ∙ ap not h in absurd cc

is_something : (o : Option ℕ) (b : Bool) → is_some o ≡ not b → b ≡ false → o ≡ None → ⊥
is_something o b e h none = let clash : false ≡ true = sym (ap is_some none) ∙ e ∙ ap not h in cc

pub loop-router-preserved : goal.loop-router-preserved
loop-router-preserved g c =
    let n = c.args.case.now.plan.now in
    let plan = c.lawful.ensures in
    let shown = (told_in c.args.case.now) in
    let range = (in_range_plan c.args.case.now) in
    let r = c.loop-router.router in
    let p = c.args.case.now.prefix in
    let Fine : ℕ → Type 0 = λ s. IsSound n shown s p in
    let known : r < length n.routers = omega (arith, c.loop-router-test.true, c.loop-router.auto.router-end, c.routers-router-end.ensures) in
    let t = route_of c.in-Some.route in
    let fits : FitsThere n shown r p t = record { quiet = c.in-Some.ensures.quiet; fits = c.in-Some.ensures.some.fits } in
    let was = c.loop-router.invariant.failing in
    record {
      readable = below_more _ _ c.loop-router.invariant.readable (route_readable n plan shown range r p t known fits);
      failing = elim c.if-is_none.branch [
        | then-is_none+then-router-below+then-is_some w ↦
            let none = is_nothing c.loop-router.first c.is_none.result c.is_none.ensures w.if-is_none.true in
            rw w.first-is (so_far_first c.args.below r Fine (subst (IsFirstSoFar c.args.below r Fine) none was) w.if-router-below.true
            (one_fails n plan shown range r p t fits (some_fails w.failing_equation.result w.failing_equation.ensures.fails (sym w.is_some.ensures ∙ w.if-is_some.true))))
        | else-is_none w ↦ rw w.first-is (elim w.else-is_none.branch [
          | else-is_none-via-then-is_none+then-router-below+else-is_some w' ↦ so_far_on c.args.below r Fine c.loop-router.first was
              (λ none less. one_sound n plan shown range r p t known fits (none_holds w'.failing_equation.result w'.failing_equation.ensures.holds (sym w'.is_some.ensures ∙ w'.if-is_some.false)))
          | else-is_none-via-then-is_none+else-router-below w' ↦ so_far_on c.args.below r Fine c.loop-router.first was
              (λ none less. absurd (omega (arith, less, w'.if-router-below.false)))
          | else-is_none-via-else-is_none w' ↦ so_far_on c.args.below r Fine c.loop-router.first was
              (λ none less. absurd (is_something c.loop-router.first c.is_none.result c.is_none.ensures w'.if-is_none.false none))
        ])
      ];
    }

pub returns-clause-failing : goal.returns-clause-failing
returns-clause-failing g c =
    all_so_far c.args.below c.loop-router.router (λ s. IsSound c.args.case.now.plan.now (told_in c.args.case.now) s c.args.case.now.prefix) c.loop-router.first
    (omega (arith, c.requires, c.loop-router-test.false, c.loop-router.auto.router-end, c.routers-router-end.ensures)) c.loop-router.invariant.failing
