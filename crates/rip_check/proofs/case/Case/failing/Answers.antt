use Rattle.std.proofs.Common.{refl}
use Rattle.rip_check.specs.Cases.{told_in}
use Rattle.rip_check.specs.Verdicts.{route_of}
use Rattle.rip_check.proofs.CaseLemmas.{in_range_plan}
use Rattle.rip_check.proofs.ReadableLemmas.{one_sound, route_readable}
use Rattle.rip_check.proofs.case.Case.failing.Goals as goal

pub returns-in_default-clause-none : goal.returns-in_default-clause-none
returns-in_default-clause-none g c = λ t fits.
    let case = c.args.self.now in
    absurd (c.in_default.ensures.none (route_readable case.plan.now c.lawful.ensures.plan (told_in case) (in_range_plan case) c.args.router case.prefix t c.requires fits))

pub returns-in-None-clause-none : goal.returns-in-None-clause-none
returns-in-None-clause-none g c =
    let case = c.args.self.now in
    one_sound case.plan.now c.lawful.ensures.plan (told_in case) (in_range_plan case) c.args.router case.prefix (route_of c.in-Some.route)
    c.requires (record { quiet = c.in-Some.ensures.quiet; fits = c.in-Some.ensures.some.fits }) c.in-None.ensures.holds

pub returns-in-Some-failing_equation-clause-some : goal.returns-in-Some-failing_equation-clause-some
returns-in-Some-failing_equation-clause-some g c =
    let failing = c.in-Some-failing_equation.ensures in
    rw c.place_of.ensures (
      refl,
      refl,
      record {
        fits = record { quiet = c.in-Some.ensures.quiet; fits = c.in-Some.ensures.some.fits };
        fails = failing.fails;
        equation = failing.equation.2;
        hidden = c.in-Some.ensures.some.hidden;
      },
    )
