use Rattle.std.proofs.Common.{refl}
use Rattle.rip_check.specs.Cases.{told_in}
use Rattle.rip_check.specs.Verdicts.{route_of}
use Rattle.rip_check.proofs.CaseLemmas.{in_range_plan}
use Rattle.rip_check.proofs.ReadableLemmas.{route_readable}
use Rattle.rip_check.proofs.case.Case.route.Goals as goal

pub returns-in-Some-clause-exact : goal.returns-in-Some-clause-exact
returns-in-Some-clause-exact g c =
    let case = c.args.self.now in (
      λ e. route_readable case.plan.now c.lawful.ensures.plan (told_in case) (in_range_plan case) c.args.router case.prefix (route_of c.in-Some.route)
          c.requires (record { quiet = c.in-Some.ensures.quiet; fits = c.in-Some.ensures.some.fits }),
      λ h. refl,
    )

pub returns-in-Some-clause-fits : goal.returns-in-Some-clause-fits
returns-in-Some-clause-fits g c = rw c.metric_of.ensures (record { quiet = c.in-Some.ensures.quiet; fits = c.in-Some.ensures.some.fits })

pub returns-in-Some-clause-one : goal.returns-in-Some-clause-one
returns-in-Some-clause-one g c = rw c.metric_of.ensures c.in-Some.ensures.some.one
