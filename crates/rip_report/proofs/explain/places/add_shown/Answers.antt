use Rattle.rip_report.proofs.ExpectLemmas.{its_number}
use Rattle.rip_report.proofs.explain.places.add_shown.Goals as goal

pub add_listed-requires : goal.add_listed-requires
add_listed-requires g c = its_number c.args.case.now.plan.now c.args.router c.of_router-numbers.result.now c.of_router-numbers.ensures.exact

pub returns : goal.returns
returns g c = c.add_listed.ensures _ c.of_router-numbers.ensures.value
