use Rattle.rip_report.specs.HeardText.{first_holder, nobody}
use Rattle.rip_report.proofs.HeardLemmas.{is_listed}
use Rattle.rip_report.proofs.OutLemmas.{adds_one, adds_then}
use Rattle.rip_report.proofs.heard.who.add_who.Goals as goal

pub push_router-requires : goal.push_router-requires
push_router-requires g c =
    let x = c.in-Some.interface in
    let is = c.in-Some.ensures.some in
    record { known = c.lawful.ensures.router_known is.0 x.router x.link x.cost (is_listed c.args.plan.now is.0 x is.1.listed) }

pub push_link-requires : goal.push_link-requires
push_link-requires g c =
    let x = c.in-Some.interface in
    let is = c.in-Some.ensures.some in
    record { known = c.lawful.ensures.link_known is.0 x.router x.link x.cost (is_listed c.args.plan.now is.0 x is.1.listed) }

pub returns-in-Some : goal.returns-in-Some
returns-in-Some g c =
    let is = c.in-Some.ensures.some in
    adds_one (first_holder is.0 c.in-Some.interface is.1) (adds_then (adds_then c.push_router.ensures c.push.ensures) c.push_link.ensures)

pub returns-in-None : goal.returns-in-None
returns-in-None g c = adds_one (nobody c.in-None.ensures.none) c.push-in-None.ensures
