use Rattle.rip_plan.proofs.PrefixNetworkLemmas.{prefix_network}
use Rattle.rip_check.specs.Cases.{block_of, state_of}
use Rattle.rip_report.specs.RoutesText.{a_route, route_of, unheard}
use Rattle.rip_report.proofs.OutLemmas.{adds_one}
use Rattle.rip_report.proofs.UnsettledLemmas.{there_known}
use Rattle.rip_report.proofs.routes.add_found.Goals as goal

pub push_unread_line-requires-clause-known : goal.push_unread_line-requires-clause-known
push_unread_line-requires-clause-known g c =
    let first = c.in-Some.ensures.some.1 in
    let case = c.args.case.now in
    (prefix_network case.plan.now c.lawful.ensures (block_of case)).link_known first.interface c.args.router c.in-Some.link first.cost first.its

pub push_read_line-requires-clause-way : goal.push_read_line-requires-clause-way
push_read_line-requires-clause-way g c =
    let found = c.args.found.now in
    there_known c.args.case.now.plan.now (state_of c.args.case.now) c.args.router c.args.case.now.prefix (route_of found) c.lawful.ensures c.requires.read.fits

pub returns-in-Some : goal.returns-in-Some
returns-in-Some g c =
    let found = c.args.found.now in
    adds_one (unheard (route_of found) found.hidden c.in-Some.link c.requires.read c.in-Some.ensures.some.0 c.in-Some.ensures.some.1) c.push_unread_line.ensures

pub returns-in-None : goal.returns-in-None
returns-in-None g c =
    let found = c.args.found.now in
    adds_one (a_route (route_of found) found.hidden c.least-least.result c.requires.read c.in-None.ensures.none c.least-least.ensures) c.push_read_line.ensures
