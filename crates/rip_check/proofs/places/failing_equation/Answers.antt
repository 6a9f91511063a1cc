use Rattle.std.proofs.Common.{arith}
use Rattle.std.proofs.lemmas.Bool.Decides.{not_from_Decides}
use Rattle.rip_check.specs.Verdicts.{route_of}
use Rattle.rip_check.proofs.OnePlaceLemmas.{all_hold, is_equation, choice_low}
use Rattle.rip_check.proofs.places.failing_equation.Goals as goal
use Rattle.rip_check.proofs.places.failing_equation.Goals.{else-route-equation-via-then-route-equation+else-is_given, else-route-equation-via-else-route-equation}
use Rattle.rip_check.specs.Settled.{IsLeastChoice}
use Rattle.rip_check.specs.Cases.{network_of, told_in}

pub is_given-requires-clause-least : goal.is_given-requires-clause-least
is_given-requires-clause-least g c = λ v choice. omega (arith, c.if-route-equation.true, c.least_choice-equation.ensures.least v choice)

pub returns-then-is_given-clause-holds : goal.returns-then-is_given-clause-holds
returns-then-is_given-clause-holds g c =
    let n = network_of c.args.case.now in
    let shown = (told_in c.args.case.now) in
    let is : IsLeastChoice n shown c.args.router c.args.case.now.prefix c.least_choice-equation.result =
    record { chosen = c.least_choice-equation.ensures.chosen; least = c.least_choice-equation.ensures.least } in
    all_hold n shown c.args.router c.args.case.now.prefix c.least_choice-equation.result (route_of c.args.route) is c.if-route-equation.true (c.is_given.ensures.0 c.if-is_given.true)

pub returns-clause-equation : goal.returns-clause-equation
returns-clause-equation g c = (
  choice_low (network_of c.args.case.now) (told_in c.args.case.now) c.lawful.ensures.network c.args.router c.args.case.now.prefix c.least_choice-equation.result c.least_choice-equation.ensures.chosen,
  c.least_choice-equation.ensures.most,
  record { chosen = c.least_choice-equation.ensures.chosen; least = c.least_choice-equation.ensures.least },
)

pub returns-clause-fails : goal.returns-clause-fails
returns-clause-fails g c = λ holds.
    let n = network_of c.args.case.now in
    let shown = (told_in c.args.case.now) in
    let is : IsLeastChoice n shown c.args.router c.args.case.now.prefix c.least_choice-equation.result =
    record { chosen = c.least_choice-equation.ensures.chosen; least = c.least_choice-equation.ensures.least } in
    elim c.else-route-equation.branch [
      | else-route-equation-via-then-route-equation+else-is_given w ↦ not_from_Decides w.is_given.result w.is_given.ensures w.if-is_given.false holds.given
      | else-route-equation-via-else-route-equation w ↦
          w.if-route-equation.false (is_equation n shown c.args.router c.args.case.now.prefix c.least_choice-equation.result (route_of c.args.route) is holds)
    ]
