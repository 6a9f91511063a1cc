use Rattle.std.proofs.Common.{List, length, ap, sym, subst, arith}
use Rattle.rip_wire.specs.Prefix.{Block}
use Rattle.rip_check.specs.Cases.{network_of, plan_of, state_of, told_in}
use Rattle.rip_check.specs.Networks.{network_at}
use Rattle.rip_check.specs.Settled.{IsLeastChoice}
use Rattle.rip_check.proofs.OwnWrongLemmas.{told_unheard}
use Rattle.rip_check.proofs.wrong_places.WrongPlaces.at.Goals as goal

pub returns-in_default-clause-none : goal.returns-in_default-clause-none
returns-in_default-clause-none g c =
    let mark = rw c.as_slice.ensures.value at c.mark_at.ensures in
    let is = rw (← mark) at (c.requires.places.each c.args.router c.args.case.now.prefix c.requires.router c.args.case.now.within) in
    rw c.in_default.is at is.sound

pub wrong_by-wrong-requires-clause-prefix : goal.wrong_by-wrong-requires-clause-prefix
wrong_by-wrong-requires-clause-prefix g c = omega (arith, c.args.case.now.within, ap length c.requires.told.prefixes)

pub wrong_by-wrong-requires-clause-equation : goal.wrong_by-wrong-requires-clause-equation
wrong_by-wrong-requires-clause-equation g c =
    let case = c.args.case.now in
    let n = plan_of case in
    let state = state_of case in
    let r = c.args.router in
    let p = case.prefix in
    let same = told_unheard n state c.requires.told.unheard in
    let mark = rw c.as_slice.ensures.value at c.mark_at.ensures in
    let is = rw (← mark) at (c.requires.places.each r p c.requires.router case.within) in
    let fails = rw c.in-Some.is at is.fails in
    let choice : IsLeastChoice (network_of case) state r p c.in-Some.equation =
    subst (λ (x : List Block). IsLeastChoice (network_at n x p) state r p c.in-Some.equation) (sym c.requires.told.prefixes) fails.2 in
    let choice' : IsLeastChoice (network_of case) (told_in case) r p c.in-Some.equation = rw same choice in
    rw c.from.ensures choice'
