use Rattle.std.proofs.Common.{◌≡◌, None, IfNone, length, refl, arith}
use Rattle.rip_check.specs.Firsts.{AreFine}
use Rattle.rip_check.specs.OwnVerdicts.{IsNextWrong, IsOwnFailing, IsOwnSound}
use Rattle.rip_check.specs.Told.{told}
use Rattle.rip_check.proofs.OwnJudgeLemmas.{all_right, as_places, not_right, right_arrive, some_place}
use Rattle.rip_check.proofs.OwnWrongLemmas.{told_unheard}
use Rattle.rip_check.proofs.own_audit.judge_own.Goals as goal

pub unwrap-requires : goal.unwrap-requires
unwrap-requires g c =
    let same = told_unheard c.args.plan.now (g.T.Table.state c.args.table.now) c.requires.told.unheard in
    let first = rw same at (rw c.in-Some-first_wrong_place.is at c.first_wrong_place.ensures) in
    let case = c.new.result in
    let none : IfNone c.wrong-place.result (IsOwnSound case.plan.now (g.T.Table.state case.table.now) (g.G.RouteTables.tables c.args.tables.now) c.in-Some-first_wrong_place.router case.prefix) =
    c.wrong-place.ensures.none in
    some_place _ c.wrong-place.result (rw (c.new.ensures.plan, c.new.ensures.table, c.new.ensures.prefix) at none) first.fails

pub returns-in-Some-first_wrong_place-clause-verdict : goal.returns-in-Some-first_wrong_place-clause-verdict
returns-in-Some-first_wrong_place-clause-verdict g c =
    let n = c.args.plan.now in
    let state = g.T.Table.state c.args.table.now in
    let t = g.G.RouteTables.tables c.args.tables.now in
    let same = told_unheard n state c.requires.told.unheard in
    let first = rw same at (rw c.in-Some-first_wrong_place.is at c.first_wrong_place.ensures) in
    let case = c.new.result in
    let f = c.unwrap.result in
    let found : (f.router ≡ c.in-Some-first_wrong_place.router) × (f.prefix ≡ case.prefix) × IsOwnFailing case.plan.now (g.T.Table.state case.table.now) t f =
    rw c.unwrap.ensures at c.wrong-place.ensures.some in
    let place = rw (c.new.ensures.plan, c.new.ensures.table, c.new.ensures.prefix) at found in
    let is : IsNextWrong n state t None c.unwrap.result = record { first = rw place.0 (rw place.1 first); values = place.2 } in
    (λ r at. c.in_default.ensures.none r (omega arith) at, is)

pub returns-in-Some-first_wrong_place-clause-settled : goal.returns-in-Some-first_wrong_place-clause-settled
returns-in-Some-first_wrong_place-clause-settled g c =
    let n = c.args.plan.now in
    let state = g.T.Table.state c.args.table.now in
    let t = g.G.RouteTables.tables c.args.tables.now in
    let same = told_unheard n state c.requires.told.unheard in
    let first = rw same at (rw c.in-Some-first_wrong_place.is at c.first_wrong_place.ensures) in
    let case = c.new.result in
    let f = c.unwrap.result in
    let found : (f.router ≡ c.in-Some-first_wrong_place.router) × (f.prefix ≡ case.prefix) × IsOwnFailing case.plan.now (g.T.Table.state case.table.now) t f =
    rw c.unwrap.ensures at c.wrong-place.ensures.some in
    let place = rw (c.new.ensures.plan, c.new.ensures.table, c.new.ensures.prefix) at found in
    let is : IsNextWrong n state t None c.unwrap.result = record { first = rw place.0 (rw place.1 first); values = place.2 } in (
      λ e. cc e,
      λ right. absurd (not_right n state t c.lawful.ensures (g.G.RouteTables.are_tables c.args.tables.now) c.requires.told c.unwrap.result (is) right),
    )

pub returns-in-None-clause-verdict : goal.returns-in-None-clause-verdict
returns-in-None-clause-verdict g c =
    let n = c.args.plan.now in
    let state = g.T.Table.state c.args.table.now in
    let t = g.G.RouteTables.tables c.args.tables.now in
    let same = told_unheard n state c.requires.told.unheard in
    let fine : AreFine n (length t.prefixes) None (IsOwnSound n (told n state) t) = rw c.in-None.is at c.first_wrong_place.ensures in
    all_right n state t c.lawful.ensures (g.G.RouteTables.are_tables c.args.tables.now) c.requires.told (λ r at. c.in_default.ensures.none r (omega arith) at) (rw same at fine)

pub returns-in-None-clause-settled : goal.returns-in-None-clause-settled
returns-in-None-clause-settled g c = (λ e. returns-in-None-clause-verdict g c, λ right. refl)

pub returns-in-None-clause-arrive : goal.returns-in-None-clause-arrive
returns-in-None-clause-arrive g c = λ e.
    let n = c.args.plan.now in
    let state = g.T.Table.state c.args.table.now in
    let t = g.G.RouteTables.tables c.args.tables.now in
    right_arrive n state t c.lawful.ensures (g.G.RouteTables.are_tables c.args.tables.now) c.requires.told (returns-in-None-clause-verdict g c)

pub returns-in-Some-first_wrong_place-clause-places : goal.returns-in-Some-first_wrong_place-clause-places
returns-in-Some-first_wrong_place-clause-places g c =
    as_places c.args.plan.now (g.T.Table.state c.args.table.now) (g.G.RouteTables.tables c.args.tables.now) c.lawful.ensures (g.G.RouteTables.are_tables c.args.tables.now) c.requires.told
    (returns-in-Some-first_wrong_place-clause-settled g c)

pub returns-in-None-clause-places : goal.returns-in-None-clause-places
returns-in-None-clause-places g c =
    as_places c.args.plan.now (g.T.Table.state c.args.table.now) (g.G.RouteTables.tables c.args.tables.now) c.lawful.ensures (g.G.RouteTables.are_tables c.args.tables.now) c.requires.told
    (returns-in-None-clause-settled g c)
