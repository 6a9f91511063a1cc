use Rattle.std.proofs.Common.{zero, suc, [], refl}
use Rattle.std.proofs.lemmas.Option.{none-some}
use Rattle.rip_wire.specs.Fields.{number_at}
use Rattle.rip_wire.specs.Message.{message_in, kind_in, entries_at, entry_at, bits_of_mask, prefix_lens}
use Rattle.rip_table.specs.Examples.{one_router, update}
use Rattle.rip_table.specs.Scenes.{View, after_said, closed_view, new_view}
use Rattle.rip_table.specs.State.{State}
use Rattle.rip_table.specs.Window.{shown}
use Rattle.rip_log.specs.TimedText.{captured}
use Rattle.rip_check.specs.Laws.{ShowsRightTables}
use Rattle.rip_check.specs.Tables.{IsHeard, Tables}
use Rattle.rip_check.specs.Told.{told, told_of}
use Rattle.rip_check.specs.declared.way.Way.TheVariants.{Unreachable}
use Rattle.rip_check.proofs.CheckingLemmas.{NamesTested, Passes, lawful}
use Rattle.rip_check.proofs.CheckedPlaceLemmas.{holds_all, shows}
use Rattle.rip_check.proofs.DescentLemmas.{right}
use Rattle.rip_report.proofs.laws.examples.settled_second.Goals as goal

passes : Passes one_router
passes = record { counts = refl; links = refl; lists = refl; routers = refl; interfaces = refl; inside = refl; prefixes = refl; places = refl; has = refl; also = refl }

-- what is to be seen at the end of the second
abbrev seen : View
seen = closed_view one_router (after_said one_router 90 1 (captured 0 (update 16)) (new_view one_router))

abbrev state : State
state = told one_router (shown seen.window)

nowhere : Tables
nowhere r p = record { metric = 16; way = Unreachable }

heard : IsHeard one_router state
unfolding message_in kind_in entries_at entry_at number_at bits_of_mask prefix_lens
heard zero r l c its = refl
heard (suc i) r l c its = absurd (none-some its.interface its.listed)

are_right : NamesTested → ShowsRightTables one_router state
unfolding message_in kind_in entries_at entry_at number_at bits_of_mask prefix_lens nowhere told_of
are_right tested =
    let plan = lawful one_router passes tested in
    let tables = shows one_router state nowhere plan heard refl in
    (nowhere, tables, right one_router state nowhere plan tables (holds_all one_router state nowhere refl))

pub returns : goal.returns
unfolding message_in kind_in entries_at entry_at number_at bits_of_mask prefix_lens
returns c = ([], [], 0, seen, refl, (λ e. refl), (refl, are_right (λ text. (c.names.ensures.exact text).0)))
