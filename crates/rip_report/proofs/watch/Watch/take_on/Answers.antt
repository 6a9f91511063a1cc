use Rattle.std.proofs.Common.{Ok, ap, inr, refl}
use Rattle.rip_report.specs.Films.{stage_of}
use Rattle.rip_report.proofs.FilmLemmas.{shown_begun, shown_on, shown_settled}
use Rattle.rip_report.proofs.OutLemmas.{added_also}
use Rattle.rip_report.proofs.watch.Watch.take_on.Goals as goal

pub returns-in-Ok-true-clause-takes : goal.returns-in-Ok-true-clause-takes
returns-in-Ok-true-clause-takes g c =
    let film = rw c.in-Ok-true.field-0-test at c.in-Ok-true.ensures.film in
    added_also (λ more. shown_settled c.args.line.now c.requires.begun c.take.new.self.last.items more) film

pub returns-in-Ok-false-clause-takes : goal.returns-in-Ok-false-clause-takes
returns-in-Ok-false-clause-takes g c =
    let film = rw c.in-Ok-false.field-0-test at c.in-Ok-false.ensures.film in
    let goes_on = ap Ok c.in-Ok-false.field-0-test in
    let new = stage_of g.T.WindowTable.window (record { film = c.take.new.self; begun = c.args.self.now.begun }) in
    added_also
    (λ more film. shown_on c.args.line.now c.requires.begun new more film c.requires.begun (c.in-Ok-false.ensures.second goes_on) (c.in-Ok-false.ensures.view goes_on))
    film

pub returns-in-Err-clause-takes : goal.returns-in-Err-clause-takes
returns-in-Err-clause-takes g c = added_also (λ more. shown_begun c.args.line.now c.requires.begun more) c.in-Err.ensures.begun

pub returns-in-Ok-true-clause-ends : goal.returns-in-Ok-true-clause-ends
returns-in-Ok-true-clause-ends g c =
    let film = rw c.in-Ok-true.field-0-test at c.in-Ok-true.ensures.film in
    inr (film.is_text.0, refl)
