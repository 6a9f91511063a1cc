use Rattle.std.proofs.Common.{◌∙◌, true, refl, sym}
use Rattle.rip_report.specs.Films.{stage_of}
use Rattle.rip_report.proofs.FilmLemmas.{first_takes, takes_untimed, untimed_ends}
use Rattle.rip_report.proofs.watch.Watch.take_first.Goals as goal

pub returns-in-None-clause-takes : goal.returns-in-None-clause-takes
returns-in-None-clause-takes g c =
    let watching = c.args.watching.now in
    takes_untimed c.args.plan.now watching.length watching.until_settled c.args.line.now (stage_of g.T.WindowTable.window c.args.self.now) c.args.out.now c.refuse_untimed.new.out
    c.refuse_untimed.result
    c.requires.begun c.refuse_untimed.ensures

pub returns-in-Some-clause-takes : goal.returns-in-Some-clause-takes
returns-in-Some-clause-takes g c =
    let watching = c.args.watching.now in
    let old = stage_of g.T.WindowTable.window c.args.self.now in
    first_takes c.args.plan.now watching.length watching.until_settled c.args.line.now old (record { begun = true; second = c.in-Some.second; last = old.last; view = old.view })
    (stage_of g.T.WindowTable.window c.take_on.new.self) c.args.out.now c.take_on.new.out c.take_on.result c.requires.begun (sym c.second_of.ensures.second ∙ c.in-Some.is) refl refl refl
    c.take_on.ensures.takes

pub returns-in-None-clause-ends : goal.returns-in-None-clause-ends
returns-in-None-clause-ends g c = untimed_ends c.args.watching.now.until_settled c.args.line.now c.args.out.now c.refuse_untimed.new.out c.refuse_untimed.result c.refuse_untimed.ensures
