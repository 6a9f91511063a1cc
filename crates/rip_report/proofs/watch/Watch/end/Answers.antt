use Rattle.rip_table.specs.SceneViews.{view_of}
use Rattle.rip_report.specs.Films.{stage_of}
use Rattle.rip_report.proofs.FilmLemmas.{ends_film, ends_nothing}
use Rattle.rip_report.proofs.watch.Watch.end.Goals as goal

pub returns-then-self : goal.returns-then-self
returns-then-self g c = λ window until.
    let shown = c.show.new.self in
    ends_film c.args.plan.now window until (stage_of g.T.WindowTable.window c.args.self.now) c.args.out.now c.show.new.out shown.last.items (view_of g.T.WindowTable.window shown.scene) c.show.result
    c.if-self.true c.show.ensures.view c.show.ensures.shot c.show.ensures.nothing

pub returns-else-self : goal.returns-else-self
returns-else-self g c = λ window until. ends_nothing c.args.plan.now window until (stage_of g.T.WindowTable.window c.args.self.now) c.args.out.now c.if-self.false
