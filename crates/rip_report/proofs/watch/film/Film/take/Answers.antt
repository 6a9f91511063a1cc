use Rattle.std.proofs.Common.{◌≡◌, ◌∙◌, ◌-◌, ℕ, Bool, Ok, ap, subst, sym}
use Rattle.rip_table.specs.SceneViews.{view_of}
use Rattle.rip_table.specs.Scenes.{LastsFor, after_line}
use Rattle.rip_table.specs.Seconds.{after_quiet}
use Rattle.rip_report.specs.Films.{seconds_before}
use Rattle.rip_report.proofs.WatchLemmas.{line_lasts}
use Rattle.rip_report.proofs.watch.film.Film.take.Goals as goal

pub returns-in-Ok-clause-lasts : goal.returns-in-Ok-clause-lasts
returns-in-Ok-clause-lasts g c same =
    let v = view_of g.T.WindowTable.window c.args.self.now.scene in
    let laws = c.lasting_scenes.ensures in
    let window = c.args.watching.now.length in
    let is : view_of g.T.WindowTable.window c.hear.new.self ≡ after_line c.args.plan.now window c.args.line.now (after_quiet c.args.plan.now
    (seconds_before c.args.self.now.second c.args.line.now) v) =
    c.in-Ok.ensures.hears ∙ ap (after_line c.args.plan.now window c.args.line.now)
    (c.in_ok-advance.ensures.view (ap (λ (b : Bool). Ok b) c.if-branch.false) ∙ ap (λ (s : ℕ). after_quiet c.args.plan.now (s - c.args.self.now.second) v) c.second_with-to.ensures.later) in
    subst (LastsFor window) (sym is)
    (line_lasts laws.said laws.passed laws.closed c.args.plan.now window c.lawful.ensures.low c.args.line.now (seconds_before c.args.self.now.second c.args.line.now) v c.requires.lasts)
