use Rattle.std.proofs.Common.{◌∙◌, ap, sym}
use Rattle.rip_table.specs.SceneViews.{view_of}
use Rattle.rip_table.specs.Window.{shown}
use Rattle.rip_report.proofs.OutLemmas.{adds_one}
use Rattle.rip_report.proofs.WatchLemmas.{no_episode, scene_judged, scene_refused, settles_judged, settles_refused}
use Rattle.rip_report.proofs.EndLemmas.{written_also}
use Rattle.rip_report.proofs.watch.film.add_scene.Goals as goal

pub returns-in-Some-clause-adds : goal.returns-in-Some-clause-adds
returns-in-Some-clause-adds g c =
    let v = view_of g.T.WindowTable.window c.args.scene.now in
    record { text = adds_one (scene_refused c.args.plan.now v c.in-Some.refusal (sym c.refusal.ensures ∙ c.in-Some.is)) c.push_refusal_line.ensures; nothing = tt }

pub returns-in-None-clause-adds : goal.returns-in-None-clause-adds
returns-in-None-clause-adds g c =
    let v = view_of g.T.WindowTable.window c.args.scene.now in
    let same = g.met.T.WindowTable.shows c.table.result.now ∙ ap shown c.table.ensures in
    written_also (scene_judged c.args.plan.now v _ same (no_episode v (sym c.refusal.ensures ∙ c.in-None.is))) c.add_audit.ensures.adds

pub returns-in-Some-clause-settles : goal.returns-in-Some-clause-settles
returns-in-Some-clause-settles g c =
    let v = view_of g.T.WindowTable.window c.args.scene.now in
    settles_refused c.args.plan.now v c.in-Some.refusal (sym c.refusal.ensures ∙ c.in-Some.is)

pub returns-in-None-clause-settles : goal.returns-in-None-clause-settles
returns-in-None-clause-settles g c =
    let v = view_of g.T.WindowTable.window c.args.scene.now in
    let same = g.met.T.WindowTable.shows c.table.result.now ∙ ap shown c.table.ensures in
    settles_judged c.add_audit.result c.args.plan.now v _ same (no_episode v (sym c.refusal.ensures ∙ c.in-None.is)) c.add_audit.ensures.judged
