use Rattle.std.proofs.Common.{◌≡◌, ◌≢◌, ◌++◌, ap, rules, List, ℕ, []}
use Rattle.std.specs.Prelude.{codes}
use Rattle.rip_table.specs.SceneViews.{view_of}
use Rattle.rip_report.proofs.OutLemmas.{adds_same, adds_then}
use Rattle.rip_report.proofs.WatchLemmas.{other_shot, same_shot}
use Rattle.rip_report.proofs.watch.film.Film.show.Goals as goal

pub returns-then-ne-clause-shot : goal.returns-then-ne-clause-shot
returns-then-ne-clause-shot g c =
    let v = view_of g.T.WindowTable.window c.close.new.self in
    let other : c.in_ok-text.text.items ≢ c.args.self.now.last.items = search rules in
    let text = adds_then (adds_then (adds_then c.push_bytes.ensures c.push.ensures) c.push_bytes-then-ne.ensures) c.send.ensures.adds in
    other_shot c.args.plan.now v c.in_ok-text.ensures.text c.in_ok-text.ensures.settles other c.write_second.ensures
    (adds_same (ap (λ (t : List ℕ). ((c.write_second.result ++ codes " ") ++ t) ++ []) c.deref.ensures.value) text)

pub returns-else-ne-clause-shot : goal.returns-else-ne-clause-shot
returns-else-ne-clause-shot g c =
    let v = view_of g.T.WindowTable.window c.close.new.self in
    let same : c.in_ok-text.text.items ≡ c.args.self.now.last.items = search rules in
    same_shot c.args.plan.now v same c.in_ok-text.ensures.text c.in_ok-text.ensures.settles
