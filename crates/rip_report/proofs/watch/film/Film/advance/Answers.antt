use Rattle.std.proofs.Common.{◌≡◌, ◌+◌, ◌-◌, ◌∙◌, min, ℕ, ap}
use Rattle.rip_table.specs.SceneViews.{view_of}
use Rattle.rip_report.proofs.OutLemmas.{added_also}
use Rattle.rip_report.proofs.WatchLemmas.{judged_after, judged_film, quiet_film, which_judged}
use Rattle.rip_report.proofs.watch.film.Film.advance.Goals as goal

pub returns-then-not-settled-clause-film : goal.returns-then-not-settled-clause-film
returns-then-not-settled-clause-film g c =
    let n = c.args.plan.now in
    let v = view_of g.T.WindowTable.window c.args.self.now.scene in
    let laws = c.lasting_scenes.ensures in
    let second = c.args.self.now.second in
    let window = c.args.watching.now.length in
    let count = c.args.to - second in
    let judged = c.min-judged.result in
    let most : judged ≡ min count (window + 1) = c.min-judged.ensures ∙ ap (λ (m : ℕ). min count m) (ap (λ (m : ℕ). m + 1) (c.from.ensures ∙ c.get.ensures.seconds)) in
    let which = which_judged window count judged most in
    added_also
    (λ text film. quiet_film second judged count v c.in_ok-settled.settled c.if-not-settled.true
    (judged_film laws.passed laws.closed laws.over laws.once n window second v c.requires.lasts count judged which c.args.watching.now.until_settled c.args.self.now.last.items
    c.pass_quiet.new.self.last.items text)
    film)
    c.in_ok-settled.ensures.film

pub returns-then-not-settled-clause-view : goal.returns-then-not-settled-clause-view
returns-then-not-settled-clause-view g c settled =
    let n = c.args.plan.now in
    let v = view_of g.T.WindowTable.window c.args.self.now.scene in
    let laws = c.lasting_scenes.ensures in
    let second = c.args.self.now.second in
    let window = c.args.watching.now.length in
    let count = c.args.to - second in
    let judged = c.min-judged.result in
    let most : judged ≡ min count (window + 1) = c.min-judged.ensures ∙ ap (λ (m : ℕ). min count m) (ap (λ (m : ℕ). m + 1) (c.from.ensures ∙ c.get.ensures.seconds)) in
    c.in_ok-settled.ensures.view settled
    ∙ judged_after laws.passed laws.closed laws.over laws.once n window second v c.requires.lasts count judged (which_judged window count judged most)
