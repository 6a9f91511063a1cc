use Rattle.std.proofs.Common.{◌≡◌, ◌∙◌, ◌+◌, ◌++◌, ℕ, suc, ap, sym, subst, arith, refl}
use Rattle.rip_table.specs.SceneViews.{view_of}
use Rattle.rip_table.specs.Scenes.{View, closed_view, passed_view}
use Rattle.rip_table.specs.Seconds.{after_quiet, quiet}
use Rattle.rip_report.specs.WatchText.{FilmOf, FilmToSettled, IsShot}
use Rattle.rip_report.proofs.OutLemmas.{adds_nothing}
use Rattle.rip_report.proofs.WatchLemmas.{added_then, after_more, film_more, film_none, film_settled}
use Rattle.rip_report.proofs.watch.film.Film.pass_quiet.Goals as goal

pub loop-init : goal.loop-init
loop-init g c = record {
  film = adds_nothing (film_none c.args.plan.now c.args.until_settled c.args.self.now.last.items);
  sent = λ gone. gone;
  view = refl;
  second = omega arith;
  fits = c.requires.fits;
}

pub returns-then-is_end-clause-film : goal.returns-then-is_end-clause-film
returns-then-is_end-clause-film g c =
    let n = c.args.plan.now in
    let v = view_of g.T.WindowTable.window c.args.self.now.scene in
    let k = c.loop.counter in
    let next : suc k ≡ k + 1 = omega arith in
    let ends = c.is_end.ensures.ends c.if-is_end.true in
    let shown : view_of g.T.WindowTable.window c.show.new.self.scene ≡ closed_view n (after_quiet n k v) = c.in_ok-status.ensures.view ∙ ap (closed_view n) c.loop.invariant.view in
    added_then
    (λ text more film shot. (
      ends.0,
      (
        k,
        c.loop-test.true,
        subst (λ (j : ℕ). FilmToSettled n c.args.self.now.last.items (quiet n j c.args.self.now.second v) c.show.new.self.last.items (text ++ more)) next
            (film_settled c.args.self.now.second k v film ends.0
            (subst (λ (s : ℕ). IsShot n s (closed_view n (after_quiet n k v)) c.loop.self.last.items (record { text = c.show.new.self.last.items; status = c.in_ok-status.status }) more)
            c.loop.invariant.second
            (subst (λ (u : View). IsShot n c.loop.self.second u c.loop.self.last.items (record { text = c.show.new.self.last.items; status = c.in_ok-status.status }) more) shown shot))
            ends.1),
      ),
    ))
    c.loop.invariant.film c.in_ok-status.ensures.shot

pub loop-preserved : goal.loop-preserved
loop-preserved g c =
    let n = c.args.plan.now in
    let v = view_of g.T.WindowTable.window c.args.self.now.scene in
    let k = c.loop.counter in
    let next : suc k ≡ k + 1 = omega arith in
    let shown : view_of g.T.WindowTable.window c.show.new.self.scene ≡ closed_view n (after_quiet n k v) = c.in_ok-status.ensures.view ∙ ap (closed_view n) c.loop.invariant.view in
    record {
      film = added_then
          (λ text more film shot. subst (λ (j : ℕ). FilmOf n c.args.until_settled c.args.self.now.last.items (quiet n j c.args.self.now.second v) c.show.new.self.last.items (text ++ more)) next
          (film_more c.args.self.now.second k v film
          (subst (λ (s : ℕ). IsShot n s (closed_view n (after_quiet n k v)) c.loop.self.last.items (record { text = c.show.new.self.last.items; status = c.in_ok-status.status }) more)
          c.loop.invariant.second
          (subst (λ (u : View). IsShot n c.loop.self.second u c.loop.self.last.items (record { text = c.show.new.self.last.items; status = c.in_ok-status.status }) more) shown shot))
          (c.is_end.ensures.goes_on c.if-is_end.false)))
          c.loop.invariant.film c.in_ok-status.ensures.shot;
      sent = λ gone. c.in_ok-status.ensures.sent (c.loop.invariant.sent gone);
      view = c.pass.ensures.view ∙ ap passed_view shown ∙ sym (after_more n k v) ∙ ap (λ (j : ℕ). after_quiet n j v) next;
      second = omega (arith, c.loop.invariant.second, c.in_ok-status.ensures.second);
      fits = c.pass.ensures.fits n c.in_ok-status.ensures.fits;
    }
