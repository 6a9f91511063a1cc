use Rattle.std.proofs.Common.{◌≡◌, ◌+◌}
use Rattle.rip_table.specs.SceneViews.{view_of}
use Rattle.rip_table.specs.State.{Fits}
use Rattle.rip_table.specs.Window.{shown}
use Rattle.rip_report.specs.Outs.{AddsOne, HasGoneOut}
use Rattle.rip_table.specs.Seconds.{after_quiet, quiet}
use Rattle.rip_report.specs.WatchText.{FilmOf}
use Rattle.rip_report.proofs.watch.film.Film.pass_quiet.Given as goal

abbrev pub invariant-loop : goal.invariant-loop
invariant-loop g l = record {
  film : AddsOne l.fn.out l.out (FilmOf l.plan l.until_settled l.fn.self.last.items (quiet l.plan l.counter l.fn.self.second (view_of g.T.WindowTable.window l.fn.self.scene)) l.self.last.items);
  sent : HasGoneOut l.fn.out → HasGoneOut l.out;
  view : view_of g.T.WindowTable.window l.self.scene ≡ after_quiet l.plan l.counter (view_of g.T.WindowTable.window l.fn.self.scene);
  second : l.self.second ≡ l.fn.self.second + l.counter;
  fits : Fits l.plan (shown (view_of g.T.WindowTable.window l.self.scene).window);
}
