use Rattle.std.proofs.Common.{◌+◌, ◌<◌, arith, length}
use Rattle.rip_check.specs.Verdicts.{IsSound}
use Rattle.rip_check.proofs.OrderLemmas.{row_first, rows_on, StartsAt, starts_none, starts_some, none_sooner, in_front, at_back, all_later}
use Rattle.rip_check.proofs.audit.next_unsettled.Goals as goal
use Rattle.rip_check.proofs.audit.next_unsettled.Goals.{in-None, in-Some}
use Rattle.rip_check.specs.Told.{told}

pub loop-router-init : goal.loop-router-init
loop-router-init g c =
    let start : StartsAt c.args.after c.match-after.row.0 c.match-after.row.1 =
    elim c.match-after.branch [
      | in-None w ↦ starts_none c.args.after c.match-after.row w.in-None.is w.row-is
      | in-Some w ↦ starts_some c.args.after c.match-after.row w.in-Some.router w.in-Some.prefix w.in-Some.is w.row-is
    ] in
    record {
      rows = λ s q lt known late. absurd (none_sooner c.args.after c.match-after.row.0 c.match-after.row.1 s q start lt late);
      front = λ q late. in_front c.args.after c.match-after.row.0 c.match-after.row.1 q start late;
      back = λ q on. at_back c.args.after c.match-after.row.0 c.match-after.row.1 q start on;
    }

pub returns-in-Some-first_in_row-clause-some : goal.returns-in-Some-first_in_row-clause-some
returns-in-Some-first_in_row-clause-some g c =
    let h = c.in-Some-first_in_row.ensures.some in
    let n = c.args.plan.now in
    let shown = (told c.args.plan.now (g.T.Table.state c.args.table.now)) in
    let f = c.in-Some-first_in_row.found in
    let at : c.loop-router.router < length n.routers = omega (arith, c.loop-router-test.true, c.routers-router-end.ensures) in
    record {
      first = rw h.router (row_first n (length (told c.args.plan.now (g.T.Table.state c.args.table.now)).prefixes) c.args.after (IsSound n shown) c.loop-router.router f.prefix c.loop-router.from
          c.loop-router.invariant.rows c.loop-router.invariant.front c.loop-router.invariant.back h.before at h.from_on h.below
          (λ sound. h.values.fails (rw h.router (sound (record { metric = f.metric; way = f.way }) (rw h.router at h.values.fits)))));
      values = h.values;
    }

pub loop-router-preserved : goal.loop-router-preserved
loop-router-preserved g c =
    let n = c.args.plan.now in
    let shown = (told c.args.plan.now (g.T.Table.state c.args.table.now)) in
    let start : StartsAt c.args.after c.match-after.row.0 c.match-after.row.1 =
    elim c.match-after.branch [
      | in-None w ↦ starts_none c.args.after c.match-after.row w.in-None.is w.row-is
      | in-Some w ↦ starts_some c.args.after c.match-after.row w.in-Some.router w.in-Some.prefix w.in-Some.is w.row-is
    ] in
    record {
      rows = rows_on n (length (told c.args.plan.now (g.T.Table.state c.args.table.now)).prefixes) c.args.after (IsSound n shown) c.loop-router.router c.loop-router.from
          c.loop-router.invariant.rows c.loop-router.invariant.front c.in_default.ensures.none;
      front = λ q late. omega arith;
      back = λ q on. all_later c.args.after c.match-after.row.0 c.match-after.row.1 (c.loop-router.router + 1) q start (omega (arith, c.loop-router.auto.router));
    }

pub returns-clause-none : goal.returns-clause-none
returns-clause-none g c = λ r p at known behind. c.loop-router.invariant.rows r p (omega (arith, at, c.loop-router-test.false, c.routers-router-end.ensures)) known behind
