use Rattle.std.proofs.Common.{◌≡◌, ◌∙◌, ◌<◌, ◌+◌, arith, refl, sym, subst, ap, Err, ℕ}
use Rattle.rip_log.specs.Codes.{is_read as is_read_code}
use Rattle.rip_log.specs.TextCall.{text_lines, text_source, text_to_come}
use Rattle.rip_log.specs.Wholes.{rest_of}
use Rattle.rip_log.proofs.WholeLemmas.{begins_back, went_nowhere, went_on}
use Rattle.rip_table.specs.Rows.{rows_of}
use Rattle.rip_routes.specs.Judging.{grid_tables}
use Rattle.rip_routes.specs.OwnTables.{FitsOwn, OwnTables}
use Rattle.rip_routes.specs.CollectsRoutes.{ToldOutcome, cause_of}
use Rattle.rip_routes.specs.Takes.{is_read}
use Rattle.rip_routes.specs.declared.error.RoutesCause.{RoutesCause}
use Rattle.rip_routes.specs.declared.error.RoutesError.{RoutesError}
use Rattle.rip_routes.proofs.FitsLemmas.{fits_new, fits_said}
use Rattle.rip_routes.proofs.LinesLemmas.{bad_keeps, begins_now, code_read, dropped_kept, dropped_line, dropped_none, not_read, passed_all, passed_more, passed_none, stuck_first, told_bad, told_refused}
use Rattle.rip_routes.proofs.collecting.collect_routes.Goals as goal

pub returns-in_default : goal.returns-in_default
returns-in_default g c =
    let S = g.R.Source in
    record {
      told = λ whole begins. stuck_first c.args.plan.now (text_to_come (rest_of S.given whole) c.args.reader.now);
      fits = tt;
      drops = λ whole begins. dropped_none (text_to_come (rest_of S.given whole) c.args.reader.now);
      went = went_nowhere S.given S.coming S.at_end (text_source c.args.reader.now);
      over = λ fine. cc fine;
      failed = λ bad. cc bad;
      marks = λ fine. refl;
    }

pub lines-init : goal.lines-init
lines-init g c =
    let S = g.R.Source in
    record {
      passed = λ whole begins. passed_none c.args.plan.now (text_to_come (rest_of S.given whole) c.args.reader.now) (text_lines c.args.reader.now) _ c.requires.0 c.in-Ok.ensures.tables;
      went = went_nowhere S.given S.coming S.at_end (text_source c.args.reader.now);
      running = c.requires.1;
      marks = refl;
      ways = c.in-Ok.ensures.ways;
      fits = subst (FitsOwn c.args.plan.now) (sym c.in-Ok.ensures.tables) (fits_new c.args.plan.now);
      width = c.in-Ok.ensures.width;
    }

pub lines-preserved : goal.lines-preserved
lines-preserved g c =
    let S = g.R.Source in
    let n = c.args.plan.now in
    let inv = c.lines.invariant in
    let was = c.lines.reader in
    let now = c.next.follows.lender-at-none in
    let old = grid_tables c.lines.grid.listed.items (rows_of c.lines.grid.rows.entries) in
    let h = rw (c.in-Ok-Some.is, c.in-Ok-Some.field-0-is) at c.next.follows.holds-at-none in
    let few : text_lines was < 1000000 = let behind = h.behind in let most = h.few in omega (arith, behind, most) in
    record {
      passed = λ whole begins.
          let coming = rest_of S.given whole in
          rw h.behind (passed_more n (text_to_come coming c.args.reader.now) (text_to_come coming was) (text_to_come coming now) (text_lines was) old _ c.in-Ok-Some.found.bytes.now few
          (inv.passed whole (begins_back S.given S.coming S.at_end whole (text_source was) (text_source now) h.went begins)) (h.gives inv.running whole begins) c.in-Ok-tell.ensures.tells);
      went = went_on S.given S.coming S.at_end (text_source c.args.reader.now) (text_source was) (text_source now) inv.went h.went;
      running = h.stopped;
      marks = h.marks refl ∙ inv.marks;
      ways = c.in-Ok-tell.ensures.ways;
      fits = fits_said n c.lawful.ensures old _ c.in-Ok-Some.found.bytes.now inv.fits c.in-Ok-tell.ensures.tells;
      width = c.in-Ok-tell.ensures.width ∙ inv.width;
    }

pub lines-smaller : goal.lines-smaller
lines-smaller g c =
    let h = rw (c.in-Ok-Some.is, c.in-Ok-Some.field-0-is) at c.next.follows.holds-at-none in
    let behind = h.behind in
    let most = h.few in
    omega (arith, behind, most)

pub returns-in-Err-tell : goal.returns-in-Err-tell
returns-in-Err-tell g c =
    let S = g.R.Source in
    let n = c.args.plan.now in
    let inv = c.lines.invariant in
    let was = c.lines.reader in
    let now = c.next.follows.lender-at-none in
    let old = grid_tables c.lines.grid.listed.items (rows_of c.lines.grid.rows.entries) in
    let h = rw (c.in-Ok-Some.is, c.in-Ok-Some.field-0-is) at c.next.follows.holds-at-none in
    let few : text_lines was < 1000000 = let behind = h.behind in let most = h.few in omega (arith, behind, most) in
    let number : c.in-Ok-Some.found.line ≡ text_lines was + 1 = h.numbered ∙ h.behind in
    let tells = c.in-Err-tell.ensures.tells in
    let read = not_read n old c.in-Ok-Some.found.bytes.now c.in-Err-tell.cause tells in
    record {
      told = λ whole begins.
          let coming = rest_of S.given whole in
          rw number (told_refused {G = OwnTables} (λ t. t) n (text_to_come coming c.args.reader.now) (text_to_come coming was) (text_to_come coming now) (text_lines was) old c.in-Ok-Some.found.bytes.now c.in-Err-tell.cause few
          (inv.passed whole (begins_back S.given S.coming S.at_end whole (text_source was) (text_source now) h.went begins)) (h.gives inv.running whole begins) read tells);
      fits = tt;
      drops = λ whole begins.
          let coming = rest_of S.given whole in
          rw number (dropped_line n (text_to_come coming c.args.reader.now) (text_to_come coming was) (text_to_come coming now) (text_lines was) old c.in-Ok-Some.found.bytes.now
          (inv.passed whole (begins_back S.given S.coming S.at_end whole (text_source was) (text_source now) h.went begins)) (h.gives inv.running whole begins));
      went = went_on S.given S.coming S.at_end (text_source c.args.reader.now) (text_source was) (text_source now) inv.went h.went;
      over = λ fine. cc fine;
      failed = λ bad. cc (bad, read);
      marks = λ fine. h.marks refl ∙ inv.marks;
    }

pub returns-in-Ok-None : goal.returns-in-Ok-None
returns-in-Ok-None g c =
    let S = g.R.Source in
    let n = c.args.plan.now in
    let inv = c.lines.invariant in
    let was = c.lines.reader in
    let now = c.next.follows.lender-at-none in
    let old = grid_tables c.lines.grid.listed.items (rows_of c.lines.grid.rows.entries) in
    let h = rw (c.in-Ok-None.is, c.in-Ok-None.field-0-is) at c.next.follows.holds-at-none in
    record {
      told = λ whole begins.
          let coming = rest_of S.given whole in
          let gives = h.gives inv.running whole begins in
          passed_all n (text_to_come coming c.args.reader.now) (text_to_come coming was) (text_to_come coming now) (text_lines was) old
          (inv.passed whole (begins_back S.given S.coming S.at_end whole (text_source was) (text_source now) h.went begins)) gives.0 gives.1;
      fits = inv.fits;
      drops = tt;
      went = went_on S.given S.coming S.at_end (text_source c.args.reader.now) (text_source was) (text_source now) inv.went h.went;
      over = λ fine. h.over refl;
      failed = λ bad. cc bad;
      marks = λ fine. h.marks refl ∙ inv.marks;
    }

pub returns-in-Err : goal.returns-in-Err
returns-in-Err g c =
    let S = g.R.Source in
    let n = c.args.plan.now in
    let inv = c.lines.invariant in
    let was = c.lines.reader in
    let now = c.next.follows.lender-at-none in
    let old = grid_tables c.lines.grid.listed.items (rows_of c.lines.grid.rows.entries) in
    let h = rw c.in-Err.is at c.next.follows.holds-at-none in
    let code = c.in-Err.error.code in
    let number : c.in-Err.error.line ≡ text_lines was + 1 = let here = h.here in let behind = h.behind in omega (arith, here, behind) in
    let error : record { line = c.in-Err.error.line; cause = c.cause_of.result } ≡ record { line = text_lines was + 1; cause = cause_of code } =
    ap (λ (m : ℕ). record { line = m; cause = c.cause_of.result }) number ∙ ap (λ (cause : RoutesCause). record { line = text_lines was + 1; cause = cause }) c.cause_of.ensures in
    let given = S.given (text_source now) in
    let read : is_read c.cause_of.result ≡ is_read_code code =
    ap is_read c.cause_of.ensures
    ∙ code_read (text_to_come (rest_of S.given given) was) (text_to_come (rest_of S.given given) now) (text_lines was) code (h.gives inv.running given (begins_now given (S.at_end (text_source now)))) in
    record {
      told = λ whole begins.
          let coming = rest_of S.given whole in
          subst (λ (e : RoutesError). ToldOutcome {G = OwnTables} (λ t. t) n (text_to_come coming c.args.reader.now) (text_to_come coming now) (Err e)) (sym error)
          (told_bad {G = OwnTables} (λ t. t) n (text_to_come coming c.args.reader.now) (text_to_come coming was) (text_to_come coming now) (text_lines was) old code
          (inv.passed whole (begins_back S.given S.coming S.at_end whole (text_source was) (text_source now) h.went begins)) (h.gives inv.running whole begins));
      fits = tt;
      drops = λ whole begins.
          let coming = rest_of S.given whole in
          rw number (dropped_kept n (text_to_come coming c.args.reader.now) (text_to_come coming was) (text_to_come coming now) (text_lines was) old
          (inv.passed whole (begins_back S.given S.coming S.at_end whole (text_source was) (text_source now) h.went begins))
          (bad_keeps (text_to_come coming was) (text_to_come coming now) (text_lines was) code (h.gives inv.running whole begins)));
      went = went_on S.given S.coming S.at_end (text_source c.args.reader.now) (text_source was) (text_source now) inv.went h.went;
      over = λ fine. cc fine;
      failed = λ bad. h.failed (sym read ∙ bad);
      marks = λ fine. h.marks (sym read ∙ fine) ∙ inv.marks;
    }
