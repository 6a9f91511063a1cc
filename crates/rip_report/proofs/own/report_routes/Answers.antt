use Rattle.std.proofs.Common.{◌≡◌, ◌∙◌, Result, Err, rules, subst, sym}
use Rattle.rip_routes.specs.OwnTables.{OwnTables}
use Rattle.rip_routes.specs.declared.error.RoutesError.{RoutesError}
use Rattle.rip_report.specs.Runs.{PullsLittleBehind}
use Rattle.rip_report.proofs.StopLemmas.{if_done}
use Rattle.rip_report.specs.OwnText.{RoutesReport, a_refusal, of_tables, refused_routes}
use Rattle.rip_report.proofs.EndLemmas.{prints_also}
use Rattle.rip_report.proofs.GivenLemmas.{drawn}
use Rattle.rip_report.proofs.OwnTextLemmas.{judged_told}
use Rattle.rip_report.proofs.own.report_routes.Goals as goal

one_error : (e d : RoutesError) → ◌≡◌ {A = Result OwnTables RoutesError} (Err e) (Err d) → e ≡ d
one_error e d h = cc h

pub returns-in-Ok-Ok-clause-prints : goal.returns-in-Ok-Ok-clause-prints
returns-in-Ok-Ok-clause-prints g c = λ text given.
    let n = c.args.plan.now in
    let told_of = rw (c.in-Ok-Ok.is, c.in-Ok-Ok.field-0-is) at c.read_routes-source.ensures.told in
    let told = told_of text given in
    prints_also _ (RoutesReport (g.C.OwnReport.is_text c.args.command.now n) n text) g.K.Sink.taken g.K.Sink.broken c.args.out c.report_tables-out.result.0 c.report_tables-out.result.1
    (λ w h. of_tables _ h.0 w told h.1 h.2) c.report_tables-out.ensures.prints

pub returns-in-Ok-Ok-clause-judged : goal.returns-in-Ok-Ok-clause-judged
returns-in-Ok-Ok-clause-judged g c = λ text given t is.
    let told_of = rw (c.in-Ok-Ok.is, c.in-Ok-Ok.field-0-is) at c.read_routes-source.ensures.told in
    let same = c.told_texts.ensures.one c.args.plan.now text _ t c.lawful.ensures (told_of text given) is in
    judged_told c.args.plan.now _ t c.report_tables-out.result.1 same c.report_tables-out.ensures.judged

pub returns-in-Ok-Err-clause-prints : goal.returns-in-Ok-Err-clause-prints
returns-in-Ok-Err-clause-prints g c = λ text given.
    let n = c.args.plan.now in
    let e = c.in-Ok-Err.error in
    let told_of = rw (c.in-Ok-Err.is, c.in-Ok-Err.field-0-is) at c.read_routes-source.ensures.told in
    let told = told_of text given in
    prints_also (λ w. w ≡ refused_routes e) (RoutesReport (g.C.OwnReport.is_text c.args.command.now n) n text) g.K.Sink.taken g.K.Sink.broken c.args.out c.refuse_routes-out.result.0
    c.refuse_routes-out.result.1 (λ w is. rw is (a_refusal e told)) c.refuse_routes-out.ensures.prints

pub returns-in-Ok-Ok-clause-reads : goal.returns-in-Ok-Ok-clause-reads
returns-in-Ok-Ok-clause-reads g c =
    let S = g.R.Source in
    let after = c.read_routes-source.result.0 in
    record {
      draws = drawn S.given S.coming S.broken S.at_end c.args.routes after _ c.read_routes-source.ensures.went (g.met.R.Source.nothing_left after) (search rules);
      read = search rules;
      ended = search rules;
    }

pub returns-in-Ok-Err-clause-reads : goal.returns-in-Ok-Err-clause-reads
returns-in-Ok-Err-clause-reads g c =
    let S = g.R.Source in
    let after = c.read_routes-source.result.0 in
    record {
      draws = drawn S.given S.coming S.broken S.at_end c.args.routes after _ c.read_routes-source.ensures.went (g.met.R.Source.nothing_left after) (search rules);
      read = search rules;
      ended = search rules;
    }

pub returns-in-Ok-Ok-clause-stops : goal.returns-in-Ok-Ok-clause-stops
returns-in-Ok-Ok-clause-stops g c = λ text given e refused.
    let told_of = rw (c.in-Ok-Ok.is, c.in-Ok-Ok.field-0-is) at c.read_routes-source.ensures.told in
    absurd (c.refused_texts.ensures.apart c.args.plan.now text _ e c.lawful.ensures (told_of text given) refused)

pub returns-in-Ok-Err-clause-stops : goal.returns-in-Ok-Err-clause-stops
returns-in-Ok-Err-clause-stops g c = λ text given e refused.
    let n = c.args.plan.now in
    let here = c.in-Ok-Err.error in
    let told_of = rw (c.in-Ok-Err.is, c.in-Ok-Err.field-0-is) at c.read_routes-source.ensures.told in
    let stops = rw (c.in-Ok-Err.is, c.in-Ok-Err.field-0-is) at c.read_routes-source.ensures.stops in
    let words = λ (o : RoutesError). c.refused_texts.ensures.refused n text o c.lawful.ensures in
    let same = one_error here e (sym ((words here).1 (told_of text given)) ∙ (words e).1 refused) in
    let P = λ (o : RoutesError). PullsLittleBehind g.R.Source.given c.args.routes c.read_routes-source.result.0 o.line in
    if_done _ c.refuse_routes-out.result.1 (subst P same stops)
