use Rattle.std.proofs.Common.{◌≡◌, None, Some, rules, subst}
use Rattle.std.specs.Prelude.{IfOk}
use Rattle.rip_table.specs.State.{State}
use Rattle.rip_report.specs.RefusalText.{refused_log}
use Rattle.rip_report.specs.ReportText.{ReportOf, a_refusal, of_table}
use Rattle.rip_report.specs.Sent.{WentOut}
use Rattle.rip_report.proofs.EndLemmas.{prints_also}
use Rattle.rip_report.proofs.GivenLemmas.{drawn}
use Rattle.rip_report.proofs.ReportLemmas.{no_table, same_table}
use Rattle.rip_report.proofs.StopLemmas.{never_refused, one_refusal, stops_there}
use Rattle.rip_report.proofs.report.report_log.Goals as goal

pub returns-in-Ok-None-clause-prints : goal.returns-in-Ok-None-clause-prints
returns-in-Ok-None-clause-prints g c = λ text begins.
    let s = g.T.Table.state c.read_log-source.new.table in
    let told_of = rw (c.in-Ok-None.is, c.in-Ok-None.field-0-is) at c.read_log-source.ensures.told in
    let told = told_of text begins in
    let says = g.C.Report.is_text c.args.command.now c.args.plan.now in
    prints_also (says s) (ReportOf says c.args.plan.now text) g.K.Sink.taken g.K.Sink.broken c.args.out c.write_report-out.result.0 c.write_report-out.result.1 (λ w h. of_table s w told h) c.write_report-out.ensures.prints

pub returns-in-Ok-None-clause-told : goal.returns-in-Ok-None-clause-told
returns-in-Ok-None-clause-told g c = λ text begins.
    let n = c.args.plan.now in
    let s = g.T.Table.state c.read_log-source.new.table in
    let a = g.K.Sink.taken c.args.out in
    let b = g.K.Sink.taken c.write_report-out.result.0 in
    let told_of = rw (c.in-Ok-None.is, c.in-Ok-None.field-0-is) at c.read_log-source.ensures.told in
    let told = told_of text begins in
    λ t table. subst (λ (u : State). IfOk c.write_report-out.result.1 (WentOut (g.C.Report.is_text c.args.command.now n u) a b))
    (same_table (record { text = c.log_texts.ensures.text; fault = c.log_texts.ensures.fault }) c.one_join.ensures n text s t None told table).0 c.write_report-out.ensures.prints.text

pub returns-in-Ok-None-clause-meaning : goal.returns-in-Ok-None-clause-meaning
returns-in-Ok-None-clause-meaning g c = λ text begins.
    let n = c.args.plan.now in
    let s = g.T.Table.state c.read_log-source.new.table in
    let told_of = rw (c.in-Ok-None.is, c.in-Ok-None.field-0-is) at c.read_log-source.ensures.told in
    let told = told_of text begins in
    λ t table. subst (λ (u : State). IfOk c.write_report-out.result.1 (g.C.Report.means c.args.command.now n u))
    (same_table (record { text = c.log_texts.ensures.text; fault = c.log_texts.ensures.fault }) c.one_join.ensures n text s t None told table).0 c.write_report-out.ensures.meaning

pub returns-in-Ok-Some-clause-prints : goal.returns-in-Ok-Some-clause-prints
returns-in-Ok-Some-clause-prints g c = λ text begins.
    let n = c.args.plan.now in
    let e = c.in-Ok-Some.error in
    let s = g.T.Table.state c.read_log-source.new.table in
    let told_of = rw (c.in-Ok-Some.is, c.in-Ok-Some.field-0-is) at c.read_log-source.ensures.told in
    let told = told_of text begins in
    prints_also (λ w. w ≡ refused_log e) (ReportOf (g.C.Report.is_text c.args.command.now n) n text) g.K.Sink.taken g.K.Sink.broken c.args.out c.refuse_log-out.result.0 c.refuse_log-out.result.1
    (λ w is. rw is (a_refusal s e told)) c.refuse_log-out.ensures.prints

pub returns-in-Ok-Some-clause-told : goal.returns-in-Ok-Some-clause-told
returns-in-Ok-Some-clause-told g c = λ text begins.
    let told_of = rw (c.in-Ok-Some.is, c.in-Ok-Some.field-0-is) at c.read_log-source.ensures.told in
    let told = told_of text begins in
    λ t table. no_table _ (record { text = c.log_texts.ensures.text; fault = c.log_texts.ensures.fault }) c.one_join.ensures c.args.plan.now text
    (g.T.Table.state c.read_log-source.new.table) t c.in-Ok-Some.error told table

pub returns-in-Ok-Some-clause-meaning : goal.returns-in-Ok-Some-clause-meaning
returns-in-Ok-Some-clause-meaning g c = λ text begins.
    let told_of = rw (c.in-Ok-Some.is, c.in-Ok-Some.field-0-is) at c.read_log-source.ensures.told in
    let told = told_of text begins in
    λ t table. no_table _ (record { text = c.log_texts.ensures.text; fault = c.log_texts.ensures.fault }) c.one_join.ensures c.args.plan.now text
    (g.T.Table.state c.read_log-source.new.table) t c.in-Ok-Some.error told table

pub returns-in-Ok-None-clause-reads : goal.returns-in-Ok-None-clause-reads
returns-in-Ok-None-clause-reads g c =
    let S = g.R.Source in
    let after = c.read_log-source.result.0 in
    record {
      draws = drawn S.given S.coming S.broken S.at_end c.args.log after _ c.read_log-source.ensures.went (g.met.R.Source.nothing_left after) (search rules);
      read = search rules;
      ended = search rules;
    }

pub returns-in-Ok-Some-clause-reads : goal.returns-in-Ok-Some-clause-reads
returns-in-Ok-Some-clause-reads g c =
    let S = g.R.Source in
    let after = c.read_log-source.result.0 in
    record {
      draws = drawn S.given S.coming S.broken S.at_end c.args.log after _ c.read_log-source.ensures.went (g.met.R.Source.nothing_left after) (search rules);
      read = search rules;
      ended = search rules;
    }

pub returns-in-Err-clause-reads : goal.returns-in-Err-clause-reads
returns-in-Err-clause-reads g c =
    let S = g.R.Source in
    let after = c.read_log-source.result.0 in
    record {
      draws = drawn S.given S.coming S.broken S.at_end c.args.log after _ c.read_log-source.ensures.went (g.met.R.Source.nothing_left after) (search rules);
      read = search rules;
      ended = search rules;
    }

pub returns-in-Ok-None-clause-stops : goal.returns-in-Ok-None-clause-stops
returns-in-Ok-None-clause-stops g c = λ text begins t e made.
    let n = c.args.plan.now in
    let told_of = rw (c.in-Ok-None.is, c.in-Ok-None.field-0-is) at c.read_log-source.ensures.told in
    let laws = c.new_states.ensures n c.lawful.ensures in
    never_refused _ e (one_refusal (record { text = c.log_texts.ensures.text; fault = c.log_texts.ensures.fault }) c.refused_logs.ensures.outcome n text
    (g.T.Table.state c.read_log-source.new.table) t None (Some e) c.lawful.ensures laws.0 laws.1 (told_of text begins) made)

pub returns-in-Ok-Some-clause-stops : goal.returns-in-Ok-Some-clause-stops
returns-in-Ok-Some-clause-stops g c = λ text begins t e made.
    let n = c.args.plan.now in
    let told_of = rw (c.in-Ok-Some.is, c.in-Ok-Some.field-0-is) at c.read_log-source.ensures.told in
    let stops = rw (c.in-Ok-Some.is, c.in-Ok-Some.field-0-is) at c.read_log-source.ensures.stops in
    let laws = c.new_states.ensures n c.lawful.ensures in
    stops_there g.R.Source.given c.args.log c.read_log-source.result.0 c.in-Ok-Some.error e c.refuse_log-out.result.1 (one_refusal (record { text = c.log_texts.ensures.text; fault = c.log_texts.ensures.fault })
    c.refused_logs.ensures.outcome n text (g.T.Table.state c.read_log-source.new.table) t (Some c.in-Ok-Some.error) (Some e) c.lawful.ensures laws.0 laws.1 (told_of text begins) made) stops
