use Rattle.std.proofs.Common.{subst, ◌∙◌, ◌++◌, ap}
use Rattle.rip_log.specs.Logs.{log_in}
use Rattle.rip_log.specs.Wholes.{rest_of}
use Rattle.rip_table.specs.Collects.{SaidOutcome}
use Rattle.rip_report.proofs.GivenLemmas.{rest_given}
use Rattle.rip_report.proofs.ReportLemmas.{LogWords, made_of}
use Rattle.rip_report.proofs.StopLemmas.{stops_at_error}
use Rattle.rip_report.proofs.log.read_log.Goals as goal

pub returns-in-Ok-clause-told : goal.returns-in-Ok-clause-told
returns-in-Ok-clause-told g c = λ text begins.
    let n = c.args.plan.now in
    let S = g.R.Source in
    let whole = S.given c.args.log ++ text in
    let begun = rw c.into_source.ensures at begins in
    let s = g.T.Table.state c.collect-collected.new.table in
    let collected = c.collect-collected.result in
    let words : LogWords = record { text = c.log_texts.ensures.text; fault = c.log_texts.ensures.fault } in
    let made = made_of words n text s collected (λ log h. subst (λ old. SaidOutcome n old log s collected) c.requires
    (c.collect-collected.ensures.joined.said c.in-Ok.ensures.front.1 whole begun log (c.in-Ok.ensures.to_come (rest_of S.given whole) ∙ ap log_in (rest_given S.given c.args.log text) ∙ h))) in
    rw c.refusal.ensures made

pub returns-in-Ok-clause-stops : goal.returns-in-Ok-clause-stops
returns-in-Ok-clause-stops g c =
    let S = g.R.Source in
    let after = c.collect-collected.new.reader in
    rw (c.refusal.ensures, c.into_source.ensures) (stops_at_error S.given S.at_end c.args.log c.in-Ok.reader after c.in-Ok.ensures.text c.in-Ok.ensures.front.0 c.lawful.ensures
    c.collect-collected.result c.collect-collected.ensures.reader.drops)
