use Rattle.std.proofs.Common.{◌≡◌, ◌≢◌, ◌⊎◌, IfOk, Result, Ok, Err, inl, inr, true, refl, sym, subst}
use Rattle.std.specs.Prelude.{◌↔◌}
use Rattle.rip_log.specs.TimedCall.{timed_source}
use Rattle.rip_report.specs.Outs.{IsOnItsWay}
use Rattle.rip_report.specs.WatchText.{EndsRight, IsVerdictStatus}
use Rattle.rip_report.specs.declared.status.RunError.{RunError}
use Rattle.rip_report.specs.declared.status.RunError.TheVariants.{Memory, Read, Write}
use Rattle.rip_report.specs.declared.status.Status.{Status}
use Rattle.rip_report.proofs.StepLemmas.{stays_in_step, untouched_in_step}
use Rattle.rip_report.specs.declared.status.Status.TheVariants.{Refused, Settled}
use Rattle.rip_report.proofs.GivenLemmas.{told_given}
use Rattle.rip_report.proofs.WatchRunLemmas.{answered, answered_read, ends_film_of, ends_settled, keeps_mark, prints_along, shown_told, unread_told, went_told}
use Rattle.rip_report.proofs.watch.watch_by.Goals as goal

pub returns-clause-watches : goal.returns-clause-watches
returns-clause-watches g c =
    let S = g.R.Source in
    let K = g.K.Sink in
    let n = c.args.plan.now in
    let watching = c.args.watching.now in
    let log = c.args.log in
    let new = c.into_source.result in
    let reader = c.in-Ok.reader in
    let after = timed_source c.watch_lines-ended.new.reader in
    let front = c.in-Ok.ensures.text in
    let ended = c.watch_lines-ended.result in
    let answer = c.finish_with-out.result.1 in
    let run = c.watch_lines-ended.ensures in
    let end = c.finish_with-out.ensures in
    let source = c.in-Ok.ensures.source in
    let went = went_told S.given S.coming S.at_end log new after (timed_source reader) c.into_source.ensures source run.went in
    let lines = c.timed_texts.ensures.lines in
    let one = c.timed_texts.ensures.one in
    record {
      prints = λ text given.
          prints_along K.taken K.broken c.args.out c.finish_with-out.result.0 lines n watching.length watching.until_settled text c.new-text.result c.watch_lines-ended.new.out ended answer
          c.new-text.ensures.start c.new-text.ensures.text
          (shown_told S.given S.at_end log new after reader c.new-text.result c.watch_lines-ended.new.out n watching.length watching.until_settled ended text c.into_source.ensures front run.shows
          given) end;
      draws = record {
        went = went;
        to_come = told_given S.given S.coming S.at_end log new went (g.met.R.Source.nothing_left new);
        source = λ not_read not_write. keeps_mark S.broken log new after (timed_source reader) c.into_source.ensures source end not_read not_write run.marks;
        read = λ text given is.
            unread_told S.given S.broken S.at_end log new after reader text c.into_source.ensures front (run.read (answered_read end is)) given;
        ended = answered (λ status. (watching.until_settled ≡ true → status ≢ Settled) → status ≢ Refused → S.at_end new ≡ true) answer end
            (subst (λ (s : g.row.R.Denot). IfOk ended (λ status. (watching.until_settled ≡ true → status ≢ Settled) → status ≢ Refused → S.at_end s ≡ true)) (sym c.into_source.ensures) run.ended);
      };
      settled = λ text given said says.
          let shown = shown_told S.given S.at_end log new after reader c.new-text.result c.watch_lines-ended.new.out n watching.length watching.until_settled ended text c.into_source.ensures front
          run.shows given in
          answered (λ status. (status ≡ Settled) ↔ EndsRight n watching.length watching.until_settled said) answer end
          (ends_settled lines one n watching.length watching.until_settled text shown.text ended shown.is_text said says);
      film = λ text plain given within goes_on s table.
          let shown = shown_told S.given S.at_end log new after reader c.new-text.result c.watch_lines-ended.new.out n watching.length watching.until_settled ended text c.into_source.ensures front
          run.shows given in
          answered (IsVerdictStatus n s) answer end
          (ends_film_of lines one c.timed_records.ensures c.last_seconds.ensures n watching.length watching.until_settled text shown.text plain ended c.lawful.ensures shown.is_text goes_on within
          s table);
    }

read_or_other : (r : Result Status RunError) → (r ≡ Err Read) ⊎ (r ≢ Err Read)
read_or_other (Ok status) = inr (λ e. cc e)
read_or_other (Err Read) = inl refl
read_or_other (Err Write) = inr (λ e. cc e)
read_or_other (Err Memory) = inr (λ e. cc e)

pub returns-clause-stops : goal.returns-clause-stops
returns-clause-stops g c =
    let S = g.R.Source in
    let K = g.K.Sink in
    let watching = c.args.watching.now in
    let reader = c.in-Ok.reader in
    let now = c.watch_lines-ended.new.reader in
    let start = c.new-text.result in
    let run = c.watch_lines-ended.ensures in
    let way = subst (IsOnItsWay K.taken K.broken start.start) (sym c.new-text.ensures.text) c.new-text.ensures.way in
    rw c.into_source.ensures (stays_in_step S K watching.length watching.until_settled c.args.plan.now c.args.log c.args.out reader now start c.in-Ok.ensures.text c.lawful-2.ensures
    c.new-text.ensures.start c.new-text.ensures.text
    (λ whole begins. elim (read_or_other c.watch_lines-ended.result) [
      | inl read ↦ inl (run.read read whole begins)
      | inr other ↦ inr (run.stops c.new-text.ensures.failed way other whole begins)
    ]))

pub returns-in-Err-clause-stops : goal.returns-in-Err-clause-stops
returns-in-Err-clause-stops g c = rw c.in-Err.ensures.refused (untouched_in_step g.R.Source g.K.Sink c.args.watching.now.length c.args.watching.now.until_settled c.args.plan.now c.args.log c.args.out)
