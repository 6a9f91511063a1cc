use Rattle.std.proofs.Common.{◌≡◌, ◌++◌, ◌∙◌, ℕ, List, Some, Option, refl, subst}
use Rattle.rip_log.specs.Said.{AllSaid, all_said}
use Rattle.rip_log.specs.NextCall.{lines_behind, source_of, text as text_of}
use Rattle.rip_log.specs.NextLineCall.{said_to_come}
use Rattle.rip_log.specs.Wholes.{rest_of}
use Rattle.rip_table.specs.CollectsAll.{SaidOutcome, UnreadAtKnown}
use Rattle.rip_table.specs.State.{State, new_state}
use Rattle.rip_report.proofs.GivenLemmas.{rest_given}
use Rattle.rip_report.proofs.HearingLemmas.{endless_of, heard_of, unread_of}
use Rattle.rip_report.proofs.log.hear_log.Goals as goal

pub returns-in-Ok-clause-told : goal.returns-in-Ok-clause-told
returns-in-Ok-clause-told g c text begins =
    let n = c.args.plan.now in
    let S = g.R.Source in
    let holds = g.L.Listener.holds in
    let whole = S.given c.args.log ++ text in
    let begun = rw c.into_source.ensures at begins in
    let s = g.T.Table.state c.collect_all-collected.new.table in
    let text-is : text_of (rest_of S.given whole) c.in-Ok.reader ≡ Some text = c.in-Ok.ensures.text (rest_of S.given whole) ∙ rest_given S.given c.args.log text in
    let came : said_to_come (rest_of S.given whole) c.in-Ok.reader ≡ Some (all_said text) = rw (c.in-Ok.ensures.front.0, text-is) refl in
    let said = c.collect_all-collected.ensures.collects.said c.in-Ok.ensures.front.1 whole begun in
    rw c.failure.ensures (heard_of c.said_lines.ensures n text s (holds c.args.listener.now) (holds c.collect_all-collected.new.listener) c.collect_all-collected.result c.requires.new
    (subst (λ (all : Option AllSaid). SaidOutcome n (new_state n) all s (holds c.args.listener.now) (holds c.collect_all-collected.new.listener) c.collect_all-collected.result) came
    (subst (λ (old : State). SaidOutcome n old (said_to_come (rest_of S.given whole) c.in-Ok.reader) s (holds c.args.listener.now)
    (holds c.collect_all-collected.new.listener) c.collect_all-collected.result) c.requires.table said)))

pub returns-in-Ok-clause-read : goal.returns-in-Ok-clause-read
returns-in-Ok-clause-read g c text begins is =
    let S = g.R.Source in
    let whole = S.given c.args.log ++ text in
    let begun = rw c.into_source.ensures at begins in
    let text-is : text_of (rest_of S.given whole) c.in-Ok.reader ≡ Some text = c.in-Ok.ensures.text (rest_of S.given whole) ∙ rest_given S.given c.args.log text in
    let n = c.args.plan.now in
    let old = g.T.Table.state c.args.table.now in
    let new = g.T.Table.state c.collect_all-collected.new.table in
    let was = g.L.Listener.holds c.args.listener.now in
    let then = g.L.Listener.holds c.collect_all-collected.new.listener in
    let before = c.in-Ok.reader in
    let after = c.collect_all-collected.new.reader in
    let failed = S.broken (source_of after) in
    unread_of c.collect_all-collected.result _ _ (rw c.failure.ensures at is) (c.collect_all-collected.ensures.collects.read c.in-Ok.ensures.front.1) (λ e said. rw c.into_source.ensures
    (endless_of n old text (lines_behind before) (lines_behind after) failed new was then
    (subst (λ (t : Option (List ℕ)). UnreadAtKnown n old t (lines_behind before) (lines_behind after) failed new was then) text-is (said.1 whole begun))))
