use Rattle.std.proofs.Common.{◌≡◌, ◌∙◌, ℕ, arith, rules, sym, refl, false, subst, Some, Ok, Err}
use Rattle.rip_log.specs.Cuts.{DropsLines}
use Rattle.rip_log.specs.NextCall.{capture_of, line_of, lines_behind, log_to_come, has_stopped, source_of, text}
use Rattle.rip_log.specs.Wholes.{OfWhole, rest_of}
use Rattle.rip_log.proofs.PassLemmas.{drops_none, drops_trans}
use Rattle.rip_log.proofs.WholeLemmas.{begins_back, went_on}
use Rattle.rip_table.specs.State.{State, Fits}
use Rattle.rip_table.specs.Joined.{MayAllocateFor, is_memory}
use Rattle.rip_table.specs.Collects.{is_read_cause, StuckKnown, OutcomeKnown, PassedKnown, ToldOutcome}
use Rattle.rip_table.specs.declared.error.CollectCause.TheVariants.{Log as OfLog}
use Rattle.rip_table.specs.declared.error.CollectError.{CollectError}
use Rattle.rip_table.proofs.JoinLemmas.{PassedKnown-more, told_bad, OutcomeKnown-none, OutcomeKnown-refused, StuckKnown-allocates, stands_behind, when_memory}
use Rattle.rip_table.proofs.FitLemmas.{Fits-joined}
use Rattle.rip_table.proofs.BlameLemmas.{Joins-blame, not_log-not_read, at_last, tell, runs, again}
use Rattle.rip_table.proofs.OutcomeLemmas.{said_outcome}
use Rattle.rip_table.proofs.joining.collect.Goals as goal

pub records-init : goal.records-init
records-init g c = record {
  passed = search rules;
  went = search rules;
  fits = search rules;
  running = search rules;
  marks = search rules;
  still = search rules;
  here = search rules;
  lines = search rules;
  drops = λ whole begins.
      let old = c.args.reader.now in
      drops_none (text (rest_of g.R.Source.given whole) old) (lines_behind old) (lines_behind old) (omega arith);
}

pub records-preserved : goal.records-preserved
records-preserved g c =
    let S = g.R.Source in
    let now = c.next.follows.lender-at-none in
    let h = rw (c.in-Ok-Some.is, c.in-Ok-Some.field-0-is) at c.next.follows.holds-at-none in
    let run : has_stopped c.records.reader ≡ false = runs _ _ _ h.answers.ended in
    let was_run : has_stopped c.args.reader.now ≡ false = sym c.records.invariant.running ∙ run in
    let joins = rw c.in-Ok.is at c.join.ensures in
    record {
      passed = λ was whole begins.
          let coming = rest_of S.given whole in
          let before = begins_back S.given S.coming S.at_end whole (source_of c.records.reader) (source_of now) h.pulls.went begins in
          PassedKnown-more capture_of line_of c.args.plan.now (g.T.Table.state c.args.table.now) (log_to_come coming c.args.reader.now) (g.T.Table.state c.records.table)
          (g.T.Table.state c.join.new.table) (log_to_come coming c.records.reader) (log_to_come coming now) c.in-Ok-Some.record (c.records.invariant.passed was whole before)
          (h.answers.gives run whole begins) joins;
      went = went_on S.given S.coming S.at_end (source_of c.args.reader.now) (source_of c.records.reader) (source_of now) c.records.invariant.went h.pulls.went;
      fits = Fits-joined c.args.plan.now (g.T.Table.state c.records.table) (g.T.Table.state c.join.new.table) (capture_of c.in-Ok-Some.record) c.records.invariant.fits joins;
      running = h.marks.stopped ∙ sym was_run;
      marks = h.marks.marks refl ∙ c.records.invariant.marks;
      still = λ was. cc (was, was_run);
      here = λ was. cc (was, was_run);
      lines = let later = h.answers.onward.1 in let first = c.records.invariant.lines in omega arith;
      drops = λ whole begins.
          let rest = rest_of S.given whole in
          let old = c.args.reader.now in
          let mid = c.records.reader in
          let before = begins_back S.given S.coming S.at_end whole (source_of mid) (source_of now) h.pulls.went begins in
          subst (λ (n : ℕ). DropsLines (text rest old) (lines_behind old) (text rest now) n) h.answers.onward.1
          (drops_trans (text rest old) (text rest mid) (text rest now) (lines_behind old) (lines_behind mid) c.in-Ok-Some.record.line (c.records.invariant.drops whole before)
          (h.answers.drops whole begins));
    }

pub returns-in-Err-join : goal.returns-in-Err-join
returns-in-Err-join g c =
    let state = g.T.Table.state in
    let S = g.R.Source in
    let plan = c.args.plan.now in
    let before = c.records.reader in
    let after = c.next.follows.lender-at-none in
    let entry = capture_of c.in-Ok-Some.record in
    let cause = c.in-Err-join.cause in
    let inv = c.records.invariant in
    let old = state c.args.table.now in
    let h = rw (c.in-Ok-Some.is, c.in-Ok-Some.field-0-is) at c.next.follows.holds-at-none in
    let run : has_stopped c.records.reader ≡ false = runs _ _ _ h.answers.ended in
    let was_run : has_stopped c.args.reader.now ≡ false = sym inv.running ∙ run in
    let joins = rw c.in-Err-join.is at c.join.ensures in
    let blame = Joins-blame plan (state c.records.table) entry (state c.join.new.table) cause joins in
    let not_read = not_log-not_read cause blame in
    let new = state c.join.new.table in
    let error : CollectError = record { line = c.in-Ok-Some.record.line; cause = cause } in
    let told : has_stopped c.args.reader.now ≡ false → OfWhole S.given S.at_end (source_of after)
    (λ coming. ToldOutcome plan old (log_to_come coming c.args.reader.now) new (log_to_come coming after) (Err error)) = λ was whole begins.
    let coming = rest_of S.given whole in
    let log = log_to_come coming c.args.reader.now in
    let passed = inv.passed was whole (begins_back S.given S.coming S.at_end whole (source_of before) (source_of after) h.pulls.went begins) in
    let gives = h.answers.gives run whole begins in
    tell (PassedKnown plan old log new (log_to_come coming after)) (is_memory cause) (is_read_cause cause) joins.1
    (λ w. subst (λ (s : State). StuckKnown plan old log s (log_to_come coming after) c.in-Ok-Some.record.line) (sym joins.0)
    (StuckKnown-allocates capture_of line_of plan old log (state c.records.table) (log_to_come coming before) (log_to_come coming after) c.in-Ok-Some.record passed gives w))
    (λ j. subst (λ (s : State). OutcomeKnown plan old log s (Some error)) (sym joins.0)
    (OutcomeKnown-refused capture_of line_of plan old log (state c.records.table) (log_to_come coming before) (log_to_come coming after) c.in-Ok-Some.record cause passed gives j))
    not_read in
    record {
      joined = record {
        told = told;
        said = λ was whole begins. said_outcome c.refused_logs.ensures.outcome plan old new (log_to_come (rest_of S.given whole) c.args.reader.now) (log_to_come (rest_of S.given whole) after)
            (Err error) c.lawful.ensures (g.T.Table.is_state c.args.table.now) c.requires (told was whole begins);
        stopped = λ was. cc (was, was_run);
        allocates = λ w. (
          let later = h.answers.onward.1 in let first = inv.lines in omega arith,
          (entry, subst (λ (s : State). MayAllocateFor plan s entry) (sym joins.0) (when_memory _ (is_memory cause) w joins.1)),
        );
        fits = subst (λ (s : State). Fits plan s) (sym joins.0) inv.fits;
      };
      reader = record {
        went = went_on S.given S.coming S.at_end (source_of c.args.reader.now) (source_of before) (source_of after) inv.went h.pulls.went;
        refused = λ was. h.marks.stopped ∙ sym blame;
        here = at_last (lines_behind after) c.in-Ok-Some.record.line cause blame h.answers.onward.1;
        behind = λ was is_record whole begins.
            let coming = rest_of S.given whole in
            stands_behind capture_of line_of plan old (log_to_come coming c.args.reader.now) (state c.records.table) (log_to_come coming before) (log_to_come coming after) c.in-Ok-Some.record
            (inv.passed was whole (begins_back S.given S.coming S.at_end whole (source_of before) (source_of after) h.pulls.went begins)) (h.answers.gives run whole begins);
        drops = λ whole begins.
            let rest = rest_of S.given whole in
            let first = c.args.reader.now in
            drops_trans (text rest first) (text rest before) (text rest after) (lines_behind first) (lines_behind before) c.in-Ok-Some.record.line
            (inv.drops whole (begins_back S.given S.coming S.at_end whole (source_of before) (source_of after) h.pulls.went begins)) (h.answers.drops whole begins);
      };
      marks = record {
        over = λ fine. cc fine;
        failed = λ bad. cc (bad, not_read);
        marks = λ fine. h.marks.marks refl ∙ inv.marks;
      };
    }

pub returns-in-Ok-None : goal.returns-in-Ok-None
returns-in-Ok-None g c =
    let h = rw (c.in-Ok-None.is, c.in-Ok-None.field-0-is) at c.next.follows.holds-at-none in
    let run : has_stopped c.records.reader ≡ false = runs _ _ _ h.answers.ended in
    let was_run : has_stopped c.args.reader.now ≡ false = sym c.records.invariant.running ∙ run in
    let S = g.R.Source in
    let before = c.records.reader in
    let after = c.next.follows.lender-at-none in
    let old = g.T.Table.state c.args.table.now in
    let new = g.T.Table.state c.records.table in
    let told : has_stopped c.args.reader.now ≡ false → OfWhole S.given S.at_end (source_of after)
    (λ coming. ToldOutcome c.args.plan.now old (log_to_come coming c.args.reader.now) new (log_to_come coming after) (Ok tt)) = λ was whole begins.
    let coming = rest_of S.given whole in
    OutcomeKnown-none capture_of line_of c.args.plan.now old (log_to_come coming c.args.reader.now) new (log_to_come coming before) (log_to_come coming after)
    (c.records.invariant.passed was whole (begins_back S.given S.coming S.at_end whole (source_of before) (source_of after) h.pulls.went begins)) (h.answers.gives run whole begins) in
    record {
      joined = record {
        told = told;
        said = λ was whole begins. said_outcome c.refused_logs.ensures.outcome c.args.plan.now old new (log_to_come (rest_of S.given whole) c.args.reader.now)
            (log_to_come (rest_of S.given whole) after) (Ok tt) c.lawful.ensures (g.T.Table.is_state c.args.table.now) c.requires (told was whole begins);
        stopped = λ was. cc (was, was_run);
        allocates = tt;
        fits = c.records.invariant.fits;
      };
      reader = record {
        went = went_on S.given S.coming S.at_end (source_of c.args.reader.now) (source_of before) (source_of after) c.records.invariant.went h.pulls.went;
        refused = λ was. h.marks.stopped;
        here = tt;
        behind = λ was. tt;
        drops = tt;
      };
      marks = record {
        over = λ fine. h.marks.over refl;
        failed = λ bad. cc bad;
        marks = λ fine. h.marks.marks refl ∙ c.records.invariant.marks;
      };
    }

pub returns-in-Err : goal.returns-in-Err
returns-in-Err g c =
    let h = rw c.in-Err.is at c.next.follows.holds-at-none in
    let inv = c.records.invariant in
    let S = g.R.Source in
    let before = c.records.reader in
    let after = c.next.follows.lender-at-none in
    let old = g.T.Table.state c.args.table.now in
    let new = g.T.Table.state c.records.table in
    let error : CollectError = record { line = c.in-Err.error.line; cause = OfLog c.in-Err.error } in
    let told : has_stopped c.args.reader.now ≡ false → OfWhole S.given S.at_end (source_of after)
    (λ coming. ToldOutcome c.args.plan.now old (log_to_come coming c.args.reader.now) new (log_to_come coming after) (Err error)) = λ was whole begins.
    let coming = rest_of S.given whole in
    told_bad capture_of line_of c.args.plan.now old (log_to_come coming c.args.reader.now) new (log_to_come coming before) (log_to_come coming after) c.in-Err.error
    (inv.passed was whole (begins_back S.given S.coming S.at_end whole (source_of before) (source_of after) h.pulls.went begins)) (h.answers.gives (inv.running ∙ was) whole begins) in
    record {
      joined = record {
        told = told;
        said = λ was whole begins. said_outcome c.refused_logs.ensures.outcome c.args.plan.now old new (log_to_come (rest_of S.given whole) c.args.reader.now)
            (log_to_come (rest_of S.given whole) after) (Err error) c.lawful.ensures (g.T.Table.is_state c.args.table.now) c.requires (told was whole begins);
        stopped = λ was. (inv.still was, again c.in-Err.error _ _ (h.answers.ended (inv.running ∙ was)).0 (inv.here was));
        allocates = λ w. cc w;
        fits = inv.fits;
      };
      reader = record {
        went = went_on S.given S.coming S.at_end (source_of c.args.reader.now) (source_of before) (source_of after) inv.went h.pulls.went;
        refused = λ was. h.marks.stopped;
        here = (h.answers.here, h.answers.here);
        behind = λ was is_record. cc is_record;
        drops = λ whole begins.
            let rest = rest_of S.given whole in
            let first = c.args.reader.now in
            drops_trans (text rest first) (text rest before) (text rest after) (lines_behind first) (lines_behind before) c.in-Err.error.line
            (inv.drops whole (begins_back S.given S.coming S.at_end whole (source_of before) (source_of after) h.pulls.went begins)) (h.answers.drops whole begins);
      };
      marks = record {
        over = λ fine. cc fine;
        failed = λ bad. h.marks.failed bad;
        marks = λ fine. h.marks.marks fine ∙ inv.marks;
      };
    }
