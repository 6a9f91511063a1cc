use Rattle.std.proofs.Common.{◌≡◌, ◌∙◌, ◌++◌, [], ◌∷◌, arith, ap, inl, inr, length-append, sym, refl, false, subst, Ok}
use Rattle.rip_log.specs.Codes.{is_read}
use Rattle.rip_log.specs.NextCall.{lines_behind, has_stopped, source_of, text}
use Rattle.rip_log.specs.NextLineCall.{number_of, said_of, said_to_come}
use Rattle.rip_log.specs.Wholes.{OfWhole, rest_of}
use Rattle.rip_log.proofs.PassLemmas.{passes_trans}
use Rattle.rip_log.proofs.WholeLemmas.{begins_back, went_on}
use Rattle.rip_table.specs.State.{State}
use Rattle.rip_table.specs.CollectsAll.{ToldKnown, ToldOutcome}
use Rattle.rip_table.specs.declared.error.CollectAllError.TheVariants.{Log as OfLog}
use Rattle.rip_table.proofs.BlameLemmas.{runs}
use Rattle.rip_table.proofs.HearingLemmas.{ToldKnown-more, ended_log, event_at, heard-more, many_stopped, memory_is, many_line, ends_read, only_read, out-err, said-err, said-told, stops-end, stops-last, stuck-at, stuck-last, told-end, told-last, unread-told, allocates_last}
use Rattle.rip_table.proofs.hearing.collect_all.Goals as goal

pub lines-preserved : goal.lines-preserved
lines-preserved g c =
    let S = g.R.Source in
    let state = g.T.Table.state in
    let holds = g.L.Listener.holds in
    let plan = c.args.plan.now in
    let old = c.args.reader.now in
    let mid = c.lines.reader in
    let now = c.next_line.follows.lender-at-none in
    let h = rw (c.in-Ok-Some.is, c.in-Ok-Some.field-0-is) at c.next_line.follows.holds-at-none in
    let inv = c.lines.invariant in
    let run : has_stopped mid ≡ false = runs _ _ _ h.answers.ended in
    let was_run : has_stopped old ≡ false = sym inv.running ∙ run in
    let hears = rw c.in-Ok.is at c.hear_line.ensures.hears in
    let event = event_at plan (state c.lines.table) (number_of c.in-Ok-Some.line) (said_of c.in-Ok-Some.line) in
    record {
      told = λ was whole begins.
          let coming = rest_of S.given whole in
          let t = inv.told was whole (begins_back S.given S.coming S.at_end whole (source_of mid) (source_of now) h.pulls.went begins) in (
            t.0 ++ event ∷ [],
            heard-more (holds c.args.listener.now) (holds c.lines.listener) (holds c.hear_line.new.listener) t.0 (event ∷ []) t.1 hears.1,
            subst (λ (s : State). ToldKnown plan (state c.args.table.now) (said_to_come coming old) s (t.0 ++ event ∷ []) (said_to_come coming now)) (sym hears.0)
                (ToldKnown-more said_of number_of plan (state c.args.table.now) (said_to_come coming old) (state c.lines.table) t.0 (said_to_come coming mid)
                (said_to_come coming now) c.in-Ok-Some.line t.2 (h.answers.gives run whole begins)),
          );
      passed = λ whole begins.
          let coming = rest_of S.given whole in
          passes_trans (text coming old) (text coming mid) (text coming now) (lines_behind old) (lines_behind mid) (lines_behind now)
          (inv.passed whole (begins_back S.given S.coming S.at_end whole (source_of mid) (source_of now) h.pulls.went begins)) (h.answers.passed refl whole begins);
      went = went_on S.given S.coming S.at_end (source_of old) (source_of mid) (source_of now) inv.went h.pulls.went;
      fits = c.hear_line.ensures.fits;
      suits = c.hear_line.ensures.suits;
      room =
          let later = h.answers.onward.0 in
          let few = h.answers.few in
          let longer = length-append inv.room.0 (event ∷ []) in
          (inv.room.0 ++ event ∷ [], hears.1 inv.room.0 inv.room.1, omega (arith, later, longer, inv.room.2), omega (arith, later, few, longer, inv.room.2));
      running = h.marks.stopped ∙ sym was_run;
      marks = h.marks.marks refl ∙ inv.marks;
      still = λ was. cc (was, was_run);
      here = λ was. cc (was, was_run);
      lines = let later = h.answers.onward.0 in let first = inv.lines in omega (arith, later, first);
    }

pub returns-in-Err-hear_line-clause-collects : goal.returns-in-Err-hear_line-clause-collects
returns-in-Err-hear_line-clause-collects g c =
    let S = g.R.Source in
    let state = g.T.Table.state in
    let holds = g.L.Listener.holds in
    let plan = c.args.plan.now in
    let old = c.args.reader.now in
    let mid = c.lines.reader in
    let now = c.next_line.follows.lender-at-none in
    let h = rw (c.in-Ok-Some.is, c.in-Ok-Some.field-0-is) at c.next_line.follows.holds-at-none in
    let inv = c.lines.invariant in
    let run : has_stopped mid ≡ false = runs _ _ _ h.answers.ended in
    let was_run : has_stopped old ≡ false = sym inv.running ∙ run in
    let hears = rw c.in-Err-hear_line.is at c.hear_line.ensures.hears in
    record {
      told = λ was whole begins. out-err plan (state c.args.table.now) (said_to_come (rest_of S.given whole) old) (state c.hear_line.new.table) (holds c.args.listener.now)
          (holds c.hear_line.new.listener) c.in-Err-hear_line.error;
      said = λ was whole begins. said-err plan (state c.args.table.now) (said_to_come (rest_of S.given whole) old) (state c.hear_line.new.table) (holds c.args.listener.now)
          (holds c.hear_line.new.listener) c.in-Err-hear_line.error;
      read = λ was. memory_is c.in-Err-hear_line.error _ hears.0;
      here = memory_is c.in-Err-hear_line.error _ hears.0;
      allocates = λ is whole begins.
          let coming = rest_of S.given whole in
          let t = inv.told was_run whole (begins_back S.given S.coming S.at_end whole (source_of mid) (source_of now) h.pulls.went begins) in
          stuck-at said_of number_of g.L.Listener.may_allocate plan (state c.args.table.now) (said_to_come coming old) (state c.lines.table) (state c.hear_line.new.table) t.0
          (said_to_come coming mid) (said_to_come coming now) c.in-Ok-Some.line (holds c.args.listener.now) (holds c.lines.listener) (holds c.hear_line.new.listener) (lines_behind now)
          (has_stopped now) t.2 t.1 (h.answers.gives run whole begins) hears.1 h.answers.onward.1 h.marks.stopped;
      further = λ is. inl (let later = h.answers.onward.0 in let first = inv.lines in omega (arith, later, first));
      marks = λ fine. h.marks.marks refl ∙ inv.marks;
      stopped = λ was. cc (was, was_run);
      over = λ fine. cc fine;
      stops = λ fine. cc fine;
      went = went_on S.given S.coming S.at_end (source_of old) (source_of mid) (source_of now) inv.went h.pulls.went;
      fits = c.hear_line.ensures.fits;
    }

pub returns-in-Ok-None-clause-collects : goal.returns-in-Ok-None-clause-collects
returns-in-Ok-None-clause-collects g c =
    let S = g.R.Source in
    let state = g.T.Table.state in
    let holds = g.L.Listener.holds in
    let plan = c.args.plan.now in
    let old = c.args.reader.now in
    let mid = c.lines.reader in
    let now = c.next_line.follows.lender-at-none in
    let h = rw (c.in-Ok-None.is, c.in-Ok-None.field-0-is) at c.next_line.follows.holds-at-none in
    let inv = c.lines.invariant in
    let run : has_stopped mid ≡ false = runs _ _ _ h.answers.ended in
    let was_run : has_stopped old ≡ false = sym inv.running ∙ run in
    let told : has_stopped old ≡ false → OfWhole S.given S.at_end (source_of now) (λ coming. ToldOutcome plan (state c.args.table.now) (said_to_come coming old) (state c.lines.table)
    (holds c.args.listener.now) (holds c.lines.listener) (Ok tt)) = λ was whole begins.
    let coming = rest_of S.given whole in
    let t = inv.told was whole (begins_back S.given S.coming S.at_end whole (source_of mid) (source_of now) h.pulls.went begins) in
    told-end said_of number_of plan (state c.args.table.now) (said_to_come coming old) (state c.lines.table) t.0 (holds c.args.listener.now) (holds c.lines.listener) (said_to_come coming mid)
    (said_to_come coming now) t.2 (h.answers.gives run whole begins) t.1 in
    record {
      told = told;
      said = λ was whole begins. said-told c.lines_come_to.ensures plan (state c.args.table.now) (said_to_come (rest_of S.given whole) old) (state c.lines.table) (holds c.args.listener.now)
          (holds c.lines.listener) (Ok tt) c.lawful.ensures (g.T.Table.is_state c.args.table.now) c.requires.fits (told was whole begins);
      read = λ was. tt;
      here = tt;
      allocates = λ is. cc is;
      further = λ is. cc is;
      marks = λ fine. h.marks.marks refl ∙ inv.marks;
      stopped = λ was. cc (was, was_run);
      over = λ fine running. h.marks.over refl;
      stops = λ fine whole begins.
          let coming = rest_of S.given whole in
          let t = inv.told was_run whole (begins_back S.given S.coming S.at_end whole (source_of mid) (source_of now) h.pulls.went begins) in
          stops-end said_of number_of plan (state c.args.table.now) (said_to_come coming old) (state c.lines.table) t.0 (said_to_come coming mid) (said_to_come coming now) (has_stopped now) t.2
          (h.answers.gives run whole begins) h.marks.stopped;
      went = went_on S.given S.coming S.at_end (source_of old) (source_of mid) (source_of now) inv.went h.pulls.went;
      fits = inv.fits;
    }

pub returns-in_default-clause-collects : goal.returns-in_default-clause-collects
returns-in_default-clause-collects g c =
    let S = g.R.Source in
    let state = g.T.Table.state in
    let holds = g.L.Listener.holds in
    let plan = c.args.plan.now in
    let old = c.args.reader.now in
    let mid = c.lines.reader in
    let now = c.next_line.follows.lender-at-none in
    let h = rw c.in-Err.is at c.next_line.follows.holds-at-none in
    let inv = c.lines.invariant in
    record {
      told = λ was whole begins. out-err plan (state c.args.table.now) (said_to_come (rest_of S.given whole) old) (state c.lines.table) (holds c.args.listener.now) (holds c.lines.listener)
          (OfLog c.in-Err.error);
      said = λ was whole begins. said-err plan (state c.args.table.now) (said_to_come (rest_of S.given whole) old) (state c.lines.table) (holds c.args.listener.now) (holds c.lines.listener)
          (OfLog c.in-Err.error);
      read = λ was.
          let run : has_stopped mid ≡ false = inv.running ∙ was in
          let code = only_read c.in-Err.error (h.answers.codes run) c.in_default.not-TooManyLines in (
            code,
            λ whole begins.
                let coming = rest_of S.given whole in
                let back = begins_back S.given S.coming S.at_end whole (source_of mid) (source_of now) h.pulls.went begins in
                let t = inv.told was whole back in
                unread-told plan (state c.args.table.now) (text coming old) (text coming mid) (lines_behind old) (lines_behind mid) (lines_behind now) (S.broken (source_of now))
                (state c.lines.table) t.0 (holds c.args.listener.now) (holds c.lines.listener) (inv.passed whole back)
                (h.answers.unread run (ap is_read code) whole begins) t.2 t.1,
          );
      here = (h.answers.here, h.marks.stopped);
      allocates = λ is. cc is;
      further = λ is. cc is;
      marks = λ fine. cc fine;
      stopped = λ was. ((inv.still was).0, (inv.still was).1, ended_log c.in-Err.error (lines_behind mid) (lines_behind old) (h.answers.ended (inv.running ∙ was)).0 (inv.here was));
      over = λ fine. cc fine;
      stops = λ fine. cc fine;
      went = went_on S.given S.coming S.at_end (source_of old) (source_of mid) (source_of now) inv.went h.pulls.went;
      fits = inv.fits;
    }

pub returns-in-TooManyLines-clause-collects : goal.returns-in-TooManyLines-clause-collects
returns-in-TooManyLines-clause-collects g c =
    let S = g.R.Source in
    let state = g.T.Table.state in
    let holds = g.L.Listener.holds in
    let plan = c.args.plan.now in
    let old = c.args.reader.now in
    let mid = c.lines.reader in
    let now = c.next_line.follows.lender-at-none in
    let h = rw c.in-Err.is at c.next_line.follows.holds-at-none in
    let inv = c.lines.invariant in
    let many = c.in-TooManyLines.is in
    let run : has_stopped mid ≡ false = many_stopped c.in-Err.error (has_stopped mid) (lines_behind mid) many (λ was. (h.answers.ended was).0) in
    let was_run : has_stopped old ≡ false = sym inv.running ∙ run in
    let told : has_stopped old ≡ false → OfWhole S.given S.at_end (source_of now) (λ coming. ToldOutcome plan (state c.args.table.now) (said_to_come coming old) (state c.lines.table)
    (holds c.args.listener.now) (holds c.hear_last.new.listener) (c.hear_last.result)) = λ was whole begins.
    let coming = rest_of S.given whole in
    let t = inv.told was whole (begins_back S.given S.coming S.at_end whole (source_of mid) (source_of now) h.pulls.went begins) in
    told-last said_of number_of plan (state c.args.table.now) (said_to_come coming old) (state c.lines.table) t.0 (holds c.args.listener.now) (holds c.lines.listener) (holds c.hear_last.new.listener)
    (said_to_come coming mid) (said_to_come coming now) c.in-Err.error c.hear_last.result t.2 (h.answers.gives run whole begins) many
    (many_line c.in-Err.error (h.answers.codes run) many) t.1 c.hear_last.ensures.last in
    record {
      told = told;
      said = λ was whole begins. said-told c.lines_come_to.ensures plan (state c.args.table.now) (said_to_come (rest_of S.given whole) old) (state c.lines.table) (holds c.args.listener.now)
          (holds c.hear_last.new.listener) (c.hear_last.result) c.lawful.ensures (g.T.Table.is_state c.args.table.now) c.requires.fits (told was whole begins);
      read = λ was. ends_read c.hear_last.result _ _ c.hear_last.ensures.last;
      here = ends_read c.hear_last.result _ _ c.hear_last.ensures.last;
      allocates = λ is whole begins.
          let coming = rest_of S.given whole in
          let t = inv.told was_run whole (begins_back S.given S.coming S.at_end whole (source_of mid) (source_of now) h.pulls.went begins) in
          stuck-last said_of number_of g.L.Listener.may_allocate plan (state c.args.table.now) (said_to_come coming old) (state c.lines.table) t.0 (holds c.args.listener.now)
          (holds c.hear_last.new.listener) (said_to_come coming mid) (said_to_come coming now) (said_to_come coming now) c.in-Err.error (lines_behind now) (has_stopped now) t.2
          (h.answers.gives run whole begins) many h.marks.stopped (allocates_last c.hear_last.result _ c.hear_last.ensures.allocates is);
      further = λ is. inr h.marks.stopped;
      marks = λ fine. h.marks.marks (ap is_read many) ∙ inv.marks;
      stopped = λ was. cc (was, was_run);
      over = λ fine running. cc (running, h.marks.stopped);
      stops = λ fine whole begins.
          let coming = rest_of S.given whole in
          let t = inv.told was_run whole (begins_back S.given S.coming S.at_end whole (source_of mid) (source_of now) h.pulls.went begins) in
          stops-last said_of number_of plan (state c.args.table.now) (said_to_come coming old) (state c.lines.table) t.0 (said_to_come coming mid) (said_to_come coming now) c.in-Err.error
          (has_stopped now) t.2 (h.answers.gives run whole begins) many h.marks.stopped;
      went = went_on S.given S.coming S.at_end (source_of old) (source_of mid) (source_of now) inv.went h.pulls.went;
      fits = inv.fits;
    }
