use Rattle.std.proofs.Common.{rules, refl, ap, ◌≡◌, ◌+◌, ◌∙◌, false, arith, subst, sym}
use Rattle.rip_log.specs.Codes.{is_read}
use Rattle.rip_log.specs.Cuts.{DropsLines}
use Rattle.rip_log.specs.Feeds.{text as text_of}
use Rattle.rip_log.specs.NextCall.{lines_behind, log_to_come, text}
use Rattle.rip_log.specs.Steps.{capture_at}
use Rattle.rip_log.specs.Wholes.{rest_of}
use Rattle.rip_log.specs.declared.window.Window.{Window}
use Rattle.rip_log.proofs.AdvanceLemmas as to
use Rattle.rip_log.proofs.CodeLemmas.{not-read}
use Rattle.rip_log.proofs.PassLemmas.{calm-refused, drops_none}
use Rattle.rip_log.proofs.reader.LogReader.advance_record.Goals as goal

pub returns-then-self-clause-answers : goal.returns-then-self-clause-answers
returns-then-self-clause-answers g c =
    let S = g.R.Source in
    let old = c.args.self.now in
    let stop = c.stop in
    record {
      gives = search rules;
      passed = search rules;
      here = search rules;
      drops = λ whole begins.
          let rest = rest_of S.given whole in
          subst (λ (w : Window g.row.R.Denot). DropsLines (text rest old) (lines_behind old) (text_of rest w.feed) stop.result.line) (sym stop.ensures.window)
          (drops_none (text rest old) (lines_behind old) stop.result.line (omega (arith, stop.ensures.line)));
      onward = search rules;
      few = search rules;
      ended = search rules;
    }

pub returns-in-Ok-Some-Record-clause-answers : goal.returns-in-Ok-Some-Record-clause-answers
returns-in-Ok-Some-Record-clause-answers g c =
    let S = g.R.Source in
    let old = c.args.self.now in
    let taken = c.advance.new.self in
    let to_it = rw c.in-Ok-Some-Record.field-0-0-is at (rw c.in-Ok-Some-Record.field-0-is at c.in-Ok-Some-Record.ensures.comes) in
    record {
      gives = λ was whole begins.
          to.log-record (capture_at taken) (λ _. lines_behind taken) old.progress.few taken.progress.few c.in-Ok-Some-Record.found c.in-Ok-Some-Record.found refl refl
          (to_it.comes whole begins) (to_it.few refl) to_it.behind;
      passed = λ fine whole begins. to.passed-record c.in-Ok-Some-Record.found (to_it.comes whole begins) to_it.behind;
      here = search rules;
      drops = λ whole begins. to.dropped-record c.in-Ok-Some-Record.found (lines_behind taken) (to_it.comes whole begins) (omega (arith, to_it.behind));
      onward = search rules;
      few = search rules;
      ended = search rules;
    }

pub returns-in-Ok-Some-Bad-clause-answers : goal.returns-in-Ok-Some-Bad-clause-answers
returns-in-Ok-Some-Bad-clause-answers g c =
    let S = g.R.Source in
    let old = c.args.self.now in
    let taken = c.advance.new.self in
    let to_it = rw c.in-Ok-Some-Bad.field-0-0-is at (rw c.in-Ok-Some-Bad.field-0-is at c.in-Ok-Some-Bad.ensures.comes) in
    let stop = c.stop-in-Ok-Some-Bad in
    let now = stop.new.self in
    let calm : is_read stop.result.code ≡ false = ap is_read (stop.ensures.code ∙ c.code.ensures) ∙ not-read c.in-Ok-Some-Bad.found.fault.why in
    let here : stop.result.line ≡ to_it.before + 1 = omega (arith, stop.ensures.line, to_it.behind) in
    record {
      gives = λ was whole begins.
          to.log-bad (capture_at now) (λ _. lines_behind now) old.progress.few (log_to_come (rest_of S.given whole) now) c.in-Ok-Some-Bad.found stop.result
          (to_it.comes whole (rw stop.ensures.window at begins)) (to_it.few refl) here (stop.ensures.code ∙ c.code.ensures) calm;
      passed = λ fine. absurd (calm-refused (is_read stop.result.code) calm fine);
      here = search rules;
      drops = λ whole begins.
          let rest = rest_of S.given whole in
          subst (λ (w : Window g.row.R.Denot). DropsLines (text rest old) (lines_behind old) (text_of rest w.feed) stop.result.line) (sym stop.ensures.window)
          (to.dropped-bad c.in-Ok-Some-Bad.found stop.result.line (to_it.comes whole (rw stop.ensures.window at begins)) (omega (arith, here)));
      onward = search rules;
      few = search rules;
      ended = search rules;
    }

pub returns-in-Ok-Some-Long-clause-answers : goal.returns-in-Ok-Some-Long-clause-answers
returns-in-Ok-Some-Long-clause-answers g c =
    let S = g.R.Source in
    let old = c.args.self.now in
    let taken = c.advance.new.self in
    let to_it = rw c.in-Ok-Some-Long.field-0-0-is at (rw c.in-Ok-Some-Long.field-0-is at c.in-Ok-Some-Long.ensures.comes) in
    let stop = c.stop-in-Ok-Some-Long in
    let now = stop.new.self in
    let calm : is_read stop.result.code ≡ false = ap is_read stop.ensures.code in
    let here : stop.result.line ≡ to_it.before + 1 = omega (arith, stop.ensures.line, to_it.behind) in
    record {
      gives = λ was whole begins.
          to.log-long (capture_at now) (λ _. lines_behind now) old.progress.few (log_to_come (rest_of S.given whole) now) stop.result
          (to_it.comes whole (rw stop.ensures.window at begins)) (to_it.few refl) here stop.ensures.code calm;
      passed = λ fine. absurd (calm-refused (is_read stop.result.code) calm fine);
      here = search rules;
      drops = λ whole begins.
          let rest = rest_of S.given whole in
          subst (λ (w : Window g.row.R.Denot). DropsLines (text rest old) (lines_behind old) (text_of rest w.feed) stop.result.line) (sym stop.ensures.window)
          (to.dropped-long stop.result.line (to_it.comes whole (rw stop.ensures.window at begins)) (omega (arith, here)));
      onward = search rules;
      few = search rules;
      ended = search rules;
    }

pub returns-in-Ok-None-clause-answers : goal.returns-in-Ok-None-clause-answers
returns-in-Ok-None-clause-answers g c =
    let S = g.R.Source in
    let old = c.args.self.now in
    let taken = c.advance.new.self in
    let to_it = rw c.in-Ok-None.field-0-is at c.in-Ok-None.ensures.comes in
    let same : lines_behind taken ≡ to_it.before = omega (arith, to_it.behind) in
    record {
      gives = λ was whole begins. to.log-end (capture_at taken) (λ _. lines_behind taken) old.progress.few taken.progress.few (to_it.comes whole begins) same;
      passed = λ fine whole begins. to.passed-end (to_it.comes whole begins) same;
      here = search rules;
      drops = λ whole begins. to.dropped-end (lines_behind taken + 1) (to_it.comes whole begins) (omega (arith, same));
      onward = search rules;
      few = search rules;
      ended = search rules;
    }

pub returns-in-Err-clause-answers : goal.returns-in-Err-clause-answers
returns-in-Err-clause-answers g c =
    let S = g.R.Source in
    let old = c.args.self.now in
    let taken = c.advance.new.self in
    let to_it = c.in-Err.ensures.comes in
    let same : lines_behind taken ≡ to_it.before = omega (arith, to_it.behind) in
    record {
      gives = λ was whole begins.
          to.log-failed (capture_at taken) (λ _. lines_behind taken) old.progress.few taken.progress.few c.in-Err.error
          (to_it.comes whole begins) (to.many_here c.in-Err.error to_it.good) same;
      passed = λ fine whole begins. to.passed-failed c.in-Err.error (to_it.comes whole begins) fine same;
      here = search rules;
      drops = λ whole begins. to.dropped-failed c.in-Err.error c.in-Err.error.line (to_it.comes whole begins) (omega (arith, same, to_it.moves.here));
      onward = search rules;
      few = search rules;
      ended = search rules;
    }
