use Rattle.std.proofs.Common.{rules, arith, refl, ap, ◌≡◌, ◌+◌, true, inl}
use Rattle.rip_log.specs.Codes.{is_read}
use Rattle.rip_log.specs.FoundLines.{said_found}
use Rattle.rip_log.specs.NextCall.{lines_behind, source_of, text}
use Rattle.rip_log.specs.NextLineCall.{said_to_come}
use Rattle.rip_log.specs.Wholes.{rest_of}
use Rattle.rip_log.proofs.AdvanceLemmas as to
use Rattle.rip_log.proofs.SaidLemmas.{GivesLine-unread}
use Rattle.rip_log.proofs.WholeLemmas.{begins_back}
use Rattle.rip_log.proofs.reader.LogReader.advance_line.Goals as goal

pub returns-in-Ok-Some-Record-clause-answers : goal.returns-in-Ok-Some-Record-clause-answers
returns-in-Ok-Some-Record-clause-answers g c =
    let S = g.R.Source in
    let old = c.args.self.now in
    let taken = c.advance.new.self in
    let to_it = rw c.in-Ok-Some-Record.field-0-0-is at (rw c.in-Ok-Some-Record.field-0-is at c.in-Ok-Some-Record.ensures.comes) in
    record {
      gives = λ was whole begins. to.said-record c.in-Ok-Some-Record.found (to_it.comes whole begins) (to_it.few refl) to_it.behind;
      unread = λ was bad. cc bad;
      codes = λ was. tt;
      passed = λ fine whole begins. to.passed-record c.in-Ok-Some-Record.found (to_it.comes whole begins) to_it.behind;
      here = search rules;
      onward = search rules;
      few = search rules;
      ended = search rules;
    }

pub returns-in-Ok-Some-Bad-clause-answers : goal.returns-in-Ok-Some-Bad-clause-answers
returns-in-Ok-Some-Bad-clause-answers g c =
    let S = g.R.Source in
    let old = c.args.self.now in
    let taken = c.advance.new.self in
    let to_it = rw c.in-Ok-Some-Bad.field-0-0-is at (rw c.in-Ok-Some-Bad.field-0-is at c.in-Ok-Some-Bad.ensures.comes) in
    let count : lines_behind taken + 1 ≡ to_it.before + 1 = omega (arith, to_it.behind) in
    record {
      gives = λ was whole begins. to.said-bad c.in-Ok-Some-Bad.found (to_it.comes whole begins) (to_it.few refl) count;
      unread = λ was bad. cc bad;
      codes = λ was. tt;
      passed = λ fine whole begins. to.passed-bad c.in-Ok-Some-Bad.found (to_it.comes whole begins) count;
      here = search rules;
      onward = search rules;
      few = search rules;
      ended = search rules;
    }

pub returns-in-Ok-clause-answers : goal.returns-in-Ok-clause-answers
returns-in-Ok-clause-answers g c =
    let S = g.R.Source in
    let old = c.args.self.now in
    let taken = c.advance.new.self in
    let to_it = rw c.in-Ok-Some-Long.field-0-0-is at (rw c.in-Ok-Some-Long.field-0-is at c.in-Ok-Some-Long.ensures.comes) in
    let now = c.pass_long.new.self in
    let count : lines_behind now ≡ to_it.before + 1 = omega (arith, c.in-Ok.ensures.behind, to_it.behind) in
    record {
      gives = λ was whole begins.
          let before = begins_back S.given S.coming S.at_end whole (source_of taken) (source_of now) c.pass_long.ensures.went begins in
          to.said-long (text (rest_of S.given whole) now) now (to_it.comes whole before) (c.in-Ok.ensures.passed whole begins) (to_it.few refl) count;
      unread = λ was bad. cc bad;
      codes = λ was. tt;
      passed = λ fine whole begins.
          let before = begins_back S.given S.coming S.at_end whole (source_of taken) (source_of now) c.pass_long.ensures.went begins in
          to.passed-long (text (rest_of S.given whole) now) (to_it.comes whole before) (c.in-Ok.ensures.passed whole begins) count;
      here = search rules;
      onward = search rules;
      few = search rules;
      ended = search rules;
    }

pub returns-in-Err-pass_long-clause-answers : goal.returns-in-Err-pass_long-clause-answers
returns-in-Err-pass_long-clause-answers g c =
    let S = g.R.Source in
    let old = c.args.self.now in
    let taken = c.advance.new.self in
    let to_it = rw c.in-Ok-Some-Long.field-0-0-is at (rw c.in-Ok-Some-Long.field-0-is at c.in-Ok-Some-Long.ensures.comes) in
    let now = c.pass_long.new.self in
    let same : lines_behind now ≡ to_it.before = omega (arith, c.in-Err-pass_long.ensures.err.2, to_it.behind) in
    let read : is_read c.in-Err-pass_long.error.code ≡ true = ap is_read c.in-Err-pass_long.ensures.err.0 in
    record {
      gives = λ was whole begins.
          let rest = rest_of S.given whole in
          GivesLine-unread (said_found now) (λ _. lines_behind now) (said_to_come rest old) (said_to_come rest now) c.in-Err-pass_long.error read;
      unread = λ was bad whole begins.
          let before = begins_back S.given S.coming S.at_end whole (source_of taken) (source_of now) c.pass_long.ensures.went begins in
          to.unread-long (S.broken (source_of now)) (to_it.comes whole before) same (c.in-Err-pass_long.ensures.failed whole begins);
      codes = λ was. inl c.in-Err-pass_long.ensures.err.0;
      passed = λ fine. cc fine;
      here = search rules;
      onward = search rules;
      few = search rules;
      ended = search rules;
    }

pub returns-in-Ok-None-clause-answers : goal.returns-in-Ok-None-clause-answers
returns-in-Ok-None-clause-answers g c =
    let S = g.R.Source in
    let old = c.args.self.now in
    let taken = c.advance.new.self in
    let to_it = rw c.in-Ok-None.field-0-is at c.in-Ok-None.ensures.comes in
    let same : lines_behind taken ≡ to_it.before = omega (arith, to_it.behind) in
    record {
      gives = λ was whole begins. to.said-end (said_found taken) (λ _. lines_behind taken) (to_it.comes whole begins) same;
      unread = λ was bad. cc bad;
      codes = λ was. tt;
      passed = λ fine whole begins. to.passed-end (to_it.comes whole begins) same;
      here = search rules;
      onward = search rules;
      few = search rules;
      ended = search rules;
    }

pub returns-in-Err-clause-answers : goal.returns-in-Err-clause-answers
returns-in-Err-clause-answers g c =
    let S = g.R.Source in
    let old = c.args.self.now in
    let taken = c.advance.new.self in
    let to_it = c.in-Err.ensures.comes in
    let same : lines_behind taken ≡ to_it.before = omega (arith, to_it.behind) in
    record {
      gives = λ was whole begins.
          to.said-failed (said_found taken) (λ _. lines_behind taken) (said_to_come (rest_of S.given whole) taken) c.in-Err.error (to_it.comes whole begins);
      unread = λ was bad whole begins.
          to.unread-failed (S.broken (source_of taken)) c.in-Err.error (to_it.comes whole begins) bad same (to_it.moves.failed bad);
      codes = λ was. to_it.good;
      passed = λ fine. cc fine;
      here = search rules;
      onward = search rules;
      few = search rules;
      ended = search rules;
    }
