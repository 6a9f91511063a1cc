use Rattle.std.proofs.Common.{◌≡◌, ◌<◌, sym, subst, refl, arith, true}
use Rattle.rip_log.specs.Marks.{is_marked}
use Rattle.rip_log.specs.Outcomes.{all_moved, is_failure, is_no_bytes}
use Rattle.rip_log.proofs.OutcomeLemmas.{gave-noted, none_read, noted_some, noted_last}
use Rattle.rip_log.proofs.source.FromReadSource.pull.Goals as goal

pub invariant_of-self : goal.invariant_of-self
invariant_of-self g c =
    let old = c.args.self.now in
    let read = c.read-read in
    let all : all_moved old.noted.history.outcomes ≡ true = subst (λ m. is_marked m old.noted.history.outcomes ≡ true) c.in-Open.is old.marked in
    record {
      marked = noted_last is_no_bytes old.noted.history.outcomes read.new.self.history.outcomes read.result read.new.buffer all read.ensures.noted
          (none_read read.result c.in-Ok-eq0.field-0 read.new.buffer c.in-Ok-eq0.is (cc (c.in-Ok-eq0.field-0-is, c.in-Ok-eq0.field-0-test)));
    }

pub invariant_of-self-in-Ok : goal.invariant_of-self-in-Ok
invariant_of-self-in-Ok g c =
    let old = c.args.self.now in
    let read = c.read-read in
    let all : all_moved old.noted.history.outcomes ≡ true = subst (λ m. is_marked m old.noted.history.outcomes ≡ true) c.in-Open.is old.marked in
    let some : 0 < c.in-Ok.field-0 = grind (arith, c.in-Ok.field-0-test) in
    record {
      marked = subst (λ m. is_marked m read.new.self.history.outcomes ≡ true) (sym c.in-Open.is)
          (noted_some old.noted.history.outcomes read.new.self.history.outcomes read.result c.in-Ok.field-0 read.new.buffer all read.ensures.noted c.in-Ok.is some c.in-Ok.ensures.bound.0);
    }

pub invariant_of-self-in-Err : goal.invariant_of-self-in-Err
invariant_of-self-in-Err g c =
    let old = c.args.self.now in
    let read = c.read-read in
    let all : all_moved old.noted.history.outcomes ≡ true = subst (λ m. is_marked m old.noted.history.outcomes ≡ true) c.in-Open.is old.marked in
    record { marked = noted_last is_failure old.noted.history.outcomes read.new.self.history.outcomes read.result read.new.buffer all read.ensures.noted (rw c.in-Err.is refl) }

pub returns-in-Ok-eq0-clause-gave : goal.returns-in-Ok-eq0-clause-gave
returns-in-Ok-eq0-clause-gave g c = gave-noted c.args.self.now.noted.history.outcomes c.read-read.new.self.history.outcomes c.read-read.result c.read-read.new.buffer c.read-read.ensures.noted

pub returns-in-Ok-clause-gave : goal.returns-in-Ok-clause-gave
returns-in-Ok-clause-gave g c = gave-noted c.args.self.now.noted.history.outcomes c.read-read.new.self.history.outcomes c.read-read.result c.read-read.new.buffer c.read-read.ensures.noted

pub returns-in-Err-clause-gave : goal.returns-in-Err-clause-gave
returns-in-Err-clause-gave g c = gave-noted c.args.self.now.noted.history.outcomes c.read-read.new.self.history.outcomes c.read-read.result c.read-read.new.buffer c.read-read.ensures.noted
