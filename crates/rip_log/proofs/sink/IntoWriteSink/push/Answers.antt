use Rattle.std.proofs.Common.{◌≡◌, sym, subst, true}
use Rattle.rip_log.specs.Marks.{is_written, takes_none}
use Rattle.rip_log.specs.Outcomes.{all_moved, outcome_of}
use Rattle.rip_log.proofs.OutcomeLemmas.{none_written, not_written, noted_some, noted_last}
use Rattle.rip_log.proofs.TakenLemmas.{none_noted, pushed_noted}
use Rattle.rip_log.proofs.sink.IntoWriteSink.push.Goals.{in_default-via-in-Ok+else-count-gt0, in_default-via-in_default}
use Rattle.rip_log.proofs.sink.IntoWriteSink.push.Goals as goal

pub invariant_of-self : goal.invariant_of-self
invariant_of-self g c =
    let old = c.args.self.now in
    let write = c.write in
    let all : all_moved old.noted.history.outcomes ≡ true = subst (λ b. is_written b old.noted.history.outcomes ≡ true) c.if-self.false old.marked in
    record {
      marked = subst (λ b. is_written b write.new.self.history.outcomes ≡ true) (sym c.if-self.false)
          (noted_some old.noted.history.outcomes write.new.self.history.outcomes write.result c.in-Ok.count c.args.bytes.now all write.ensures.noted c.in-Ok.is c.if-count-gt0.true
          c.in-Ok.ensures.bound);
    }

pub invariant_of-self-in_default : goal.invariant_of-self-in_default
invariant_of-self-in_default g c =
    let old = c.args.self.now in
    let write = c.write in
    let all : all_moved old.noted.history.outcomes ≡ true = subst (λ b. is_written b old.noted.history.outcomes ≡ true) c.if-self.false old.marked in
    let none : takes_none (outcome_of write.result c.args.bytes.now) ≡ true = elim c.in_default.branch [
      | in_default-via-in-Ok+else-count-gt0 w ↦ none_written write.result w.in-Ok.count c.args.bytes.now w.in-Ok.is w.if-count-gt0.false
      | in_default-via-in_default w ↦ not_written write.result w.in_default.field-0 c.args.bytes.now w.in_default.is
    ] in
    record { marked = noted_last takes_none old.noted.history.outcomes write.new.self.history.outcomes write.result c.args.bytes.now all write.ensures.noted none }

pub returns-in-Ok-clause-took : goal.returns-in-Ok-clause-took
returns-in-Ok-clause-took g c =
    let old = c.args.self.now in
    let write = c.write in
    pushed_noted old.noted.history.outcomes write.new.self.history.outcomes (g.W.Write.contents old.noted.writer)
    (g.W.Write.contents write.new.self.writer) write.result c.in-Ok.count c.args.bytes.now c.in-Ok.is write.ensures.noted write.ensures.bytes

pub returns-in_default-clause-took : goal.returns-in_default-clause-took
returns-in_default-clause-took g c =
    let old = c.args.self.now in
    let write = c.write in
    let none : takes_none (outcome_of write.result c.args.bytes.now) ≡ true = elim c.in_default.branch [
      | in_default-via-in-Ok+else-count-gt0 w ↦ none_written write.result w.in-Ok.count c.args.bytes.now w.in-Ok.is w.if-count-gt0.false
      | in_default-via-in_default w ↦ not_written write.result w.in_default.field-0 c.args.bytes.now w.in_default.is
    ] in
    none_noted old.noted.history.outcomes write.new.self.history.outcomes (g.W.Write.contents old.noted.writer)
    (g.W.Write.contents write.new.self.writer) write.result c.args.bytes.now none write.ensures.noted write.ensures.bytes
