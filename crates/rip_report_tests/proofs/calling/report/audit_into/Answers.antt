use Rattle.std.proofs.Common.{◌≡◌, ℕ, List, ◌++◌, Option, Some, Result, Ok, Err, Vec, Global, sym, ap, subst, ◌∙◌, false}
use Rattle.std.specs.Prelude.{IfOk}
use Rattle.std.proofs.lemmas.Option.{same_Some}
use Rattle.rip_log.specs.Taken.{Taken, Took}
use Rattle.rip_log.specs.Writers.{taken_by}
use Rattle.rip_report.specs.AuditText.{AuditText}
use Rattle.rip_report.specs.Sent.{BeginningOut, Keeps, WentOut}
use Rattle.rip_report.specs.Written.{Written}
use Rattle.rip_report.specs.declared.status.Status.{Status}
use Rattle.rip_report.specs.declared.status.RunError.{RunError}
use Rattle.rip_report_tests.proofs.calling.report.audit_into.Goals as goal

-- what a vector holds
abbrev contents : Vec ℕ Global → Option (List ℕ)
contents v = Some v.items

-- a vector beneath a sink, that held a and then holds b
module _ (IsText : Written → Type 0) (old new : Taken) (a b : List ℕ) (before : old.beneath ≡ Some a) (after : new.beneath ≡ Some b) where
  grown : (more : List ℕ) → Took old new more → b ≡ a ++ more
  grown more took = rw (before, after) at took.beneath

  whole_text : (answer : Result Status RunError) → IfOk answer (WentOut IsText old new) → IfOk answer (λ status. (text : List ℕ) × IsText (record { text = text; status = status }) × (b ≡ a ++ text))
  whole_text (Ok status) (text, is, took) = (text, is, grown text took)
  whole_text (Err e) h = tt

  beginning : BeginningOut IsText old new → (front left : List ℕ) × (status : Status) × IsText (record { text = front ++ left; status = status }) × (b ≡ a ++ front)
  beginning (w, is, began) =
      let sent = began.sent in
      (sent.front, began.left, w.status, subst (λ (text : List ℕ). IsText (record { text = text; status = w.status })) sent.whole is, grown sent.front sent.sent)

  nothing : Keeps old new → b ≡ a
  nothing kept = same_Some b a (sym after ∙ ap (λ (t : Taken). t.beneath) kept ∙ before)

pub returns-clause-text : goal.returns-clause-text
returns-clause-text c =
    let run = c.run_audit-out in
    let prints = run.ensures.runs.prints c.args.log.now (run.ensures.runs.reads.draws.to_come c.args.log.now c.new.ensures.left) in
    whole_text (AuditText c.args.plan.now c.args.log.now false) (taken_by contents c.new-out.result) (taken_by contents run.result.1) c.args.lines.items c.into_writer.result.items
    (ap contents c.new-out.ensures.writer) (ap contents (sym c.into_writer.ensures)) run.result.2 prints.text

pub returns-clause-write : goal.returns-clause-write
returns-clause-write c = λ failed.
    let run = c.run_audit-out in
    let prints = run.ensures.runs.prints c.args.log.now (run.ensures.runs.reads.draws.to_come c.args.log.now c.new.ensures.left) in
    beginning (AuditText c.args.plan.now c.args.log.now false) (taken_by contents c.new-out.result) (taken_by contents run.result.1) c.args.lines.items c.into_writer.result.items
    (ap contents c.new-out.ensures.writer) (ap contents (sym c.into_writer.ensures)) (prints.write failed).1

pub returns-clause-memory : goal.returns-clause-memory
returns-clause-memory c = λ failed.
    let run = c.run_audit-out in
    let prints = run.ensures.runs.prints c.args.log.now (run.ensures.runs.reads.draws.to_come c.args.log.now c.new.ensures.left) in
    nothing (AuditText c.args.plan.now c.args.log.now false) (taken_by contents c.new-out.result) (taken_by contents run.result.1) c.args.lines.items c.into_writer.result.items
    (ap contents c.new-out.ensures.writer) (ap contents (sym c.into_writer.ensures)) (prints.memory failed)
