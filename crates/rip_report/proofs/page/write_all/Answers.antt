use Rattle.std.proofs.Common.{arith, take, drop, length, ℕ, ◌+◌, ◌≤◌, ◌∙◌, List, subst}
use Rattle.std.proofs.lemmas.List.{drop-drop, length-drop, take_rest}
use Rattle.rip_log.specs.Taken.{Took}
use Rattle.rip_report.specs.Sent.{Sent}
use Rattle.rip_report.proofs.SentLemmas.{Sent-then, Sent-push, unbroken}
use Rattle.rip_report.proofs.page.write_all.Goals as goal

pub pieces-preserved : goal.pieces-preserved
pieces-preserved g c =
    let taken = g.K.Sink.taken in
    let bytes = c.args.bytes.now in
    let rest = drop c.pieces.at bytes in
    let n = c.in_ok-at.field-0 in
    let inv = c.pieces.invariant in
    let now = taken c.pieces.out in
    let new = taken c.push.new.self in
    let full = take_rest bytes c.pieces.at in
    let went = subst (λ (l : List ℕ). Took now new (take n l)) full c.in_ok-at.ensures.took in
    let bound = subst (λ (l : List ℕ). n ≤ length l) full c.in_ok-at.ensures.bound in
    record {
      sent = Sent-then (taken c.args.out.now) now new bytes rest (drop (c.pieces.at + n) bytes) inv.sent
          (subst (λ (l : List ℕ). Sent now new rest l) (drop-drop n c.pieces.at bytes) (Sent-push now new rest n went));
      within = omega (arith, bound, length-drop c.pieces.at bytes);
      marks = unbroken (g.K.Sink.broken c.pieces.out) _ c.in_ok-at.ensures.failed c.in_ok-at.ensures.fails_on ∙ inv.marks;
    }
