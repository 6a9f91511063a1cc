use Rattle.std.proofs.Common.{◌≡◌, ◌≢◌, ◌∷◌, [], ℕ, List, Result, Ok, Err, length, ap, sym, refl, inl, inr, arith, subst}
use Rattle.rip_report.specs.CaptureLogs.{File, FileText, LogOf, SoFar, worse}
use Rattle.rip_report.specs.CaptureLogs.LogOf.{all, stopped}
use Rattle.rip_report.specs.CaptureLogs.SoFar.{more, none}
use Rattle.rip_report.specs.Selections.{Part, nothing_named}
use Rattle.rip_report.specs.declared.captures.manner.Manner.{Manner}
use Rattle.rip_report.specs.declared.status.RunError.{RunError}
use Rattle.rip_report.specs.declared.status.Status.{Status}
use Rattle.rip_report.specs.declared.status.Status.TheVariants.{Done, Refused, Settled, Unclear, Unsettled}
use Rattle.rip_report.proofs.CaptureLemmas.{length-snoc}
use Rattle.rip_report_tests.proofs.calling.report.log_of.Goals as goal

-- a log of no file is Done
done : (how : Manner) (files : List File) (text : List ℕ) (lines : ℕ) (status : Status) → SoFar how files text lines status → files ≡ [] → status ≡ Done
done how _ _ _ _ none is = refl
done how _ _ _ _ (more files file text part lines after before status so_far not has) is = absurd (omega (arith, ap length is, length-snoc files file))

abbrev answered : Status → Result Status RunError
answered s = Ok s

-- the text of the first file is the log of it
module _ (how : Manner) (lines after : ℕ) (status : Status) (so_far : SoFar how [] [] lines status) (part : Part) (bytes text : List ℕ) where
  abbrev file : File
  file = record { part = part; bytes = bytes }

  whole : (told : Status) → told ≢ Refused → FileText how 1 lines part bytes text after (Ok told) → LogOf how (file ∷ []) text (Ok told)
  whole told not has =
      all after (worse status told) (more [] file [] text lines after status told so_far not has)
      (ap (λ (s : Status). answered (worse s told)) (sym (done how [] [] lines status so_far refl)))

  log-of : (answer : Result Status RunError) → FileText how 1 lines part bytes text after answer → LogOf how (file ∷ []) text answer
  log-of (Ok Refused) has = stopped [] [] file [] text lines after status so_far has (inl refl) refl refl
  log-of (Ok Settled) has = whole Settled (λ e. cc e) has
  log-of (Ok Done) has = whole Done (λ e. cc e) has
  log-of (Ok Unsettled) has = whole Unsettled (λ e. cc e) has
  log-of (Ok Unclear) has = whole Unclear (λ e. cc e) has
  log-of (Err e) has = stopped [] [] file [] text lines after status so_far has (inr refl) refl refl

pub returns : goal.returns
returns g c = λ bytes is not.
    let log = c.new-log.result in
    let part : Part = record { link = c.args.link.now; selection = nothing_named } in
    let (text, lines, has, took, follows) = (c.run_log.ensures.prints bytes is).text not in
    let is_log = log-of log.manner log.lines lines log.status c.new-log.ensures.empty.so_far part bytes text c.run_log.result.2 (rw c.new-log.ensures.empty.count at has) in
    (text, subst (λ (how : Manner). LogOf how (record { part = part; bytes = bytes } ∷ []) text c.run_log.result.2) c.new-log.ensures.manner is_log, took)
