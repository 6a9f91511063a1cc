-- A log that says the datagrams of files goes on with those of one more.
use Rattle.std.proofs.Common.{◌≡◌, ◌≢◌, ◌⊎◌, ◌∙◌, is_err, true, false, ℕ, ◌+◌, Bool, List, [], ◌∷◌, ◌++◌, Result, Ok, Err, map, ap, sym, inl, inr, subst, arith, append_assoc, append-nil}
use Rattle.rip_capture.proofs.ByteLemmas.{all-left, all-right}
use Rattle.rip_log.specs.Lines.{Capture as Captured}
use Rattle.rip_log.specs.Logs.{Numbered}
use Rattle.rip_log.specs.LogText.{EndsLine, LogText}
use Rattle.rip_log.specs.Taken.{Taken, Took}
use Rattle.rip_report.specs.Finished.{EndsWith}
use Rattle.rip_report.specs.CaptureLogs.{AddsFile, File, FileText, Follows, HasDatagrams, HaveDatagrams, IsFile, LogOf, SaysFiles, SoFar, answer_so_far, worse}
use Rattle.rip_report.specs.CaptureLogs.LogOf.{all, stopped}
use Rattle.rip_report.specs.CaptureLogs.SoFar.{none, more}
use Rattle.rip_report.specs.Selections.{Part}
use Rattle.rip_report.specs.Sent.{sink_state}
use Rattle.rip_report.specs.Statuses.{fault_line_of}
use Rattle.rip_report.specs.Written.{line}
use Rattle.rip_report.specs.declared.captures.manner.Manner.{Manner}
use Rattle.rip_report.specs.declared.captures.log.CaptureLog.{CaptureLog}
use Rattle.rip_report.specs.declared.status.RunError.{RunError}
use Rattle.rip_report.specs.declared.status.RunError.TheVariants.{Write}
use Rattle.rip_report.specs.declared.status.Status.{Status}
use Rattle.rip_report.specs.declared.status.Status.TheVariants.{Done, Refused, Settled, Unclear, Unsettled}
use Rattle.rip_report.proofs.CaptureFileLemmas.{failed-text}
use Rattle.rip_report.proofs.CapturedFileLemmas.{have-more}

-- the captures of records
abbrev pub captures_of : List Numbered → List Captured
captures_of records = map (λ r. r.capture) records

-- what the laws say of the text of a file, and of a log of two texts
pub record FileLaws : Type 0 where
  pub ends : (how : Manner) (number lines after : ℕ) (part : Part) (bytes text : List ℕ) (answer : Result Status RunError) → FileText how number lines part bytes text after answer → EndsLine text
  pub says : (how : Manner) (number lines after : ℕ) (file : File) (text : List ℕ) (answer : Result Status RunError) (records : List Numbered) → how.times ≡ false → IsFile file →
      FileText how number lines file.part file.bytes text after answer → LogText text records → (answer ≡ Ok Done) × HasDatagrams how file (captures_of records)
  pub two : (text more : List ℕ) (records : List Numbered) → EndsLine text → LogText (text ++ more) records → (first second : List Numbered) × LogText text first × LogText more second
      × (captures_of records ≡ captures_of first ++ captures_of second)

ends-both : (text part : List ℕ) → EndsLine text → EndsLine part → EndsLine (text ++ part)
ends-both text part ends (inl e) = subst EndsLine (sym (append-nil text) ∙ ap (λ l. text ++ l) (sym e)) ends
ends-both text part ends (inr (front, e)) = inr (text ++ front, ap (λ l. text ++ l) e ∙ sym (append_assoc text front (10 ∷ [])))

ok-of : (s t : Status) → ◌≡◌ {A = Result Status RunError} (Ok s) (Ok t) → s ≡ t
ok-of s t e = cc e

module _ (laws : FileLaws) where
  -- one file more
  one-more : (how : Manner) (files : List File) (file : File) (text part : List ℕ) (number lines after : ℕ) (before : Status) (answer so_far : Result Status RunError)
      → SaysFiles how files text (Ok before) → FileText how number lines file.part file.bytes part after answer → (answer ≡ Ok Done → before ≡ Done → so_far ≡ Ok Done)
      → SaysFiles how (files ++ file ∷ []) (text ++ part) so_far
  one-more how files file text part number lines after before answer so_far s is then = record {
    ends = ends-both text part s.ends (laws.ends how number lines after file.part file.bytes part answer is);
    says = λ plain are records log.
        let (first, second, one, other, same) = laws.two text part records s.ends log in
        let front = s.says plain (all-left IsFile files (file ∷ []) are) first one in
        let last = laws.says how number lines after file part answer second plain (all-right IsFile files (file ∷ []) are).0 is other in
        (then last.0 (ok-of before Done front.0), subst (HaveDatagrams how (files ++ file ∷ [])) (sym same) (have-more how files file (captures_of first) (captures_of second) front.1 last.1));
  }

  -- a log is Done where it was before and the file is
  still-done : (before after : CaptureLog) (lines : ℕ) (answer : Result Status RunError) → Follows before after lines answer → answer ≡ Ok Done → before.status ≡ Done → answer_so_far after answer ≡ Ok Done
  still-done before after lines (Ok Refused) follows e d = e
  still-done before after lines (Ok Done) follows e d = ap Ok (follows.3 ∙ ap (λ s. worse s Done) d)
  still-done before after lines (Ok Unclear) follows e d = absurd (cc e)
  still-done before after lines (Ok Settled) follows e d = absurd (cc e)
  still-done before after lines (Ok Unsettled) follows e d = absurd (cc e)
  still-done before after lines (Err f) follows e d = e

  pub says-goes-on : {K : Type 0} (taken : K → Taken) (broken : K → Bool) (old new : K) (before after : CaptureLog) (owner : Part) (bytes : List ℕ) (answer : Result Status RunError) →
      AddsFile taken broken old new before after owner bytes answer
      → (files : List File) (text : List ℕ) → SaysFiles before.manner files text (Ok before.status) → answer ≢ Err Write
      → (part : List ℕ) × Took (taken old) (taken new) part
      × SaysFiles before.manner (files ++ record { part = owner; bytes = bytes } ∷ []) (text ++ part) (answer_so_far after answer)
  says-goes-on taken broken old new before after owner bytes answer adds files text says wrote =
      let out = adds.text wrote in (
        out.0,
        out.3,
        one-more before.manner files (record { part = owner; bytes = bytes }) text out.0 (before.files + 1) before.lines out.1 before.status answer (answer_so_far after answer) says out.2
            (still-done before after out.1 answer out.4),
      )

  pub failure-says : {K : Type 0} (taken : K → Taken) (broken : K → Bool) (old new : K) (error : RunError) (result : Result Status RunError) → error ≢ Write
      → EndsWith (sink_state taken broken old) (sink_state taken broken new) (line (fault_line_of error)) (Err error) result → (how : Manner) (files : List File) (text : List ℕ) (status : Status) (file : File)
      → SaysFiles how files text (Ok status) → result ≢ Err Write
      → (part : List ℕ) × Took (taken old) (taken new) part × SaysFiles how (files ++ file ∷ []) (text ++ part) result
  failure-says taken broken old new error result good ends how files text status file says wrote =
      let out = ends.out wrote in (
        line (fault_line_of error),
        out.1,
        one-more how files file text (line (fault_line_of error)) 1 0 0 status (Err error) result says (failed-text error good how 1 0 file.part file.bytes (omega arith))
            (λ e d. out.0 ∙ e),
      )

-- ---- a log that a file has ended

-- no log of whole files is Refused
never-refused : (how : Manner) (files : List File) (text : List ℕ) (lines : ℕ) (status : Status) → SoFar how files text lines status → status ≡ Refused → ⊥
never-refused how files text lines status none e = cc e
never-refused how _ _ _ _ (more files file text part lines after before status so_far goes is) e = by before (never-refused how files text lines before so_far) e
  where
    by : (s : Status) → (s ≡ Refused → ⊥) → worse s status ≡ Refused → ⊥
    by Done never e = goes e
    by Settled never e = never e
    by Unsettled never e = never e
    by Unclear never e = never e
    by Refused never e = never e

pub stopped-on : (how : Manner) (files more : List File) (text : List ℕ) (answer : Result Status RunError) → LogOf how files text answer → (answer ≡ Ok Refused) ⊎ (is_err answer ≡ true)
    → LogOf how (files ++ more) text answer
stopped-on how files later text answer (all lines status so_far e) (inl is) = absurd (never-refused how files text lines status so_far (ok-of status Refused (sym e ∙ is)))
stopped-on how files later text answer (all lines status so_far e) (inr is) = absurd (cc (is, ap is_err e))
stopped-on how files later text answer (stopped before after file front part lines behind status so_far is stop e f) ends =
    stopped before (after ++ later) file front part lines behind status so_far is stop (ap (λ l. l ++ later) e ∙ append_assoc before (file ∷ after) later) f
