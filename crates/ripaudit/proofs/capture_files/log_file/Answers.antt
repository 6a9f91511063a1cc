use Rattle.std.proofs.Common.{◌++◌, ◌∷◌, [], subst}
use Rattle.rip_report.specs.CaptureLogs.{GoesOn}
use Rattle.rip_report.specs.Selections.{Part}
use Rattle.ripaudit.specs.CaptureWords.{part_in}
use Rattle.ripaudit.proofs.FileLemmas.{failed-goes, never-ok}
use Rattle.ripaudit.proofs.capture_files.log_file.Goals as goal

pub returns-in-Err-clause-goes_on : goal.returns-in-Err-clause-goes_on
returns-in-Err-clause-goes_on g c = λ bytes given files text is wrote.
    let (more, took, log_of) = c.log_failure-out.ensures.goes_on c.args.log.now files text (record { part = part_in c.args.word.now; bytes = bytes }) is wrote in
    (more, took, failed-goes c.args.log.now _ _ c.log_failure-out.result.1 _ (c.log_failure-out.ensures.ends.out wrote).0 log_of)

pub returns-in-Err-clause-opened : goal.returns-in-Err-clause-opened
returns-in-Err-clause-opened g c = never-ok _ c.log_failure-out.result.1 _ (λ wrote. (c.log_failure-out.ensures.ends.out wrote).0)

pub returns-then-is_input-clause-goes_on : goal.returns-then-is_input-clause-goes_on
returns-then-is_input-clause-goes_on g c = λ bytes given files text is wrote.
    let (more, took, goes) = c.log_reader-source.ensures.goes_on bytes given files text is wrote in
    (more, took, subst (λ (p : Part). GoesOn c.log_reader-source.new.log (files ++ record { part = p; bytes = bytes } ∷ []) (text ++ more) c.log_reader-source.result.2) c.part-part.ensures goes)

pub returns-in-Ok-clause-goes_on : goal.returns-in-Ok-clause-goes_on
returns-in-Ok-clause-goes_on g c = λ bytes given files text is wrote.
    let (more, took, goes) = c.log_reader-source-in-Ok.ensures.goes_on bytes given files text is wrote in
    (more, took, subst (λ (p : Part). GoesOn c.log_reader-source-in-Ok.new.log (files ++ record { part = p; bytes = bytes } ∷ []) (text ++ more) c.log_reader-source-in-Ok.result.2) c.part-part.ensures goes)
