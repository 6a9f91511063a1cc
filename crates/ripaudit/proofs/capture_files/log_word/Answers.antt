use Rattle.std.proofs.Common.{◌≡◌, [], ◌∷◌, ◌++◌, ◌∙◌, sym, subst, append-nil}
use Rattle.std.specs.Prelude.{IfNone, IfSome}
use Rattle.rip_report.specs.CaptureLogs.{GoesOn}
use Rattle.rip_report.specs.Selections.{Part}
use Rattle.ripaudit.proofs.FileLemmas.{failed-goes, given-if, kept-more}
use Rattle.ripaudit.proofs.capture_files.log_word.Goals as goal

pub unreachable-requires : goal.unreachable-requires
unreachable-requires g c = let (file, (path, is)) = c.requires in c.in_default.ensures.found file.part path is

pub returns-then-is_err-clause-goes_on : goal.returns-then-is_err-clause-goes_on
returns-then-is_err-clause-goes_on g c = λ file named given files text is wrote.
    let (part, took, log_of) = c.log_failure.ensures.goes_on c.args.log.now files text file is wrote in
    (part, took, failed-goes c.args.log.now _ _ c.log_failure.result.1 _ (c.log_failure.ensures.ends.out wrote).0 log_of)

pub returns-then-is_err-clause-kept : goal.returns-then-is_err-clause-kept
returns-then-is_err-clause-kept g c = ([], c.reserve.ensures.items ∙ sym (append-nil c.args.sources.now.items))

pub returns-clause-goes_on : goal.returns-clause-goes_on
returns-clause-goes_on g c = λ file named given files text is wrote.
    let old = c.args.sources.now.items in
    let all = c.keep.new.sources.items in
    let source = c.log_file-source.result.0 in
    let some = subst (λ l. IfSome source (λ s. all ≡ l ++ s ∷ [])) c.reserve.ensures.items c.keep.ensures.some in
    let part = (c.in-Some.ensures.found file.part named.0 named.1).0 in
    let (more, took, goes) = c.log_file-source.ensures.goes_on file.bytes (given-if source old all file.bytes some given) files text is wrote in
    (more, took, subst (λ (p : Part). GoesOn c.log_file-source.new.log (files ++ record { part = p; bytes = file.bytes } ∷ []) (text ++ more) c.log_file-source.result.2) part goes)

pub returns-clause-kept : goal.returns-clause-kept
returns-clause-kept g c =
    let old = c.args.sources.now.items in
    let all = c.keep.new.sources.items in
    let source = c.log_file-source.result.0 in
    kept-more source old all (subst (λ l. IfSome source (λ s. all ≡ l ++ s ∷ [])) c.reserve.ensures.items c.keep.ensures.some)
    (subst (λ l. IfNone source (all ≡ l)) c.reserve.ensures.items c.keep.ensures.none)
