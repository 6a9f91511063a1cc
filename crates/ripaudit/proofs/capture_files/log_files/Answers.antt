use Rattle.std.proofs.Common.{◌≡◌, ◌+◌, ◌<◌, ◌∙◌, List, [], ℕ, Bor, Ok, length, map, get_or, sym, ap, subst, arith}
use Rattle.std.proofs.Math.ListN.{get_or-map}
use Rattle.std.proofs.lemmas.List.{length-map}
use Rattle.rip_report.specs.CaptureLogs.{LogOf, lines_of, status_of}
use Rattle.rip_report.specs.CaptureLogs.LogOf.{all}
use Rattle.ripaudit.specs.CaptureWords.{IsCaptureWord}
use Rattle.ripaudit.specs.CaptureFiles.{AreFirstFiles}
use Rattle.ripaudit.proofs.FileLemmas.{all-files, ended-files, next-file, no-failure, was-read}
use Rattle.ripaudit.proofs.capture_files.log_files.Goals as goal

-- the texts of words
abbrev texts : List (Bor (List ℕ)) → List (List ℕ)
texts words = map (λ w. w.now) words

abbrev no_word : Bor (List ℕ)
no_word = record { ref_ptr = (0, 0); now = [] }

text-at : (words : List (Bor (List ℕ))) (i : ℕ) → get_or (texts words) i [] ≡ (get_or words i no_word).now
text-at words i = get_or-map (λ w. w.now) words i no_word

below : (words : List (Bor (List ℕ))) (i : ℕ) → i < length words → i < length (texts words)
below words i lt = omega (arith, lt, length-map words (λ (w : Bor (List ℕ)). w.now))

pub log_word-back-requires : goal.log_word-back-requires
log_word-back-requires g c =
    let words = c.args.words.now in
    let i = c.loop-i.i in
    let fine = c.requires.fine i (below words i c.loop-i-test.true) in
    (record { part = fine.part; bytes = [] }, (fine.path, subst (λ w. IsCaptureWord w fine.part fine.path) (text-at words i) fine.names))

pub returns-then-ends_log-clause-log : goal.returns-then-ends_log-clause-log
returns-then-ends_log-clause-log g c = λ files are wrote.
    let words = c.args.words.now in
    let i = c.loop-i.i in
    let taken = g.K.Sink.taken in
    let word = c.log_word-back in
    let inv = c.loop-i.invariant in
    ended-files (taken c.args.out) (taken word.result.0) word.new.log c.args.manner i word.result.1 files (sym c.ends_log.ensures ∙ c.if-ends_log.true) (word.ensures.manner ∙ inv.same)
    c.stopped_logs.ensures
    (next-file (texts words) _ i (length (texts words)) c.loop-i.sources.items word.ensures.kept.0 word.new.sources.items c.loop-i.log word.new.log (taken c.args.out) (taken c.loop-i.out) (taken word.result.0)
    word.result.1 (text-at words i) inv.opened word.ensures.kept.1 (below words i c.loop-i-test.true) inv.so_far word.ensures.goes_on files are wrote)

pub returns-then-ends_log-clause-says : goal.returns-then-ends_log-clause-says
returns-then-ends_log-clause-says g c = λ plain files are good wrote.
    let (text, took, log) = returns-then-ends_log-clause-log g c files are wrote in
    (text, took, λ records says. c.captured_logs.ensures.says c.args.manner files text c.log_word-back.result.1 records plain log good says)

pub loop-i-preserved : goal.loop-i-preserved
loop-i-preserved g c =
    let words = c.args.words.now in
    let i = c.loop-i.i in
    let taken = g.K.Sink.taken in
    let word = c.log_word-back in
    let inv = c.loop-i.invariant in
    record {
      opened = was-read _ word.result.1 (sym c.ends_log.ensures ∙ c.if-ends_log.false) word.ensures.read ∙ ap (λ n. n + 1) inv.opened;
      same = word.ensures.manner ∙ inv.same;
      so_far = λ files are.
          all-files (taken c.args.out) (taken word.result.0) word.new.log i word.result.1 files are.size (sym c.ends_log.ensures ∙ c.if-ends_log.false)
          (next-file (texts words) _ i (i + 1) c.loop-i.sources.items word.ensures.kept.0 word.new.sources.items c.loop-i.log word.new.log (taken c.args.out) (taken c.loop-i.out) (taken word.result.0)
          word.result.1 (text-at words i) inv.opened word.ensures.kept.1 (omega arith) inv.so_far word.ensures.goes_on files are (no-failure word.result.1 (sym c.ends_log.ensures ∙ c.if-ends_log.false)));
    }

pub returns-clause-log : goal.returns-clause-log
returns-clause-log g c = λ files are wrote.
    let words = c.args.words.now in
    let all_read : length (texts words) ≡ c.loop-i.i = omega (arith, c.loop-i.auto.i-end, c.loop-i-test.false, length-map words (λ (w : Bor (List ℕ)). w.now)) in
    let (text, took, is) = c.loop-i.invariant.so_far files (subst (λ n. AreFirstFiles n (texts words) c.loop-i.sources.items files) all_read are) in
    let log = c.loop-i.log in
    (text, took, subst (λ h. LogOf h files text (Ok c.status.result)) c.loop-i.invariant.same (all (lines_of log) (status_of log) is.so_far (ap Ok c.status.ensures)))

pub returns-clause-says : goal.returns-clause-says
returns-clause-says g c = λ plain files are good wrote.
    let (text, took, log) = returns-clause-log g c files are wrote in
    (text, took, λ records says. c.captured_logs.ensures.says c.args.manner files text (Ok c.status.result) records plain log good says)
