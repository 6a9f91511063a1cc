use Rattle.std.proofs.Common.{◌≡◌, ◌++◌, ◌∙◌, Err, ap, inl, inr, refl, subst, sym}
use Rattle.rip_log.specs.Wholes.{Begins, Went}
use Rattle.rip_capture.specs.NextCall.{source_of}
use Rattle.rip_report.specs.CaptureLogs.FileText.{memory}
use Rattle.rip_report.specs.CapturePackets.{EndsSo}
use Rattle.rip_report.specs.CaptureText.{packet_lines}
use Rattle.rip_report.specs.Selections.{part_of}
use Rattle.rip_report.specs.declared.status.RunError.TheVariants.{Memory}
use Rattle.rip_report.proofs.CaptureFileLemmas.{adds-file, closes-behind, adds-text, adds-unread, far-bytes, log-goes-on, never-memory, not-followed, unread-only}
use Rattle.rip_report.proofs.GivenLemmas.{told_given}
use Rattle.rip_report.proofs.SaidFileLemmas.{says-goes-on}
use Rattle.rip_report.proofs.captures.run_log.Goals as goal

pub returns-in-Ok-clause-prints : goal.returns-in-Ok-clause-prints
returns-in-Ok-clause-prints g c = λ bytes is.
    let S = g.R.Source in
    let taken = g.K.Sink.taken in
    let broken = g.K.Sink.broken in
    let start = S.given c.args.file in
    let logs = c.log_packets-ending.ensures in
    let reader = c.log_packets-ending.new.reader in
    let part = part_of c.args.part.now in
    let link = part.link in
    let out = c.args.out in
    let text : Begins (start ++ bytes) (S.given (source_of reader)) (S.at_end (source_of reader)) =
    subst (λ (s : g.row.R.Denot). Begins (start ++ bytes) (S.given s) (S.at_end s)) c.into_source.ensures is in
    let ends = subst (λ (s : g.row.R.Denot). EndsSo S.given S.at_end c.args.log.now.manner part.selection
    (S.given s) c.args.log.now.lines logs.carriers reader c.log_packets-ending.new.out c.log_packets-ending.result) c.in-Ok.ensures.source logs.ends in
    adds-file S.given S.at_end start bytes reader text taken broken out c.close_file-out.result.0 c.args.log.now c.close_file-out.new.log part c.log_packets-ending.new.out
    c.early_faults.ensures c.read_captures.ensures logs.carriers logs.are logs.few c.log_packets-ending.result c.close_file-out.result.1 ends
    (closes-behind _ _ c.new-text.result c.log_packets-ending.new.out c.args.log.now c.close_file-out.new.log (part_of c.args.part.now).link (packet_lines c.args.log.now.manner (part_of c.args.part.now).link logs.carriers)
    c.log_packets-ending.result c.close_file-out.result.1 c.new-text.ensures.start c.new-text.ensures.text logs.adds c.close_file-out.ensures.closes)

pub returns-in-Ok-clause-read : goal.returns-in-Ok-clause-read
returns-in-Ok-clause-read g c = λ bytes is e.
    let S = g.R.Source in
    let taken = g.K.Sink.taken in
    let broken = g.K.Sink.broken in
    let start = S.given c.args.file in
    let logs = c.log_packets-ending.ensures in
    let reader = c.log_packets-ending.new.reader in
    let part = part_of c.args.part.now in
    let link = part.link in
    let out = c.args.out in
    let text : Begins (start ++ bytes) (S.given (source_of reader)) (S.at_end (source_of reader)) =
    subst (λ (s : g.row.R.Denot). Begins (start ++ bytes) (S.given s) (S.at_end s)) c.into_source.ensures is in
    let ends = subst (λ (s : g.row.R.Denot). EndsSo S.given S.at_end c.args.log.now.manner part.selection
    (S.given s) c.args.log.now.lines logs.carriers reader c.log_packets-ending.new.out c.log_packets-ending.result) c.in-Ok.ensures.source logs.ends in
    let closes = closes-behind _ _ c.new-text.result c.log_packets-ending.new.out c.args.log.now c.close_file-out.new.log (part_of c.args.part.now).link (packet_lines c.args.log.now.manner (part_of c.args.part.now).link logs.carriers)
    c.log_packets-ending.result c.close_file-out.result.1 c.new-text.ensures.start c.new-text.ensures.text logs.adds c.close_file-out.ensures.closes in
    let unread = unread-only taken broken out c.close_file-out.result.0 c.args.log.now c.close_file-out.new.log link
    (packet_lines c.args.log.now.manner link logs.carriers) c.log_packets-ending.result c.close_file-out.result.1 closes e in
    elim (logs.unread unread) [
      | inl failed ↦ inl (ap S.broken c.into_source.ensures ∙ failed)
      | inr far ↦ inr (far-bytes S.given S.at_end start bytes reader text c.args.log.now.manner part.selection c.args.log.now.lines c.log_packets-ending.new.out logs.carriers (rw unread at ends) far)
    ]

pub returns-in-Ok-clause-source : goal.returns-in-Ok-clause-source
returns-in-Ok-clause-source g c = λ no_read no_write.
    let S = g.R.Source in
    let taken = g.K.Sink.taken in
    let broken = g.K.Sink.broken in
    let logs = c.log_packets-ending.ensures in
    let part = part_of c.args.part.now in
    let link = part.link in
    let out = c.args.out in
    let closes = closes-behind _ _ c.new-text.result c.log_packets-ending.new.out c.args.log.now c.close_file-out.new.log (part_of c.args.part.now).link (packet_lines c.args.log.now.manner (part_of c.args.part.now).link logs.carriers)
    c.log_packets-ending.result c.close_file-out.result.1 c.new-text.ensures.start c.new-text.ensures.text logs.adds c.close_file-out.ensures.closes in
    ap S.broken c.into_source.ensures
    ∙ logs.marks (λ e. no_read ((rw e at closes).0.out no_write).0)
    ∙ ap S.broken c.in-Ok.ensures.source

pub returns-in-Err-clause-prints : goal.returns-in-Err-clause-prints
returns-in-Err-clause-prints g c = λ bytes is.
    let taken = g.K.Sink.taken in
    let broken = g.K.Sink.broken in
    let out = c.args.out in
    let log = c.args.log.now in
    adds-text taken broken out c.log_failure-out.result.0 log log (part_of c.args.part.now) bytes _ 0 (Err Memory) c.log_failure-out.result.1 c.log_failure-out.ensures.ends
    (memory refl refl) (not-followed taken broken out c.log_failure-out.result.0 log log (part_of c.args.part.now) bytes _ 0 (Err Memory) c.log_failure-out.result.1 (inr refl) c.log_failure-out.ensures.ends refl)

pub returns-in-Ok-clause-to_come : goal.returns-in-Ok-clause-to_come
returns-in-Ok-clause-to_come g c = λ bytes is.
    let S = g.R.Source in
    let went = subst (λ (s : g.row.R.Denot). Went S.given S.coming S.at_end s c.into_source.result) c.in-Ok.ensures.source
    (subst (λ (s : g.row.R.Denot). Went S.given S.coming S.at_end (source_of c.in-Ok.reader) s) (sym c.into_source.ensures) c.log_packets-ending.ensures.went) in
    told_given S.given S.coming S.at_end c.args.file c.into_source.result went (g.met.R.Source.nothing_left c.into_source.result) bytes is

pub returns-in-Ok-clause-goes_on : goal.returns-in-Ok-clause-goes_on
returns-in-Ok-clause-goes_on g c = λ bytes given files text is wrote.
    log-goes-on g.K.Sink.taken g.K.Sink.broken c.args.out c.close_file-out.result.0 c.args.log.now c.close_file-out.new.log (part_of c.args.part.now) bytes c.close_file-out.result.1
    (returns-in-Ok-clause-prints g c bytes given) files text is wrote

pub returns-in-Err-clause-goes_on : goal.returns-in-Err-clause-goes_on
returns-in-Err-clause-goes_on g c = λ bytes given files text is wrote.
    log-goes-on g.K.Sink.taken g.K.Sink.broken c.args.out c.log_failure-out.result.0 c.args.log.now c.args.log.now (part_of c.args.part.now) bytes c.log_failure-out.result.1
    (returns-in-Err-clause-prints g c bytes given) files text is wrote

pub returns-in-Ok-clause-unread : goal.returns-in-Ok-clause-unread
returns-in-Ok-clause-unread g c = λ bytes gave e.
    let S = g.R.Source in
    let taken = g.K.Sink.taken in
    let broken = g.K.Sink.broken in
    let start = S.given c.args.file in
    let logs = c.log_packets-ending.ensures in
    let reader = c.log_packets-ending.new.reader in
    let part = part_of c.args.part.now in
    let link = part.link in
    let out = c.args.out in
    let ends = subst (λ (s : g.row.R.Denot). EndsSo S.given S.at_end c.args.log.now.manner part.selection
    (S.given s) c.args.log.now.lines logs.carriers reader c.log_packets-ending.new.out c.log_packets-ending.result) c.in-Ok.ensures.source logs.ends in
    let closes = closes-behind _ _ c.new-text.result c.log_packets-ending.new.out c.args.log.now c.close_file-out.new.log (part_of c.args.part.now).link (packet_lines c.args.log.now.manner (part_of c.args.part.now).link logs.carriers)
    c.log_packets-ending.result c.close_file-out.result.1 c.new-text.ensures.start c.new-text.ensures.text logs.adds c.close_file-out.ensures.closes in
    let gave_so : S.given (source_of reader) ≡ start ++ bytes = ap S.given (sym c.into_source.ensures) ∙ gave in
    let unread = unread-only taken broken out c.close_file-out.result.0 c.args.log.now c.close_file-out.new.log link
    (packet_lines c.args.log.now.manner link logs.carriers) c.log_packets-ending.result c.close_file-out.result.1 closes e in
    adds-unread S.given S.at_end start bytes reader taken broken out c.close_file-out.result.0 c.args.log.now c.close_file-out.new.log part c.args.log.now.lines
    c.log_packets-ending.new.out logs.carriers logs.are gave_so (rw unread at ends) c.close_file-out.result.1 (rw unread at closes) e

pub returns-in-Ok-clause-untouched : goal.returns-in-Ok-clause-untouched
returns-in-Ok-clause-untouched g c = λ e.
    let taken = g.K.Sink.taken in
    let broken = g.K.Sink.broken in
    let logs = c.log_packets-ending.ensures in
    let part = part_of c.args.part.now in
    let link = part.link in
    let out = c.args.out in
    absurd (never-memory taken broken out c.close_file-out.result.0 c.args.log.now c.close_file-out.new.log link
    (packet_lines c.args.log.now.manner link logs.carriers) c.log_packets-ending.result c.close_file-out.result.1
    (closes-behind _ _ c.new-text.result c.log_packets-ending.new.out c.args.log.now c.close_file-out.new.log (part_of c.args.part.now).link (packet_lines c.args.log.now.manner (part_of c.args.part.now).link logs.carriers)
    c.log_packets-ending.result c.close_file-out.result.1 c.new-text.ensures.start c.new-text.ensures.text logs.adds c.close_file-out.ensures.closes) e)

pub returns-in-Ok-clause-says : goal.returns-in-Ok-clause-says
returns-in-Ok-clause-says g c = λ bytes given files text says wrote.
    says-goes-on (record { ends = c.logged_files.ensures.ends; says = c.logged_files.ensures.says; two = c.two_texts.ensures }) g.K.Sink.taken g.K.Sink.broken c.args.out c.close_file-out.result.0
    c.args.log.now c.close_file-out.new.log (part_of c.args.part.now) bytes c.close_file-out.result.1 (returns-in-Ok-clause-prints g c bytes given) files text says wrote

pub returns-in-Err-clause-says : goal.returns-in-Err-clause-says
returns-in-Err-clause-says g c = λ bytes given files text says wrote.
    says-goes-on (record { ends = c.logged_files.ensures.ends; says = c.logged_files.ensures.says; two = c.two_texts.ensures }) g.K.Sink.taken g.K.Sink.broken c.args.out c.log_failure-out.result.0
    c.args.log.now c.args.log.now (part_of c.args.part.now) bytes c.log_failure-out.result.1 (returns-in-Err-clause-prints g c bytes given) files text says wrote
