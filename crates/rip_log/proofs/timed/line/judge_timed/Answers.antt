use Rattle.std.proofs.Common.{Err, Ok, Some, []}
use Rattle.std.specs.Io.BufRead.{strip_last}
use Rattle.rip_log.specs.Codes.{code_of}
use Rattle.rip_log.specs.Parts.{capture_of_parts}
use Rattle.rip_log.specs.Said.{origin_by}
use Rattle.rip_log.specs.Spans.{slice_of}
use Rattle.rip_log.proofs.JudgeLemmas.{three-line}
use Rattle.rip_log.proofs.JudgeRelations.{WireLaws}
use Rattle.rip_log.proofs.TimedLemmas.{skipped-line, timed-line, untimed-line}
use Rattle.rip_log.proofs.timed.line.judge_timed.Goals as goal

pub returns-in-Nothing-clause-says : goal.returns-in-Nothing-clause-says
returns-in-Nothing-clause-says c = skipped-line c.args.line.now c.requires (rw c.without_return-bare.ensures at c.in-Nothing.ensures.splits)

pub returns-in-Others-clause-says : goal.returns-in-Others-clause-says
returns-in-Others-clause-says c =
    let others = rw c.without_return-bare.ensures at c.in-Others.ensures.splits in
    untimed-line c.args.line.now c.requires others.0 others.1 others.2

pub returns-in-Ok-clause-says : goal.returns-in-Ok-clause-says
returns-in-Ok-clause-says c =
    let laws : WireLaws = record { names = c.names.ensures.exact; addresses = c.address_texts.ensures.exact; faults = c.first_faults.ensures } in
    let line = c.args.line.now in
    let room = c.judge_fields.new.room in
    let bare = strip_last 13 line in
    let link = slice_of bare c.in-Four.link in
    let sender = slice_of bare c.in-Four.sender in
    let digits = slice_of bare c.in-Four.digits in
    let four = rw c.without_return-bare.ensures at c.in-Four.ensures.splits in
    let said = three-line _ (origin_by []) line room (Ok c.in-Ok.parts) (rw c.without_return-bare.ensures at c.in-Ok.ensures) in
    timed-line laws line c.in-Four.micros link sender digits (Ok (Some (capture_of_parts line room c.in-Ok.parts))) c.requires four.0 said.0

pub returns-in-Ok-clause-parts : goal.returns-in-Ok-clause-parts
returns-in-Ok-clause-parts c = (three-line _ (origin_by []) c.args.line.now c.judge_fields.new.room (Ok c.in-Ok.parts) (rw c.without_return-bare.ensures at c.in-Ok.ensures)).1

pub returns-in-Err-clause-says : goal.returns-in-Err-clause-says
returns-in-Err-clause-says c =
    let laws : WireLaws = record { names = c.names.ensures.exact; addresses = c.address_texts.ensures.exact; faults = c.first_faults.ensures } in
    let line = c.args.line.now in
    let bare = strip_last 13 line in
    let link = slice_of bare c.in-Four.link in
    let sender = slice_of bare c.in-Four.sender in
    let digits = slice_of bare c.in-Four.digits in
    let four = rw c.without_return-bare.ensures at c.in-Four.ensures.splits in
    let said = three-line _ _ line c.judge_fields.new.room (Err c.in-Err.fault) (rw c.without_return-bare.ensures at c.in-Err.ensures) in
    timed-line laws line c.in-Four.micros link sender digits (Err (code_of c.in-Err.fault.why)) c.requires four.0 said.code
