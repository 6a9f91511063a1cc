use Rattle.rip_log.specs.Spans.{slice_of}
use Rattle.rip_log.proofs.TimedLemmas.{endless-kept, line-taken, long-taken}
use Rattle.rip_log.proofs.WholeLemmas.{begins_back}
use Rattle.rip_log.proofs.timed.reader.TimedReader.take_line.Goals as goal

pub returns-in-Err-pass_line-clause-failed : goal.returns-in-Err-pass_line-clause-failed
returns-in-Err-pass_line-clause-failed g c = λ whole begins.
    let S = g.R.Source in
    let before = begins_back S.given S.coming S.at_end whole c.take_line.new.self.feed.source c.pass_line.new.self.feed.source c.pass_line.ensures.went begins in
    endless-kept _ _ _ ((rw c.in-Ok-Long.field-0-is at c.in-Ok-Long.ensures.cut) whole before).1 (c.in-Err-pass_line.ensures.failed whole begins)

pub returns-in-Ok-Line-clause-says : goal.returns-in-Ok-Line-clause-says
returns-in-Ok-Line-clause-says g c = λ whole begins.
    let line = slice_of c.take_line.new.self.feed.buffer.items c.in-Ok-Line.line in
    let says = rw c.range.ensures at c.judge_timed-judged.ensures.says in
    line-taken _ _ line _ ((rw c.in-Ok-Line.field-0-is at c.in-Ok-Line.ensures.cut) whole begins) says

pub returns-in-Ok-clause-says : goal.returns-in-Ok-clause-says
returns-in-Ok-clause-says g c = λ whole begins.
    let S = g.R.Source in
    let before = begins_back S.given S.coming S.at_end whole c.take_line.new.self.feed.source c.pass_line.new.self.feed.source c.pass_line.ensures.went begins in
    let cut = (rw c.in-Ok-Long.field-0-is at c.in-Ok-Long.ensures.cut) whole before in
    long-taken _ _ _ cut.0 cut.1 (c.in-Ok.ensures.passed whole begins)
