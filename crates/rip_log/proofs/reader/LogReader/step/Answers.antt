use Rattle.std.proofs.Common.{refl}
use Rattle.rip_log.specs.NextCall.{source_of}
use Rattle.rip_log.specs.Wholes.{rest_of}
use Rattle.rip_log.proofs.CarryLemmas.{says_on}
use Rattle.rip_log.proofs.WholeLemmas.{begins_back}
use Rattle.rip_log.specs.declared.reader.LogReader.{LogReader}
use Rattle.rip_log.proofs.reader.LogReader.step.Goals as goal

pub returns-clause-says : goal.returns-clause-says
returns-clause-says g c = λ whole begins.
    let S = g.R.Source in
    let old = c.args.self.now in
    let now = c.read_line.new.self in
    let mid : LogReader g.row.R.Denot = record { window = c.has_line.new.self; room = old.room; progress = old.progress } in
    let before = begins_back S.given S.coming S.at_end whole c.has_line.new.self.feed.source (source_of now) c.read_line.ensures.moves.went begins in
    says_on (rest_of S.given whole) old mid now c.read_line.result refl (c.has_line.ensures.text whole before) (c.read_line.ensures.says whole begins)
