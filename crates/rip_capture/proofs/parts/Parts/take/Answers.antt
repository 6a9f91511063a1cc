use Rattle.rip_capture.proofs.FeedLemmas.{takes-front}
use Rattle.rip_capture.proofs.parts.Parts.take.Goals as goal

pub returns-clause-takes : goal.returns-clause-takes
returns-clause-takes g c = takes-front g.R.Source.given c.args.self.now.feed c.take.new.self c.args.count c.take.ensures.source c.take.ensures.left
