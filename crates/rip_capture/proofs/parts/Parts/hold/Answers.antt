use Rattle.rip_log.proofs.WholeLemmas.{went_on}
use Rattle.rip_capture.proofs.FeedLemmas.{pulled-keeps}
use Rattle.rip_capture.proofs.parts.Parts.hold.Goals as goal

pub returns-in-Ok-eq0-clause-went : goal.returns-in-Ok-eq0-clause-went
returns-in-Ok-eq0-clause-went g c = let S = g.R.Source in went_on S.given S.coming S.at_end _ _ _ c.pulls.invariant.went c.refill.ensures.went

pub returns-in-Err-clause-keeps : goal.returns-in-Err-clause-keeps
returns-in-Err-clause-keeps g c = λ taken behind. pulled-keeps g.R.Source.given c.pulls.self.feed c.refill.new.self c.refill.ensures.pulled taken (c.pulls.invariant.keeps taken behind)

pub returns-in-Err-clause-went : goal.returns-in-Err-clause-went
returns-in-Err-clause-went g c = let S = g.R.Source in went_on S.given S.coming S.at_end _ _ _ c.pulls.invariant.went c.refill.ensures.went
