use Rattle.std.proofs.Common.{Some}
use Rattle.rip_check.proofs.LeftLemmas.{never_nearer, not_nearer}
use Rattle.rip_check.proofs.laws.failures_bring_nothing_nearer.Goals as goal

pub returns-clause-whole : goal.returns-clause-whole
returns-clause-whole c = λ n f p r v w none before after. never_nearer n (Some f) p (λ s l at. absurd (none s p l at)) r v w before after

pub returns-clause-prefix : goal.returns-clause-prefix
returns-clause-prefix c = λ n f p r v w plan none known before after. not_nearer n plan (Some f) p (λ s l at. absurd (none s p l at)) r v w known before after
