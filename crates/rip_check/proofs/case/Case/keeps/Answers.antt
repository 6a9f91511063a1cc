use Rattle.rip_check.specs.Cases.{block_of}
use Rattle.rip_check.proofs.NetLemmas.{kept}
use Rattle.rip_check.proofs.case.Case.keeps.Goals as goal

pub returns : goal.returns
returns g c =
    let case = c.args.self.now in
    let same = kept case.plan.now (block_of case) c.args.router case.prefix in
    (λ t. same.1 (c.keeps.ensures.0 t), λ is. c.keeps.ensures.1 (same.0 is))
