use Rattle.std.proofs.Common.{◌∙◌, ap, sym}
use Rattle.rip_log.specs.Said.{Origin}
use Rattle.rip_table.proofs.StrangerLemmas.{at-row}
use Rattle.rip_table.proofs.tallies.strangers.Strangers.link.Goals as goal

pub returns : goal.returns
returns g c o t row =
    let is = at-row c.args.self.now.told.entries c.args.k (c.unwrap.result.0.now, c.unwrap.result.1.now) o t (sym (rw c.unwrap.ensures at c.get_index.ensures.entry)) row in
    c.as_str.ensures.value ∙ ap (λ (p : Origin). p.link) is.0
