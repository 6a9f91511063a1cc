use Rattle.rip_table.proofs.UpdateLemmas.{new_prefix}
use Rattle.rip_table.proofs.laws.new_prefixes.Goals as goal

pub returns : goal.returns
returns c = new_prefix c.response_fields.ensures.exact
