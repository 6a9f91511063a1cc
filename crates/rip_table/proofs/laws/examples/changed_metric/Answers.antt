use Rattle.std.proofs.Common.{refl}
use Rattle.rip_wire.specs.Fields.{number_at}
use Rattle.rip_wire.specs.Message.{message_in, kind_in, entries_at, entry_at, bits_of_mask, prefix_lens}
use Rattle.rip_table.proofs.laws.examples.changed_metric.Goals as goal

pub returns : goal.returns
unfolding message_in kind_in entries_at entry_at number_at bits_of_mask prefix_lens
returns c = refl
