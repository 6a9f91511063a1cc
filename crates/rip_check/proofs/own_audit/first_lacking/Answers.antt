use Rattle.rip_check.proofs.HolderLemmas.{no_marks}
use Rattle.rip_check.proofs.own_audit.first_lacking.Goals as goal

pub mark_holders-requires-clause-blank : goal.mark_holders-requires-clause-blank
mark_holders-requires-clause-blank g c = no_marks 128

pub returns-then-mark_holders-clause-none : goal.returns-then-mark_holders-clause-none
returns-then-mark_holders-clause-none g c = c.mark_holders.ensures.each c.if-mark_holders.true
