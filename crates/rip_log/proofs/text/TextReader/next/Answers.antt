use Rattle.std.proofs.Common.{refl}
use Rattle.rip_log.proofs.TextLemmas.{call-none, call-some}
use Rattle.rip_log.proofs.text.TextReader.next.Goals as goal

pub returns-in-Ok-None : goal.returns-in-Ok-None
returns-in-Ok-None g c = ((refl, λ _. tt, call-none _ _ _ _ _ _ _ _ _ _ (rw c.in-Ok-None.field-0-is at c.in-Ok-None.ensures.call)), record { leaves = tt })

pub returns-in-Ok-Some : goal.returns-in-Ok-Some
returns-in-Ok-Some g c = ((refl, λ _. tt, call-some _ _ _ _ _ _ _ _ _ _ c.in-Ok-Some.found c.line.result c.line.ensures.bytes c.line.ensures.number (rw c.in-Ok-Some.field-0-is at c.in-Ok-Some.ensures.call)), record { leaves = tt })
