use Rattle.std.proofs.Common.{arith, sym, ◌∙◌}
use Rattle.std.proofs.lemmas.Bool.{false≢true}
use Rattle.rip_log.proofs.DigitLemmas.{bytes_of-odd, bytes_of-long, bytes_of-bad}
use Rattle.rip_log.proofs.digits.fault_of_long.Goals as goal

pub returns-then-digits-eq1 : goal.returns-then-digits-eq1
returns-then-digits-eq1 c = bytes_of-odd _ c.if-digits-eq1.true

pub returns-then-are_digits : goal.returns-then-are_digits
returns-then-are_digits c = bytes_of-long _ (omega arith) (c.are_digits.ensures.0 c.if-are_digits.true) c.requires

pub returns-else-are_digits : goal.returns-else-are_digits
returns-else-are_digits c = bytes_of-bad _ (λ h. false≢true (sym c.if-are_digits.false ∙ c.are_digits.ensures.1 h))
