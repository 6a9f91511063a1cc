-- What a record does where its interface takes its message.
use Rattle.std.proofs.Common.{◌≡◌, ℕ, Option, Some, Ok, Err, refl, ap, ◌∙◌}
use Rattle.rip_wire.specs.Message.{Message, request, response}
use Rattle.rip_log.specs.Logs.{IfElse}
use Rattle.rip_table.specs.State.{State}
use Rattle.rip_table.specs.Joined.{as_cause, is_memory, joined_from, joined_message, Takes, MayAllocateAt}
use Rattle.rip_table.specs.declared.error.TableError.{TableError}
use Rattle.rip_table.specs.declared.error.TableError.TheVariants.{Changed, NextHop, TooManyPrefixes, Memory}
use Rattle.rip_table.specs.declared.error.CollectCause.TheVariants.{Table}
use Rattle.rip_plan.specs.Network.{Network}

from_interface : (net : Network) (i : ℕ) (s : State) (m : Message) → joined_from net s m (Some i) ≡ as_cause (joined_message net i s m)
from_interface net i s request = refl
from_interface net i s (response es) = refl

from_option : (net : Network) (i : ℕ) (s : State) (m : Message) (o : Option ℕ) → o ≡ Some i → joined_from net s m o ≡ as_cause (joined_message net i s m)
from_option net i s m o is = ap (joined_from net s m) is ∙ from_interface net i s m

pub taken_well : (net : Network) (i : ℕ) (old new : State) (m : Message) (o : Option ℕ) → o ≡ Some i → joined_message net i old m ≡ Ok new → joined_from net old m o ≡ Ok new
taken_well net i old new m o is h = from_option net i old m o is ∙ ap as_cause h

pub taken_ill : (net : Network) (i : ℕ) (old new : State) (m : Message) (o : Option ℕ) (e : TableError) → o ≡ Some i → Takes net i old m new (Err e)
    → (new ≡ old) × IfElse (is_memory (Table e)) (MayAllocateAt net old m o) (joined_from net old m o ≡ Err (Table e))
taken_ill net i old new m o Memory is h = (h.0, rw is h.1)
taken_ill net i old new m o (Changed p x y) is h = (h.0, from_option net i old m o is ∙ ap as_cause h.1)
taken_ill net i old new m o (NextHop p) is h = (h.0, from_option net i old m o is ∙ ap as_cause h.1)
taken_ill net i old new m o TooManyPrefixes is h = (h.0, from_option net i old m o is ∙ ap as_cause h.1)
