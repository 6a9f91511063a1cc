-- What is told of a log is what is said of it.
use Rattle.std.proofs.Common.{◌≡◌, ◌↔◌, Bool, true, false, Option, Some, None, Result, Ok, Err, subst}
use Rattle.rip_plan.specs.Network.{Network}
use Rattle.rip_plan.specs.Relations.{IsLawful}
use Rattle.rip_log.specs.Logs.{Log, IfElse}
use Rattle.rip_table.specs.State.{Fits, IsState, State}
use Rattle.rip_table.specs.Joined.{is_memory, outcome}
use Rattle.rip_table.specs.LogJoin.{IsOutcome}
use Rattle.rip_table.specs.Collects.{SaidOutcome, OutcomeKnown, ToldOutcome, is_read_cause}
use Rattle.rip_table.specs.declared.error.CollectError.{CollectError}

in_neither : (P Q R : Type 0) (a b : Bool) → a ≡ false → b ≡ false → IfElse a P (IfElse b Q R) → R
in_neither P Q R false false h k w = w
in_neither P Q R false true h k w = cc k
in_neither P Q R true b h k w = cc h

-- the clause `outcome` of the law `refused_logs`
abbrev pub RefusedLogs : Type 0
RefusedLogs = (n : Network) (old s : State) (log : Log) (fault : Option CollectError) → IsLawful n → IsState old → Fits n old →
    (outcome n old log ≡ record { state = s; fault = fault }) ↔ IsOutcome n old log s fault

pub said_outcome : (refused_logs : RefusedLogs) (n : Network) (old new : State) (log left : Option Log) (result : Result (Unit {0}) CollectError)
    → IsLawful n → IsState old → Fits n old → ToldOutcome n old log new left result → (told : Log) → log ≡ Some told → SaidOutcome n old told new result
said_outcome refused_logs n old new log left (Ok u) lawful valid fits known told is =
    (refused_logs n old new told None lawful valid fits).0 (subst (λ (l : Option Log). OutcomeKnown n old l new None) is known)
said_outcome refused_logs n old new log left (Err e) lawful valid fits known told is = λ fine read.
    (refused_logs n old new told (Some e) lawful valid fits).0
    (subst (λ (l : Option Log). OutcomeKnown n old l new (Some e)) is (in_neither _ _ _ (is_memory e.cause) (is_read_cause e.cause) fine read known))
