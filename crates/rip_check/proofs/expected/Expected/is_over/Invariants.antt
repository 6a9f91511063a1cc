use Rattle.std.proofs.Common.{◌≢◌, ℕ, ◌<◌, get_or}
use Rattle.rip_plan.specs.Relations.{IsInterface}
use Rattle.rip_check.specs.Networks.{network_at}
use Rattle.rip_check.proofs.OverLemmas.{GivesNot}
use Rattle.rip_check.proofs.expected.Expected.is_over.Given as goal

-- no neighbour at a place before gives the metric
abbrev pub invariant-loop-j : goal.invariant-loop-j
invariant-loop-j l =
    (k s d : ℕ) → k < l.j-index → IsInterface (network_at l.plan l.plan.prefixes l.prefix) (get_or l.numbers k 0) s l.own.link d → s ≢ l.own.router → GivesNot (network_at l.plan l.plan.prefixes l.prefix) l.prefix l.own.link l.own.cost l.metric s
