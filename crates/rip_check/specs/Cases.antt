-- What is said of a case: a prefix of a table, by the plan.
use Rattle.std.specs.Prelude.{ℕ}
use Rattle.rip_wire.specs.Prefix.{Block}
use Rattle.rip_plan.specs.Network.{Network}
use Rattle.rip_table.specs.State.{State}
use Rattle.rip_table.specs.declared.table.Table.{Ghosts}
use Rattle.rip_check.specs.declared.case.Case.{Case}
use Rattle.rip_check.specs.Networks.{block_at, network_at}
use Rattle.rip_check.specs.Told.{told}

-- the table: what is shown
abbrev pub state_of : {T : Type 0} {g : Ghosts T} → Case T g → State
state_of {T} {g} case = g.state case.table.now

-- the network of the plan
abbrev pub plan_of : {T : Type 0} {g : Ghosts T} → Case T g → Network
plan_of case = case.plan.now

-- the prefix
abbrev pub block_of : {T : Type 0} {g : Ghosts T} → Case T g → Block
block_of {T} {g} case = block_at (g.state case.table.now).prefixes case.prefix

-- the network of the prefix
abbrev pub network_of : {T : Type 0} {g : Ghosts T} → Case T g → Network
network_of {T} {g} case = network_at case.plan.now (g.state case.table.now).prefixes case.prefix

-- the table with what is told in the place of what is shown
abbrev pub told_in : {T : Type 0} {g : Ghosts T} → Case T g → State
told_in {T} {g} case = told case.plan.now (g.state case.table.now)

-- so much holds at the place of router r and the prefix, by what is told
abbrev pub At : {T : Type 0} {g : Ghosts T} {X : Type 1}
    → Case T g → (Network → State → ℕ → ℕ → X) → ℕ → X
At case Relation r = Relation (network_of case) (told_in case) r case.prefix

-- so much holds there by the plan, which takes the network of the prefix itself
abbrev pub ByPlan : {T : Type 0} {g : Ghosts T} {X : Type 1}
    → Case T g → (Network → State → ℕ → ℕ → X) → ℕ → X
ByPlan case Relation r = Relation (plan_of case) (told_in case) r case.prefix
