-- What reading a plan answers.
use Rattle.std.specs.Prelude.{ℕ, List, Option}
use Rattle.std.specs.Result.{result_err}
use Rattle.rip_plan.specs.declared.error.PlanCode.TheVariants.{Memory}
use Rattle.rip_plan.specs.declared.error.PlanError.{PlanError}
use Rattle.rip_plan.specs.declared.error.At.TheVariants.{Text}
use Rattle.rip_plan.specs.Fault.{fault}
use Rattle.rip_plan.specs.Network.{network_in}

-- the error where memory ran out
abbrev pub out_of_memory : PlanError
out_of_memory = fault Memory Text

-- the first fault of the bytes, if they have one
abbrev pub first_fault : List ℕ → Option PlanError
first_fault bytes = result_err (network_in bytes)
