-- What the commands print that read a plan and a log.
use Rattle.std.specs.Prelude.{◌≡◌, ℕ, List, Option, None, Some}
use Rattle.rip_plan.specs.Network.{Network}
use Rattle.rip_plan.specs.PlanOf.{IsPlanOfText}
use Rattle.rip_plan.specs.WellFormed.{IsWellFormed}
use Rattle.rip_log.specs.Logs.{Log, Numbered}
use Rattle.rip_log.specs.LogText.{LogFault, LogText}
use Rattle.rip_log.specs.declared.error.LogError.{LogError}
use Rattle.rip_table.specs.LogJoin.{IsJoin, IsJoined, IsOutcome}
use Rattle.rip_table.specs.State.{AreDistinct, State, new_state}
use Rattle.rip_table.specs.declared.error.CollectError.{CollectError}
use Rattle.rip_report.specs.PlanText.{OfPlan}
use Rattle.rip_report.specs.RefusalText.{refused_log}
use Rattle.rip_report.specs.Written.{Written}

-- the text of a log has these records, and this first fault if it has one
abbrev pub LogSays : List ℕ → List Numbered → Option LogError → Type 0
LogSays text records None = LogText text records
LogSays text records (Some e) = LogFault text records e.line e.code

-- the text of a log makes this table of a plan's new one, and this refuses the rest of it, if
-- anything does
abbrev pub LogMakes : Network → List ℕ → State → Option CollectError → Type 0
LogMakes n text s refusal =
    (log : Log) × LogSays text log.records log.fault × IsOutcome n (new_state n) log s refusal

-- what is written for a network and the text of a log: what refused the log, or one of the texts
-- that a command has for the table of its records
pub data ReportOf (IsText : State → Written → Type 0) (n : Network) (log : List ℕ)
    : Written → Type 0 where
  a_refusal : (s : State) (e : CollectError)
      → LogMakes n log s (Some e)
      → ReportOf IsText n log (refused_log e)
  of_table : (s : State) (w : Written)
      → LogMakes n log s None
      → IsText s w → ReportOf IsText n log w

-- the same for the bytes of a plan
abbrev pub ReportText : (Network → State → Written → Type 0) → List ℕ → List ℕ → Written → Type 0
ReportText IsText plan log = OfPlan (λ n. ReportOf (IsText n) n log) plan

-- nothing in the text of a log is refused; s is the table that its records make
pub record IsTable (n : Network) (log : List ℕ) (s : State) : Type 0 where
  pub records : List Numbered
  pub text : LogText log records
  pub joined : IsJoined n (new_state n) records s

-- the bytes of a plan are well formed and n is their network, and s is the table of the log
pub record IsAccepted (plan log : List ℕ) (n : Network) (s : State) : Type 0 where
  pub well_formed : IsWellFormed plan
  pub network : well_formed.network ≡ n
  pub table : IsTable n log s

-- n is the network of the document that the bytes of a plan are, and s the table that the records
-- of a log's text make, each prefix once
pub record AreRead (plan log : List ℕ) (n : Network) (s : State) : Type 0 where
  pub network : IsPlanOfText plan n
  pub records : List Numbered
  pub text : LogText log records
  pub join : IsJoin n (new_state n) records s
  pub once : AreDistinct s.prefixes
