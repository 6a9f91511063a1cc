-- What runs on the routers' own tables print and leave.
use Rattle.std.specs.Prelude.{ℕ, Bool, if◌then◌else◌, List, Result, Ok, Err, IfOk}
use Rattle.rip_log.specs.declared.sink.Sink.{Ghosts as SinkOf}
use Rattle.rip_log.specs.declared.source.Source.{Ghosts as SourceOf}
use Rattle.rip_plan.specs.Network.{Network}
use Rattle.rip_plan.specs.PlanOf.{IsPlanOfText}
use Rattle.rip_table.specs.State.{State}
use Rattle.rip_routes.specs.OwnTables.{OwnTables}
use Rattle.rip_routes.specs.Takes.{is_memory, is_read}
use Rattle.rip_routes.specs.RouteText.{RefusesText, TellTables}
use Rattle.rip_routes.specs.declared.error.RoutesError.{RoutesError}
use Rattle.rip_report.specs.Given.{IsGiven}
use Rattle.rip_report.specs.OwnText.{RoutesText}
use Rattle.rip_report.specs.Runs.{PullsLittleBehind, Reads, RefusesPlan}
use Rattle.rip_report.specs.Sent.{Prints}
use Rattle.rip_report.specs.Written.{Written}
use Rattle.rip_report.specs.declared.status.Status.{Status}
use Rattle.rip_report.specs.declared.status.RunError.{RunError}
use Rattle.rip_report.specs.declared.status.RunError.TheVariants.{Read, Memory}

-- a text of routes tells these tables, seen by view, or is refused so
abbrev pub TellsOrRefuses : {G : Type 0} → (G → OwnTables) → Network → List ℕ
    → Result G RoutesError → Type 0
TellsOrRefuses view n text (Ok g) = TellTables n text (view g)
TellsOrRefuses view n text (Err e) = RefusesText n text e

-- where a text of routes is refused at a line by this plan, no more is pulled after it than a
-- reader holds
abbrev pub StopsAtRoute : {R : Type 0} → (R → List ℕ) → (R → Bool) → List ℕ → R → R →
    Result Status RunError → Type 0
StopsAtRoute given at_end plan old new result =
    (text : List ℕ) → IsGiven given at_end old new text → (n : Network) (e : RoutesError)
    → IsPlanOfText plan n → RefusesText n text e →
    IfOk result (λ status. PullsLittleBehind given old new e.line)

-- a run on a plan and a text of routes that ends at the first line that is refused, by the texts
-- that its command has for the tables
pub record RunsOnRoutes {R K : Type 0} (source : SourceOf R) (sink : SinkOf K)
    (IsText : Network → OwnTables → State → Written → Type 0) (plan : List ℕ) (routes : R) (out : K)
    (run : R × K × Result Status RunError) : Type 0 where
  -- the whole text went out, or a beginning where the sink failed, or nothing
  pub prints : (text : List ℕ) → IsGiven source.given source.at_end routes run.0 text →
      Prints sink.taken sink.broken out run.1 run.2 (RoutesText IsText plan text)
  -- what is printed of tables comes only at the source's end, and Read only where it has failed
  pub reads : Reads source.given source.coming source.broken source.at_end routes run.0 run.2
  -- if the plan is refused, the routes are not touched; one that is no text never gives Memory
  pub refuses : RefusesPlan plan routes run.0 run.2
  -- behind the line at which the routes are refused no more is pulled than a reader holds
  pub stops : StopsAtRoute source.given source.at_end plan routes run.0 run.2

-- the tables, or the refusal, or that the source failed, or that a growth was refused
abbrev pub read_of : {G : Type 0} → Result G RoutesError → Result (Result G RoutesError) RunError
read_of (Ok g) = Ok (Ok g)
read_of (Err e) =
    if is_memory e.cause then Err Memory
    else if is_read e.cause then Err Read
    else Ok (Err e)
