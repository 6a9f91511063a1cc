-- What each command prints, and the command that a word asks for.
use Rattle.std.specs.Prelude.{List}
use Rattle.rip_plan.specs.Network.{Network}
use Rattle.rip_table.specs.Events.{EventAt}
use Rattle.rip_table.specs.State.{State}
use Rattle.rip_routes.specs.OwnTables.{OwnTables}
use Rattle.rip_report.specs.AuditText.{VerdictText}
use Rattle.rip_report.specs.ExpectText.{ExpectedRoutes}
use Rattle.rip_report.specs.ExplainText.{ExplainText}
use Rattle.rip_report.specs.Hearings.{HeardOf, RoutesAnyway, TableAnyway}
use Rattle.rip_report.specs.OwnText.{OwnExplainText, OwnVerdictText}
use Rattle.rip_report.specs.PlanText.{PlanText}
use Rattle.rip_report.specs.RoutesText.{RoutesText}
use Rattle.rip_report.specs.TableText.{TableText}
use Rattle.rip_report.specs.WhatifText.{FailureTexts}
use Rattle.rip_report.specs.Written.{Written}
use Rattle.ripaudit.specs.declared.commands.AnywayCommand.{AnywayCommand}
use Rattle.ripaudit.specs.declared.commands.AnywayCommand.TheVariants as anyway
use Rattle.ripaudit.specs.declared.commands.LogCommand.{LogCommand}
use Rattle.ripaudit.specs.declared.commands.LogCommand.TheVariants.{Audit, Explain, Routes, Table}
use Rattle.ripaudit.specs.declared.commands.OwnCommand.{OwnCommand}
use Rattle.ripaudit.specs.declared.commands.OwnCommand.TheVariants as own
use Rattle.ripaudit.specs.declared.commands.PlanCommand.{PlanCommand}
use Rattle.ripaudit.specs.declared.commands.PlanCommand.TheVariants.{Plan, Expect, WhatIf}

-- what a command prints of a plan
abbrev pub PlanCommandText : PlanCommand → Network → Written → Type 0
PlanCommandText Plan = PlanText
PlanCommandText Expect = ExpectedRoutes
PlanCommandText (WhatIf all) = FailureTexts all

-- what a command prints of the table of a log
abbrev pub LogCommandText : LogCommand → Network → State → Written → Type 0
LogCommandText (Audit all) n s = VerdictText n s all
LogCommandText (Explain all) n s = ExplainText n s all
LogCommandText Routes n s = RoutesText n s
LogCommandText Table n s = TableText n s

-- what a command prints of what the lines of a log come to, whatever they say
abbrev pub AnywayCommandText : AnywayCommand → Network → List EventAt → State → Written → Type 0
AnywayCommandText anyway.Heard = HeardOf
AnywayCommandText anyway.Routes = RoutesAnyway
AnywayCommandText anyway.Table = TableAnyway

-- what a command prints of the routers' own tables, and of what they tell
abbrev pub OwnCommandText : OwnCommand → Network → OwnTables → State → Written → Type 0
OwnCommandText (own.Audit all) n t told = OwnVerdictText n all t told
OwnCommandText (own.Explain all) n t told = OwnExplainText n all t told
