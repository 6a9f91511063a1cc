-- What `table` and `routes` print of a log of which something may be left out.
use Rattle.std.specs.Prelude.{◌≡◌, ℕ, List, ◌++◌, length}
use Rattle.rip_plan.specs.Network.{Network}
use Rattle.rip_table.specs.State.{State}
use Rattle.rip_table.specs.declared.tallies.counts.Counts.{Counts}
use Rattle.rip_report.specs.LeftOut.{anyway_status, left_out_line}
use Rattle.rip_report.specs.RoutesText.{RoutesText, routes_line}
use Rattle.rip_report.specs.TableText.{TableText, table_line}
use Rattle.rip_report.specs.Written.{Written}
use Rattle.rip_report.specs.declared.status.Status.{Status}

-- one of these texts, which begins with this line, and after that line the one of what is left out;
-- where anything is left out, the status is Refused
pub record Anyway (IsText : Written → Type 0) (first : List ℕ) (c : Counts) (w : Written)
    : Type 0 where
  pub rest : List ℕ
  pub status : Status
  pub is_text : IsText (record { text = first ++ rest; status = status })
  pub text : w.text ≡ first ++ left_out_line c ++ rest
  pub answers : w.status ≡ anyway_status c status

-- a table, and how much is left out of it
abbrev pub AnywayTable : Network → State → Counts → Written → Type 0
AnywayTable n s =
    Anyway (TableText n s) (table_line (length n.interfaces) (length s.prefixes))

-- the routes of a table, and how much is left out of it
abbrev pub AnywayRoutes : Network → State → Counts → Written → Type 0
AnywayRoutes n s = Anyway (RoutesText n s) (routes_line n s)
