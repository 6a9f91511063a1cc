-- What is left out of a table: responses that are refused or a stranger's, and lines that are bad.
use Rattle.std.specs.Prelude.{ℕ, ◌==◌, ◌&&◌, if◌then◌else◌, Bool, List, [], ◌++◌, codes, decimal}
use Rattle.rip_table.specs.declared.tallies.counts.Counts.{Counts}
use Rattle.rip_report.specs.Written.{line}
use Rattle.rip_report.specs.declared.status.Status.{Status}
use Rattle.rip_report.specs.declared.status.Status.TheVariants.{Refused}

-- nothing is refused, a stranger's or bad
abbrev pub is_all_joined : Counts → Bool
is_all_joined c = c.refused == 0 && c.strangers == 0 && c.bad == 0

-- this status, or Refused where anything is left out
abbrev pub anyway_status : Counts → Status → Status
anyway_status c status = if is_all_joined c then status else Refused

-- `, 3 refused`, where there are any
abbrev pub count_part : List ℕ → ℕ → List ℕ → List ℕ
count_part separator n word = if n == 0 then [] else separator ++ decimal n ++ word

-- `, 3 refused, 6 of strangers, 5 bad`
unfoldable pub left_out_part : Counts → List ℕ
left_out_part c =
    count_part (codes ", ") c.refused (codes " refused")
    ++ count_part (codes ", ") c.strangers (codes " of strangers")
    ++ count_part (codes ", ") c.bad (codes " bad")

-- a colon before the first count, a comma before the others
abbrev pub separator : Bool → List ℕ
separator is_first = if is_first then codes ": " else codes ", "

-- `left out: 3 refused, 6 of strangers, 5 bad`, where anything is
unfoldable pub left_out_line : Counts → List ℕ
left_out_line c =
    if is_all_joined c then []
    else line (codes "left out" ++ count_part (codes ": ") c.refused (codes " refused")
    ++ count_part (separator (c.refused == 0)) c.strangers (codes " of strangers")
    ++ count_part (separator (c.refused == 0 && c.strangers == 0)) c.bad (codes " bad"))
