-- What `table` prints.
use Rattle.std.specs.Prelude.{◌≡◌, ℕ, if◌then◌else◌, List, [], ◌++◌, length, codes, decimal, Option, None, Some}
use Rattle.std.specs.List.{enumerate_from, flat_map}
use Rattle.rip_wire.specs.Prefix.{Block, prefix_text}
use Rattle.rip_plan.specs.Network.{Network}
use Rattle.rip_plan.specs.declared.parts.Interface.{Interface}
use Rattle.rip_table.specs.State.{State}
use Rattle.rip_report.specs.Lines.{interface_name, unheard_line}
use Rattle.rip_report.specs.Written.{Written, line}
use Rattle.rip_report.specs.declared.status.Status.TheVariants.{Done}

-- `table: 6 interfaces, 3 prefixes`
unfoldable pub table_line : ℕ → ℕ → List ℕ
table_line interfaces prefixes =
    line (codes "table: " ++ decimal interfaces ++ codes " interfaces, "
    ++ decimal prefixes ++ codes " prefixes")

-- `r1 a 10.2.0.0/16 16`
unfoldable pub metric_line : Network → Interface → Block → ℕ → List ℕ
metric_line n i p m =
    line (interface_name n i ++ codes " " ++ prefix_text p ++ codes " " ++ decimal m)

-- the line of a prefix, if the interface shows it
abbrev pub prefix_lines : Network → Interface → Block → Option ℕ → List ℕ
prefix_lines n i p None = []
prefix_lines n i p (Some m) = metric_line n i p m

-- one line for each prefix that the interface of this number shows
abbrev pub shown_lines : Network → State → ℕ → Interface → List ℕ
shown_lines n s k i = flat_map (λ p. prefix_lines n i p (s.shows k p)) s.prefixes

-- the lines of an interface with its number
abbrev pub interface_lines : Network → State → ℕ × Interface → List ℕ
interface_lines n s at = if s.heard at.0 then shown_lines n s at.0 at.1 else unheard_line n at.1

-- a table: its counts, and its interfaces in the order of the plan
abbrev pub shown_table : Network → State → Written
shown_table n s = record {
  text = table_line (length n.interfaces) (length s.prefixes)
      ++ flat_map (interface_lines n s) (enumerate_from 0 n.interfaces);
  status = Done;
}

-- what is written of a table
abbrev pub TableText : Network → State → Written → Type 0
TableText n s w = w ≡ shown_table n s
