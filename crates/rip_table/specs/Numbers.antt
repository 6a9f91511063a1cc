-- What is known of a response's entries before a table changes.
use Rattle.std.specs.Prelude.{◌≡◌, ℕ, ◌==◌, ◌+◌, ◌%◌, ◌&&◌, nat_lt, Bool, false, not, is_none, if◌then◌else◌, List, [], ◌∷◌, Option, Some, None, Result, Ok, Err, slice_get, slice_index_or}
use Rattle.std.specs.Option.{option_or}
use Rattle.rip_wire.specs.Prefix.{Block}
use Rattle.rip_wire.specs.Message.{response}
use Rattle.rip_wire.specs.declared.entry.Entry.{Entry}
use Rattle.rip_plan.specs.Network.{Network, number_of_prefix}
use Rattle.rip_plan.specs.Passes.{same_prefix}
use Rattle.rip_table.specs.State.{IsState, State}
use Rattle.rip_table.specs.Joined.{brings_pair, joined_entries, with_heard}
use Rattle.rip_table.specs.declared.limits.TheConstants.{MOST_PREFIXES}
use Rattle.rip_table.specs.declared.noted.TheConstants.{FLAGS}
use Rattle.rip_table.specs.declared.error.TableError.{TableError}
use Rattle.rip_table.specs.declared.error.TableError.TheVariants.{Changed, NextHop, TooManyPrefixes}

-- for each entry the number, if any, of its prefix in the list
abbrev pub AreNumbers : List Block → List Entry → List (Option ℕ) → Type 0
AreNumbers prefixes entries numbers =
    (j : ℕ) (e : Entry) → slice_get entries j ≡ Some e
    → slice_get numbers j ≡ Some (number_of_prefix e.prefix prefixes)

-- the flag that a number raises, by its remainder
abbrev pub flag_of : List Bool → ℕ → Bool
flag_of flags k = slice_index_or flags (k % FLAGS) false

-- the metric of the first entry of a prefix
abbrev pub metric_among : Block → List Entry → Option ℕ
metric_among p [] = None
metric_among p (e ∷ es) = if same_prefix p e.prefix then Some e.metric else metric_among p es

-- what the interface showed of a prefix, before these entries or in them
abbrev pub known_metric : State → ℕ → List Entry → Block → Option ℕ
known_metric s i entries p = option_or (s.shows i p) (metric_among p entries)

-- how many prefixes there are with that of an entry, which is new where it has no number and
-- nothing is known of it
abbrev pub counted : ℕ → Option ℕ → Bool → ℕ
counted count number is_known = if is_none number && not is_known then count + 1 else count

-- the fault, if any, of an entry that changes no metric and whose next hop is elsewhere or not, and
-- with whose prefix there are so many
abbrev pub judged_alone : Bool → Entry → ℕ → Result (Unit {0}) TableError
judged_alone is_elsewhere e count =
    if is_elsewhere then Err (NextHop e.prefix)
    else if nat_lt MOST_PREFIXES count then Err TooManyPrefixes
    else Ok tt

-- the fault, if any, of an entry whose prefix had this metric or none, and with which there are so
-- many prefixes
abbrev pub judged : Bool → Entry → Option ℕ → ℕ → Result (Unit {0}) TableError
judged is_elsewhere e None count = judged_alone is_elsewhere e count
judged is_elsewhere e (Some old) count =
    if not (old == e.metric) then Err (Changed e.prefix old e.metric)
    else judged_alone is_elsewhere e count

-- these entries have no fault, and make a table of this one
abbrev pub AreFaultless : Network → ℕ → State → List Entry → Type 0
AreFaultless n i s entries =
    (t : State) × (joined_entries n i (with_heard s i) entries ≡ Ok t) × IsState t

-- the entries have no fault, and it is told whether one brings a pair, or the first of them that is
-- bad has this fault
abbrev pub IsChecked : Network → ℕ → State → List Entry → Result Bool TableError → Type 0
IsChecked n i s entries (Ok brings) =
    AreFaultless n i s entries × (brings ≡ brings_pair i s (response entries))
IsChecked n i s entries (Err e) = joined_entries n i (with_heard s i) entries ≡ Err e
