-- What a table means that is a list of what interfaces showed.
use Rattle.std.specs.Prelude.{ℕ, ◌==◌, ◌&&◌, ◌≡◌, Bool, false, List, [], ◌∷◌, ◌++◌, length, Option, Some, None, Ok, option_map, find, slice_index_or}
use Rattle.rip_wire.specs.Prefix.{Block}
use Rattle.rip_plan.specs.Passes.{same_prefix}
use Rattle.rip_wire.specs.declared.entry.Entry.{Entry}
use Rattle.rip_table.specs.State.{State, with_prefix}
use Rattle.rip_table.specs.Joined.{joined_entries}
use Rattle.rip_table.specs.declared.list.shown.Shown.{Shown}
use Rattle.rip_plan.specs.Network.{Network}

-- the first metric of an interface and a prefix
abbrev pub metric_in : ℕ → Block → List Shown → Option ℕ
metric_in i p shown =
    option_map (λ c. c.metric) (find (λ c. (i == c.interface) && same_prefix p c.prefix) shown)

abbrev pub list_state : List Bool → List Block → List Shown → State
list_state heard prefixes shown = record {
  interfaces = length heard;
  prefixes = prefixes;
  shows = λ i p. metric_in i p shown;
  heard = λ i. slice_index_or heard i false;
}

-- an item was added with its prefix, unless its interface showed the prefix before
pub record IsAdded (c : Shown) (prefixes : List Block) (shown : List Shown)
    (new_prefixes : List Block) (new_shown : List Shown) : Type 0 where
  pub known : (m : ℕ) → metric_in c.interface c.prefix shown ≡ Some m
      → (new_prefixes ≡ prefixes) × (new_shown ≡ shown)
  pub new : metric_in c.interface c.prefix shown ≡ None
      → (new_prefixes ≡ with_prefix c.prefix prefixes) × (new_shown ≡ shown ++ c ∷ [])

-- what the entries show was added, whose join is a table
abbrev pub AreAdded : ℕ → List Entry → List Block → List Shown → List Block → List Shown → Type 0
AreAdded i entries prefixes shown new_prefixes new_shown =
    (heard : List Bool) (n : Network) (t : State)
    → joined_entries n i (list_state heard prefixes shown) entries ≡ Ok t
    → list_state heard new_prefixes new_shown ≡ t
