-- Names in lists: of links, of routers, and of the keys of a table.
use Rattle.std.specs.Prelude.{ℕ, List, Bool, Option}
use Rattle.std.specs.List.{list_any, position_from}
use Rattle.std.specs.Str.{bytes_eq}

-- the name is among the names
abbrev pub is_one_of : List ℕ → List (List ℕ) → Bool
is_one_of name names = list_any (λ other. bytes_eq other name) names

-- the number of the first name that is this one
abbrev pub number_of_name : List ℕ → List (List ℕ) → Option ℕ
number_of_name name names = position_from (λ other. bytes_eq other name) 0 names
