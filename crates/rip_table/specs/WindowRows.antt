-- The rows of a table that forgets.
use Rattle.std.specs.Prelude.{ℕ, ◌+◌, ◌*◌, ◌/◌, ◌%◌, ◌<◌, ◌≤◌, ◌==◌, if◌then◌else◌, Bool, List, ◌++◌, length, map, filter, take, drop, Option, Some, None, is_some, slice_index_or}
use Rattle.std.specs.List.{list_any}
use Rattle.rip_table.specs.Rows.{Rows, cell, heads}
use Rattle.rip_table.specs.Window.{Window, Word, passed_word}

-- what its rows mean
abbrev pub window_of : List ℕ → Rows (Option Word) → Window
window_of heard rows = record {
  interfaces = length heard;
  prefixes = heads rows;
  words = cell None rows;
  heard = λ i. slice_index_or heard i 0;
}

-- a metric that is shown for so many seconds
abbrev pub new_word : ℕ → ℕ → Option Word
new_word seconds metric = Some (record { metric = metric; left = seconds })

-- ---- a word in one number

-- the metric, and 32 for each second
abbrev pub number_of_word : Option Word → ℕ
number_of_word None = 0
number_of_word (Some x) = x.left * 32 + x.metric

abbrev pub word_of : ℕ → Option Word
word_of number =
    if number == 0 then None else Some (record { metric = number % 32; left = number / 32 })

-- the number is of a word with a metric, or of none
pub record IsWordNumber (number : ℕ) : Type 0 where
  pub least : 0 < number → 1 ≤ number % 32
  pub most : number % 32 ≤ 16
  pub left : 0 < number → 1 ≤ number / 32
  pub day : number / 32 ≤ 86400

-- ---- seconds

-- a second later
abbrev pub passed_rows : Rows (Option Word) → Rows (Option Word)
passed_rows rows = map (λ row. (row.0, map passed_word row.1)) rows

-- a row in which something is shown
abbrev pub is_shown_in : List (Option Word) → Bool
is_shown_in cells = list_any is_some cells

-- without those rows from a number on in which nothing is shown
abbrev pub kept_rows : ℕ → Rows (Option Word) → Rows (Option Word)
kept_rows first rows = take first rows ++ filter (λ row. is_shown_in row.1) (drop first rows)
