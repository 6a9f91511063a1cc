-- A table that forgets: of each interface and prefix the metric that was shown last, and for how
-- many seconds it is still shown.
use Rattle.std.specs.Prelude.{ℕ, zero, suc, ◌-◌, ◌==◌, ◌≡◌, nat_lt, Bool, true, false, ◌||◌, if◌then◌else◌, List, length, filter, Option, Some, None, is_some, option_map, slice_get, Result, Ok, Err, is_ok}
use Rattle.rip_wire.specs.Prefix.{Block}
use Rattle.rip_wire.specs.Message.{Message, request, response}
use Rattle.rip_wire.specs.declared.entry.Entry.{Entry}
use Rattle.rip_plan.specs.Network.{Network}
use Rattle.rip_table.specs.State.{State, is_among}
use Rattle.rip_table.specs.Joined.{joined_message}
use Rattle.rip_table.specs.declared.error.TableError.{TableError}
use Rattle.rip_table.specs.declared.error.TableError.TheVariants.{Changed, NextHop, TooManyPrefixes, Memory}

-- a metric, and for how many seconds it is shown, this one with them
pub record Word : Type 0 where
  pub metric : ℕ
  pub left : ℕ

-- The number of interfaces, the list of prefixes, the last word of each interface about each
-- prefix, and for how many seconds each interface is heard, this one with them.
pub record Window : Type 0 where
  pub interfaces : ℕ
  pub prefixes : List Block
  pub words : ℕ → Block → Option Word
  pub heard : ℕ → ℕ

-- what it shows
abbrev pub shown : Window → State
shown w = record {
  interfaces = w.interfaces;
  prefixes = w.prefixes;
  shows = λ i p. option_map (λ x. x.metric) (w.words i p);
  heard = λ i. nat_lt 0 (w.heard i);
}

-- the one of a plan in which nothing was heard
abbrev pub new_window : Network → Window
new_window n = record {
  interfaces = length n.interfaces;
  prefixes = n.prefixes;
  words = λ i p. None;
  heard = λ i. 0;
}

-- ---- a response

-- the table as if interface i had shown nothing
abbrev pub without_shown : ℕ → State → State
without_shown i s = record s { shows = λ j p. if j == i then None else s.shows j p }

-- a metric that is shown from now on, for so many seconds, or the word before
abbrev pub word_or : ℕ → Option ℕ → Option Word → Option Word
word_or seconds None before = before
word_or seconds (Some m) before = Some (record { metric = m; left = seconds })

-- What a response of interface i made of a table in which it had shown nothing takes the place of
-- what it showed.
abbrev pub with_words : ℕ → ℕ → Window → State → Window
with_words seconds i w t = record {
  interfaces = w.interfaces;
  prefixes = t.prefixes;
  words = λ j p. if j == i then word_or seconds (t.shows i p) (w.words i p) else w.words j p;
  heard = λ j. if j == i then seconds else w.heard j;
}

abbrev pub window_after
    : ℕ → ℕ → Window → Result State TableError → Result Window TableError
window_after seconds i w (Ok t) = Ok (with_words seconds i w t)
window_after seconds i w (Err e) = Err e

-- a message of an interface, whose metrics are shown for so many seconds; a request changes nothing
abbrev pub told_message : Network → ℕ → ℕ → Window → Message → Result Window TableError
told_message n seconds i w request = Ok w
told_message n seconds i w (response es) =
    window_after seconds i w
    (joined_message n i (without_shown i (shown w)) (response es))

-- a response without a bad entry, of which an entry is of a prefix that the table lacks: it may
-- allocate
pub record MayGrow (n : Network) (seconds i : ℕ) (w : Window) (m : Message) : Type 0 where
  pub entries : List Entry
  pub says : m ≡ response entries
  pub good : is_ok (told_message n seconds i w m) ≡ true
  pub number : ℕ
  pub entry : Entry
  pub at : slice_get entries number ≡ Some entry
  pub lacks : is_among entry.prefix w.prefixes ≡ false

-- what `tell` answers and leaves
abbrev pub Tells : Network → ℕ → ℕ → Window → Message → Window
    → Result (Unit {0}) TableError → Type 0
Tells n seconds i old m new (Ok u) = told_message n seconds i old m ≡ Ok new
Tells n seconds i old m new (Err Memory) =
    (new ≡ old) × MayGrow n seconds i old m
Tells n seconds i old m new (Err (Changed p x y)) =
    (new ≡ old) × (told_message n seconds i old m ≡ Err (Changed p x y))
Tells n seconds i old m new (Err (NextHop p)) =
    (new ≡ old) × (told_message n seconds i old m ≡ Err (NextHop p))
Tells n seconds i old m new (Err TooManyPrefixes) =
    (new ≡ old) × (told_message n seconds i old m ≡ Err TooManyPrefixes)

-- ---- a second

-- a word in the next second
abbrev pub passed_word : Option Word → Option Word
passed_word None = None
passed_word (Some x) =
    if nat_lt 1 x.left then Some (record { metric = x.metric; left = x.left - 1 }) else None

-- the next second
abbrev pub passed : Window → Window
passed w = record w { words = λ i p. passed_word (w.words i p); heard = λ i. w.heard i - 1 }

-- one of the first so many numbers has it
abbrev pub any_below : ℕ → (ℕ → Bool) → Bool
any_below zero has = false
any_below (suc n) has = has n || any_below n has

-- the prefixes of the plan, and those that an interface shows
abbrev pub forgotten : Network → Window → Window
forgotten n w = record w {
  prefixes = filter (λ p.
      is_among p n.prefixes || any_below w.interfaces (λ i. is_some (w.words i p))) w.prefixes;
}
