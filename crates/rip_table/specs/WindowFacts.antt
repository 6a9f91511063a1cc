-- Facts that types of tables that forget carry.
use Rattle.std.specs.Prelude.{◌≡◌, ℕ, ◌/◌, ◌%◌, ◌==◌, Bool, true, false, if◌then◌else◌, Some, None}
use Rattle.std.proofs.Common.{refl, arith, sym}
use Rattle.std.proofs.lemmas.Bool.{eqb-true}
use Rattle.rip_wire.specs.Prefix.{Block}
use Rattle.rip_table.specs.State.{IsShown, IsState, State}
use Rattle.rip_table.specs.Window.{without_shown}
use Rattle.rip_table.specs.WindowRows.{number_of_word, word_of}

-- a number is that of its word
pub number-of-word : (number : ℕ) → number_of_word (word_of number) ≡ number
number-of-word number = by (number == 0) refl
  where
    by : (b : Bool) → (number == 0) ≡ b
        → number_of_word (if b then None else Some (record { metric = number % 32; left = number / 32 })) ≡ number
    by true e = sym (eqb-true number 0 e)
    by false e = omega arith

-- a table is one, as if one of its interfaces had shown nothing
pub IsState-without_shown : (i : ℕ) (s : State) → IsState s → IsState (without_shown i s)
IsState-without_shown i s h = record {
  differ = h.differ;
  few = h.few;
  shown = λ j m p lt is. by (j == i) j m p is (h.shown j m p lt);
}
  where
    by : (b : Bool) (j m : ℕ) (p : Block) → (if b then None else s.shows j p) ≡ Some m
        → (s.shows j p ≡ Some m → IsShown s p m) → IsShown (without_shown i s) p m
    by true j m p is later = absurd (cc is)
    by false j m p is later =
        let here = later is in record { least = here.least; most = here.most; listed = here.listed }
