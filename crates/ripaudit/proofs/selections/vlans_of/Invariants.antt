use Rattle.std.proofs.Common.{◌≡◌, ◌++◌, ◌-◌, ℕ, List, length}
use denote.Text.{Utf8}
use denote.Shadow.{shadow}
use Rattle.ripaudit.specs.SelectionTexts.{AreVlanTexts}
use Rattle.ripaudit.proofs.selections.vlans_of.Given as goal

abbrev pub invariant-numbers : goal.invariant-numbers
invariant-numbers l = shadow (Utf8 l.rest) × record {
  sound : (others : List ℕ) → AreVlanTexts l.rest others → AreVlanTexts l.text (l.vlans.items ++ others);
  whole : (all : List ℕ) → AreVlanTexts l.text all → (others : List ℕ) × (all ≡ l.vlans.items ++ others) × AreVlanTexts l.rest others;
}

abbrev pub decreases-numbers : goal.decreases-numbers
decreases-numbers l = 4 - length l.vlans.items
