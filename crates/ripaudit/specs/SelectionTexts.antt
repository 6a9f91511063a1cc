-- Which packets of a file a word of `log` names: by an interface, by VLANs, or by both.
use Rattle.std.specs.Prelude.{◌≡◌, ◌≤◌, ◌++◌, ◌∷◌, [], ◌||◌, ◌&&◌, ◌==◌, nat_le, ℕ, Bool, false, List, length, codes, decimal}
use Rattle.std.specs.List.{list_all}
use Rattle.rip_report.specs.Selections.{Selection}
use Rattle.ripaudit.specs.Texts.{Lacks}
use Rattle.ripaudit.specs.declared.selections.NamedSelection.{NamedSelection}

-- the number of a VLAN in decimal digits
pub record IsVlanText (text : List ℕ) (vlan : ℕ) : Type 0 where
  pub text_is : text ≡ decimal vlan
  pub some : 1 ≤ vlan
  pub few : vlan ≤ 4094

-- VLANs, outermost first, with dots between them
pub data AreVlanTexts : List ℕ → List ℕ → Type 0 where
  last : (text vlans : List ℕ) (vlan : ℕ) → IsVlanText text vlan → vlans ≡ vlan ∷ [] →
      AreVlanTexts text vlans
  more : (text vlans first rest others : List ℕ) (vlan : ℕ) →
      text ≡ first ++ (codes "." ++ rest) → IsVlanText first vlan → AreVlanTexts rest others →
      vlans ≡ vlan ∷ others → AreVlanTexts text vlans

-- at most four of them
pub record AreVlans (text vlans : List ℕ) : Type 0 where
  pub texts : AreVlanTexts text vlans
  pub few : length vlans ≤ 4

-- a digit, or a dot
abbrev pub is_digit_or_dot : ℕ → Bool
is_digit_or_dot b = (nat_le 48 b && nat_le b 57) || b == 46

-- there are digits and dots alone
abbrev pub is_digits_and_dots : List ℕ → Bool
is_digits_and_dots text = list_all is_digit_or_dot text

-- the name of an interface that a word may name: 1 to 64 bytes, no `@`, and not like VLANs
pub record IsInterfaceName (text : List ℕ) : Type 0 where
  pub some : 1 ≤ length text
  pub few : length text ≤ 64
  pub lacks : Lacks 64 text
  pub other : is_digits_and_dots text ≡ false

-- a text says which packets: those of an interface, those of VLANs, or both, in this order
pub data IsSelectionText (text : List ℕ) (selection : Selection) : Type 0 where
  interface : IsInterfaceName text → selection ≡ record { interface = text; vlans = [] } →
      IsSelectionText text selection
  vlans : (numbers : List ℕ) → AreVlans text numbers →
      selection ≡ record { interface = []; vlans = numbers } → IsSelectionText text selection
  both : (name digits numbers : List ℕ) → text ≡ name ++ (codes "@" ++ digits) →
      IsInterfaceName name → AreVlans digits numbers →
      selection ≡ record { interface = name; vlans = numbers } → IsSelectionText text selection

-- the packets that are named
abbrev pub selection_in : NamedSelection → Selection
selection_in named = record { interface = named.interface.now; vlans = named.vlans.items }
