-- What a table means.
use Rattle.std.specs.Prelude.{◌≡◌, ℕ, ◌<◌, ◌≤◌, Bool, true, false, List, ◌++◌, length, Option, Some, None, slice_get, [], ◌∷◌, if◌then◌else◌}
use Rattle.std.specs.List.{list_any}
use Rattle.rip_wire.specs.Prefix.{Block}
use Rattle.rip_plan.specs.Network.{Network}
use Rattle.rip_plan.specs.Passes.{same_prefix}
use Rattle.rip_plan.specs.Relations.{IsPrefix}
use Rattle.rip_table.specs.declared.limits.TheConstants.{MOST_PREFIXES}

-- The number of interfaces, the list of prefixes, the metric that an interface showed for a prefix,
-- if any, and the interfaces that were heard.
pub record State : Type 0 where
  pub interfaces : ℕ
  pub prefixes : List Block
  pub shows : ℕ → Block → Option ℕ
  pub heard : ℕ → Bool

-- the table of a plan in which nothing was heard
abbrev pub new_state : Network → State
new_state n = record {
  interfaces = length n.interfaces;
  prefixes = n.prefixes;
  shows = λ i p. None;
  heard = λ i. false;
}

-- the prefix is among these
abbrev pub is_among : Block → List Block → Bool
is_among p ps = list_any (λ q. same_prefix p q) ps

-- the prefixes with this one, which is new or not
abbrev pub with_prefix : Block → List Block → List Block
with_prefix p ps = if is_among p ps then ps else ps ++ p ∷ []

-- the table has the plan's interfaces, and its list begins with the plan's prefixes, the others
-- being unplanned
pub record Fits (n : Network) (s : State) : Type 0 where
  pub interfaces : s.interfaces ≡ length n.interfaces
  pub others : List Block
  pub prefixes : s.prefixes ≡ n.prefixes ++ others
  pub unplanned : (k : ℕ) (p : Block) → IsPrefix n k p → is_among p others ≡ false

-- a metric that is shown is one, of a prefix of the list
pub record IsShown (s : State) (p : Block) (m : ℕ) : Type 0 where
  pub least : 1 ≤ m
  pub most : m ≤ 16
  pub listed : is_among p s.prefixes ≡ true

-- each prefix stands once in the list
abbrev pub AreDistinct : List Block → Type 0
AreDistinct ps =
    (j k : ℕ) (p : Block) → slice_get ps j ≡ Some p → slice_get ps k ≡ Some p → j ≡ k

-- the prefixes differ, there are not too many, and what is shown is a metric of one of them
pub record IsState (s : State) : Type 0 where
  pub differ : AreDistinct s.prefixes
  pub few : length s.prefixes ≤ MOST_PREFIXES
  pub shown : (i m : ℕ) (p : Block) → i < s.interfaces → s.shows i p ≡ Some m → IsShown s p m
