-- What is read of a text is what the text is of.
use Rattle.std.proofs.Common.{◌≡◌, ◌<◌, ◌^◌, ◌↔◌, ℕ, List, true, Some, None, sym, ◌∙◌, ap, arith}
use Rattle.std.proofs.lemmas.Slice.Eq.{bytes_eq-Decides}
use Rattle.std.proofs.lemmas.Option.{none-some, same_Some}
use Rattle.rip_wire.specs.Address.{address_in, address_text}
use Rattle.rip_wire.specs.Name.{IsName, is_name}
use Rattle.rip_wire.specs.Prefix.{Block, IsBlock, prefix_in, prefix_text}
use Rattle.rip_plan.specs.Names.{number_of_name}
use Rattle.rip_plan.specs.PlanOf.{IsFirstNamed}
use Rattle.rip_plan.specs.Texts.{IsAddressText, IsNoAddress, IsNoPrefix, IsPrefixText}
use Rattle.rip_plan.proofs.ItemLemmas.{position_first, position_finds}

-- the number of a name is that of the first that is this one
pub first_named : (name : List ℕ) (names : List (List ℕ)) (l : ℕ) → number_of_name name names ≡ Some l → IsFirstNamed names name l
first_named name names l h = grind (arith, position_finds, bytes_eq-Decides, position_first)

pub one_named : (names : List (List ℕ)) (name other : List ℕ) (l m : ℕ) → name ≡ other → IsFirstNamed names name l → IsFirstNamed names other m → l ≡ m
one_named names name other l m same h k = grind arith

-- the laws of names, addresses and prefixes
pub record TextLaws : Type 0 where
  pub name : (text : List ℕ) → (is_name text ≡ true) ↔ IsName text
  pub address : (text : List ℕ) (a : ℕ) → (address_in text ≡ Some a) ↔ ((a < 2 ^ 32) × (text ≡ address_text a))
  pub prefix : (text : List ℕ) (p : Block) → (prefix_in text ≡ Some p) ↔ (IsBlock p × (text ≡ prefix_text p))

module _ (laws : TextLaws) where
  pub address_is : (text : List ℕ) (a : ℕ) → address_in text ≡ Some a → IsAddressText text a
  address_is text a read = (laws.address text a).0 read

  pub prefix_is : (text : List ℕ) (p : Block) → prefix_in text ≡ Some p → IsPrefixText text p
  prefix_is text p read = (laws.prefix text p).0 read

  pub no_address : (text : List ℕ) → address_in text ≡ None → IsNoAddress text
  no_address text none a is = none-some a (sym none ∙ (laws.address text a).1 is)

  pub no_prefix : (text : List ℕ) → prefix_in text ≡ None → IsNoPrefix text
  no_prefix text none p is = none-some p (sym none ∙ (laws.prefix text p).1 is)

  -- a text is of one address, and of one prefix
  pub one_address : (s t : List ℕ) (a b : ℕ) → s ≡ t → IsAddressText s a → IsAddressText t b → a ≡ b
  one_address s t a b same h k = same_Some a b (sym ((laws.address s a).1 h) ∙ ap address_in same ∙ (laws.address t b).1 k)

  pub one_prefix : (s t : List ℕ) (p q : Block) → s ≡ t → IsPrefixText s p → IsPrefixText t q → p ≡ q
  one_prefix s t p q same h k = same_Some p q (sym ((laws.prefix s p).1 h) ∙ ap prefix_in same ∙ (laws.prefix t q).1 k)
