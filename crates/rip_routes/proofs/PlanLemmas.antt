-- What a plan answers, as the definitions compute it.
use Rattle.std.proofs.Common.{◌≡◌, ◌↔◌, ◌<◌, ◌≤◌, ℕ, Bool, true, false, List, length, Option, Some, None, arith, refl, sym, ◌∙◌, ap, inl, inr, eq-eqb, ◌==◌, ◌&&◌}
use Rattle.std.specs.Prelude.{Decides, slice_get, option_and_then, IsAscii}
use Rattle.std.specs.Str.{IsUtf8}
use Rattle.std.proofs.lemmas.Bool.Decides.{nat_tests}
use Rattle.std.proofs.lemmas.Option.{none-some, slice_get_within}
use Rattle.std.proofs.lemmas.Str.{IsUtf8-from_ascii}
use Rattle.rip_wire.specs.Name.{IsName}
use Rattle.rip_wire.specs.Prefix.{Block, prefix_in}
use Rattle.rip_plan.specs.declared.parts.Interface.{Interface}
use Rattle.rip_plan.specs.Names.{number_of_name}
use Rattle.rip_plan.specs.Network.{Network, direct_at, number_of_prefix}
use Rattle.rip_plan.specs.Relations.{IsDirect, IsLawful, IsOn, IsPrefix, Touches}
use Rattle.rip_plan.proofs.ItemLemmas.{any_at, any_finds, cases_option}
use Rattle.rip_plan.proofs.LookupLemmas.{direct_gives, interface_of, named_exact, number_of_planned, prefix_of_number}
use Rattle.rip_plan.proofs.PlanAnswerLemmas.{direct_exact}
use Rattle.rip_routes.specs.RouteLines.{direct_in, is_on_link}

-- two answers to one question
pub one_answer : {A : Type 0} (P : A → Type 0) (o p : Option A) → ((x : A) → (o ≡ Some x) ↔ P x) → ((x : A) → (p ≡ Some x) ↔ P x) → o ≡ p
one_answer P None None h k = refl
one_answer P None (Some y) h k = absurd (none-some y ((h y).1 ((k y).0 refl)))
one_answer P (Some x) p h k = sym ((k x).1 ((h x).0 refl))

-- ---- names

pub named : (names : List (List ℕ)) → ((j k : ℕ) (name : List ℕ) → slice_get names j ≡ Some name → slice_get names k ≡ Some name → j ≡ k) → (name : List ℕ) (o : Option ℕ)
    → ((k : ℕ) → (o ≡ Some k) ↔ (slice_get names k ≡ Some name)) → o ≡ number_of_name name names
named names differ name o exact = one_answer (λ k. slice_get names k ≡ Some name) o (number_of_name name names) exact (named_exact names differ name (number_of_name name names) refl)

-- bytes that are no text are no name
pub unnamed : (names : List (List ℕ)) → ((j k : ℕ) (name : List ℕ) → slice_get names j ≡ Some name → slice_get names k ≡ Some name → j ≡ k)
    → ((k : ℕ) (name : List ℕ) → slice_get names k ≡ Some name → IsName name) → ((text : List ℕ) → IsName text → IsAscii text) → (name : List ℕ) → ¬ IsUtf8 name → None ≡ number_of_name name names
unnamed names differ are ascii name other =
    elim (cases_option (number_of_name name names)) [
      | inl e ↦ sym e
      | inr (k, e) ↦ absurd (other (IsUtf8-from_ascii name (ascii name (are k name ((named_exact names differ name (number_of_name name names) refl k).0 e)))))
    ]

pub named_below : (names : List (List ℕ)) → ((j k : ℕ) (name : List ℕ) → slice_get names j ≡ Some name → slice_get names k ≡ Some name → j ≡ k) → (name : List ℕ) (k : ℕ)
    → number_of_name name names ≡ Some k → k < length names
named_below names differ name k e = slice_get_within names k name ((named_exact names differ name (number_of_name name names) refl k).0 e)

-- bytes that are no text are no prefix
pub no_prefix : ((text : List ℕ) (p : Block) → prefix_in text ≡ Some p → IsAscii text) → (text : List ℕ) → ¬ IsUtf8 text → None ≡ prefix_in text
no_prefix ascii text other =
    elim (cases_option (prefix_in text)) [
      | inl e ↦ sym e
      | inr (p, e) ↦ absurd (other (IsUtf8-from_ascii text (ascii text p e)))
    ]

-- ---- links

on_gives : (n : Network) (r l : ℕ) → is_on_link n r l ≡ true → IsOn n r l
on_gives n r l h =
    let (i, x, at, test) = any_finds (λ (y : Interface). (y.router == r) && (y.link == l)) n.interfaces h in
    (x.cost, (i, record { interface = x; listed = at; router = grind (arith, nat_tests); link = grind (arith, nat_tests); cost = refl }))

on_finds : (n : Network) (r l : ℕ) → IsOn n r l → is_on_link n r l ≡ true
on_finds n r l (cost, (i, is)) =
    any_at (λ (y : Interface). (y.router == r) && (y.link == l)) n.interfaces i is.interface is.listed
    (grind (arith, eq-eqb is.interface.router r is.router, eq-eqb is.interface.link l is.link))

pub on_link_exact : (n : Network) (r l : ℕ) → Decides (is_on_link n r l) (IsOn n r l)
on_link_exact n r l = (on_gives n r l, on_finds n r l)

-- two tests of one thing
pub one_test : {P : Type 0} (a b : Bool) → Decides a P → Decides b P → a ≡ b
one_test true b h k = sym (k.1 (h.0 refl))
one_test false true h k = h.1 (k.0 refl)
one_test false false h k = refl

-- ---- direct costs

pub direct_is : (n : Network) → IsLawful n → (r : ℕ) (p : Block) (o : Option ℕ) → ((k c : ℕ) → IsPrefix n k p → (o ≡ Some c) ↔ IsDirect n r k c) → (((k : ℕ) → IsPrefix n k p → ⊥) → o ≡ None)
    → o ≡ direct_in n r p
direct_is n laws r p o planned unplanned =
    elim (cases_option (number_of_prefix p n.prefixes)) [
      | inl e ↦ unplanned (λ k is. none-some k (sym e ∙ number_of_planned n laws p k is)) ∙ sym (ap (option_and_then (λ k. direct_at r k n.interfaces n.places)) e)
      | inr (k, e) ↦
          one_answer (λ c. IsDirect n r k c) o (direct_at r k n.interfaces n.places) (λ c. planned k c (prefix_of_number n p k e)) (direct_exact n laws r k (direct_at r k n.interfaces n.places) refl)
          ∙ sym (ap (option_and_then (λ k. direct_at r k n.interfaces n.places)) e)
    ]

touch_bounds : (n : Network) → IsLawful n → (j k r c : ℕ) → Touches n j k r c → (1 ≤ c) × (c ≤ 15)
touch_bounds n laws j k r c (inl (l, place, (i, is))) =
    let at = interface_of n i r l c is in
    (laws.direct_least i r l c is, omega (arith, laws.direct_most i r l is.interface.cost c at is, laws.cost_most i r l is.interface.cost at))
touch_bounds n laws j k r c (inr own) = (laws.own_cost_least j k r c own, laws.own_cost_most j k r c own)

-- a cost that a plan has is below 16
pub direct_bounds : (n : Network) → IsLawful n → (r : ℕ) (p : Block) (c : ℕ) → direct_in n r p ≡ Some c → (1 ≤ c) × (c ≤ 15)
direct_bounds n laws r p c h =
    elim (cases_option (number_of_prefix p n.prefixes)) [
      | inl e ↦ absurd (none-some c (sym (ap (option_and_then (λ k. direct_at r k n.interfaces n.places)) e) ∙ h))
      | inr (k, e) ↦ let (j, touches) = direct_gives n r k c (sym (ap (option_and_then (λ k. direct_at r k n.interfaces n.places)) e) ∙ h) in touch_bounds n laws j k r c touches
    ]
