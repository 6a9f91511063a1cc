-- Lines of the items of a list, one after the other.
use Rattle.std.proofs.Common.{◌≡◌, ℕ, zero, suc, ◌+◌, ◌≤◌, List, [], ◌∷◌, ◌++◌, Some, length, take, refl, sym, ap, ◌∙◌, append_assoc, append-nil, arith}
use Rattle.std.specs.List.{enumerate_from, flat_map, slice_get}
use Rattle.std.proofs.lemmas.List.{take_all}
use Rattle.std.proofs.lemmas.List.FromFn.{length-enumerate_from}
use Rattle.rip_report.specs.Outs.{Adds, Progress}

-- the lines of the first i items were added
pub record AddsFirst {A : Type 0} (line : A → List ℕ) (xs : List A) (i : ℕ)
    (old new : Progress) : Type 0 where
  pub adds : Adds old new (flat_map line (take i xs))

-- and those of the first i items with their numbers: a record, so that xs is found without being named
pub record AddsNumbered {A : Type 0} (line : ℕ × A → List ℕ) (xs : List A) (i : ℕ)
    (old new : Progress) : Type 0 where
  pub first : AddsFirst line (enumerate_from 0 xs) i old new

-- an item with its number
enumerated : {A : Type 0} (xs : List A) (n i k : ℕ) (x : A) → k ≡ n + i → slice_get xs i ≡ Some x
    → slice_get (enumerate_from n xs) i ≡ Some (k, x)
enumerated [] n zero k x at h = absurd (cc)
enumerated [] n (suc i) k x at h = absurd (cc)
enumerated {A} (y ∷ xs) n zero k x at h =
    let same : y ≡ x = cc in
    let number : n ≡ k = omega arith in
    rw (same, number) refl
enumerated {A} (y ∷ xs) n (suc i) k x at h =
    let number : k ≡ n + 1 + i = omega arith in
    enumerated xs (n + 1) i k x number h

take-item : {A : Type 0} (line : A → List ℕ) (xs : List A) (i : ℕ) (x : A) → slice_get xs i ≡ Some x → flat_map line (take (suc i) xs) ≡ flat_map line (take i xs) ++ line x
take-item line [] zero x h = absurd (cc)
take-item line [] (suc i) x h = absurd (cc)
take-item line (y ∷ xs) zero x h = let same : y ≡ x = cc in rw same (simp append-nil)
take-item line (y ∷ xs) (suc i) x h = ap (λ (l : List ℕ). line y ++ l) (take-item line xs i x h) ∙ sym (append_assoc (line y) (flat_map line (take i xs)) (line x))

-- one item more
pub item_more : {A : Type 0} {line : A → List ℕ} {xs : List A} {i : ℕ} {x : A} {old mid new : Progress}
    → AddsFirst line xs i old mid → slice_get xs i ≡ Some x → Adds mid new (line x) → AddsFirst line xs (i + 1) old new
item_more {A} {line} {xs} {i} {x} {old} so is one =
    let next : i + 1 ≡ suc i = omega arith in
    record {
      adds = record {
        start = one.start ∙ so.adds.start;
        text = one.text ∙ ap (λ (l : List ℕ). l ++ line x) so.adds.text ∙ append_assoc old.text (flat_map line (take i xs)) (line x)
            ∙ ap (λ (l : List ℕ). old.text ++ l) (sym (rw next (take-item line xs i x is)));
      };
    }

pub numbered_more : {A : Type 0} {line : ℕ × A → List ℕ} {xs : List A} {i : ℕ} {x : A} {old mid new : Progress}
    → AddsNumbered line xs i old mid → slice_get xs i ≡ Some x → Adds mid new (line (i, x)) → AddsNumbered line xs (i + 1) old new
numbered_more {A} {line} {xs} {i} {x} so is one = record { first = item_more so.first (enumerated xs 0 i i x (omega arith) is) one }

-- all of them
pub all_items : {A : Type 0} {line : A → List ℕ} {xs : List A} {i : ℕ} {old new : Progress}
    → AddsFirst line xs i old new → length xs ≤ i → Adds old new (flat_map line xs)
all_items {A} {line} {xs} {i} so all = let is : take i xs ≡ xs = take_all i xs all in rw is at so.adds

pub all_numbered : {A : Type 0} {line : ℕ × A → List ℕ} {xs : List A} {i : ℕ} {old new : Progress}
    → AddsNumbered line xs i old new → length xs ≤ i → Adds old new (flat_map line (enumerate_from 0 xs))
all_numbered {A} {line} {xs} so all = all_items so.first (rw (length-enumerate_from 0 xs) all)
