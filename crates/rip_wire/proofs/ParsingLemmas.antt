-- What has the text of an address or of a prefix.
use Rattle.std.proofs.Common.{◌≡◌, ◌≢◌, ℕ, zero, suc, ◌+◌, ◌-◌, ◌/◌, ◌%◌, ◌^◌, ◌<◌, ◌≤◌, inl, inr, Bool, true, false, ◌&&◌, cond, eqb, List, [], ◌∷◌, ◌++◌, Option, Some, None, Result, length, get_or, take, drop, decimal, codes, refl, sym, ap, subst, ◌∙◌, arith}
use Rattle.std.specs.Int.{IsInRange}
use Rattle.std.specs.List.{before_first, position_or_len}
use Rattle.std.specs.Option.{SomeIff, option_and_then}
use Rattle.std.specs.Result.{result_ok}
use Rattle.std.specs.Str.{all_ascii_digits, bytes_eq}
use Rattle.std.specs.Str.Parse.{digits_value, ParsesUnsigned}
use Rattle.std.specs.Str.Pattern.{FindsChar}
use Rattle.std.specs.Int.{w32, from_be_bytes}
use Rattle.std.proofs.lemmas.Bool.{cases_lt, eqb-true, eq-eqb}
use Rattle.std.proofs.lemmas.Fmt.{parse-decimal, digits_decimal, decimal_injective}
use Rattle.std.proofs.lemmas.List.{get_or_append_left, get_or-append_right, take_at, append_cancel_left, length-append}
use Rattle.std.proofs.lemmas.List.Sums.{position_or_len_is}
use Rattle.std.proofs.lemmas.Slice.Eq.{bytes_eq-Decides}
use Rattle.std.proofs.lemmas.Str.Parse.{IsNumeralModel, numerals_by_value, tells_all_ascii_digits, not_in_digits}
use Rattle.std.proofs.lemmas.Str.Pattern.{finds_char_after}
use Rattle.rip_wire.specs.Address.{address_text, address_below, address_in}
use Rattle.rip_wire.specs.Prefix.{Block, block, size_of, IsBlock, prefix_text, prefix_below, prefix_in}

-- no byte of the text is c
abbrev pub Lacks : ℕ → List ℕ → Type 0
Lacks c xs = (i : ℕ) → i < length xs → get_or xs i 0 ≢ c

pub digits : IsNumeralModel (λ ds. all_ascii_digits ds ≡ true) (digits_value 10)
digits = numerals_by_value (λ ds. all_ascii_digits ds ≡ true) tells_all_ascii_digits

pub Lacks-decimal : (c n : ℕ) → (IsInRange 48 57 c → ⊥) → n < 2 ^ 64 → Lacks c (decimal n)
Lacks-decimal c n other small = not_in_digits digits (decimal n) c (digits_decimal digits n small) other

Lacks-append : (c : ℕ) (xs ys : List ℕ) → Lacks c xs → Lacks c ys → Lacks c (xs ++ ys)
Lacks-append c xs ys left right i lt =
    elim (cases_lt i (length xs)) [
      | inl less ↦ λ e. left i less (sym (get_or_append_left xs ys 0 i less) ∙ e)
      | inr le ↦ λ e. right (i - length xs) (omega (arith, length-append xs ys)) (sym (get_or-append_right xs ys (length xs) i 0 refl le) ∙ e)
    ]

dot_is_no_digit : IsInRange 48 57 46 → ⊥
dot_is_no_digit h = omega (arith, h.0)

slash_is_no_digit : IsInRange 48 57 47 → ⊥
slash_is_no_digit h = omega (arith, h.0)

pub Lacks-dot : (n : ℕ) → n < 256 → Lacks 46 (decimal n)
Lacks-dot n small = Lacks-decimal 46 n dot_is_no_digit (omega arith)

Lacks-slash : (n : ℕ) → n < 256 → Lacks 47 (decimal n)
Lacks-slash n small = Lacks-decimal 47 n slash_is_no_digit (omega arith)

dot_lacks_slash : Lacks 47 (codes ".")
dot_lacks_slash zero lt e = omega arith
dot_lacks_slash (suc i) lt e = omega arith

dotted_lacks_slash : (n : ℕ) (rest : List ℕ) → n < 256 → Lacks 47 rest → Lacks 47 (decimal n ++ (codes "." ++ rest))
dotted_lacks_slash n rest small h = Lacks-append 47 (decimal n) (codes "." ++ rest) (Lacks-slash n small) (Lacks-append 47 (codes ".") rest dot_lacks_slash h)

pub address_text-lacks_slash : (a : ℕ) → a < 2 ^ 32 → Lacks 47 (address_text a)
address_text-lacks_slash a small =
    let last = decimal (a % 256) in
    let third = decimal (a / 2 ^ 8 % 256) ++ (codes "." ++ last) in
    let second = decimal (a / 2 ^ 16 % 256) ++ (codes "." ++ third) in
    dotted_lacks_slash (a / 2 ^ 24) second (omega arith)
    (dotted_lacks_slash (a / 2 ^ 16 % 256) third (omega arith) (dotted_lacks_slash (a / 2 ^ 8 % 256) last (omega arith) (Lacks-slash (a % 256) (omega arith))))

-- ---- What is read of a text

-- what `split_once` gives at a byte: the parts before and after it
abbrev pub AreSplit : ℕ → List ℕ → List ℕ → List ℕ → Type 0
AreSplit c bs left right = (i : ℕ) × (j : ℕ) × FindsChar c bs (Some (i, j)) × (left ≡ take i bs) × (right ≡ drop j bs) × (i ≤ j) × (length left ≡ i) × (length right + j ≡ length bs)

pub split_none : (c : ℕ) (bs xs ys : List ℕ) → c < 128 → FindsChar c bs None → bs ≡ xs ++ (c ∷ ys) → Lacks c xs → ⊥
split_none c bs xs ys low h e lacks = finds_char_after c bs xs ys None h low e lacks

pub split_some : (c : ℕ) (bs xs ys left right : List ℕ) → c < 128 → AreSplit c bs left right → bs ≡ xs ++ (c ∷ ys) → Lacks c xs → (left ≡ xs) × (right ≡ ys)
split_some c bs xs ys left right low h e lacks =
    let at = finds_char_after c bs xs ys (Some (h.0, h.1)) h.2 low e lacks in
    (h.3 ∙ at.0, h.4 ∙ at.1)

-- the number of a text of digits
pub parsed : {E : Type 0} (n : ℕ) (bs : List ℕ) (r : Result ℕ E) (o : Option ℕ) → n < 256 → bs ≡ decimal n → ParsesUnsigned 8 10 bs r → o ≡ result_ok r → o ≡ Some n
parsed n bs r o small e p is = is ∙ ap result_ok (parse-decimal 8 n bs r small (omega arith) e p)

-- the four bytes of an address, highest first, are its number
pub number_of_bytes : (a : ℕ) → a < 2 ^ 32 → from_be_bytes w32 (a / 2 ^ 24 ∷ a / 2 ^ 16 % 256 ∷ a / 2 ^ 8 % 256 ∷ a % 256 ∷ []) ≡ a
number_of_bytes a small = omega arith

-- a block that is a prefix is one
pub some_block : (r : Option Block) (b p : Block) → SomeIff r (IsBlock b) b → b ≡ p → IsBlock p → r ≡ Some p
some_block None b p h same is = absurd (h (subst IsBlock (sym same) is))
some_block (Some q) b p h same is = ap Some (h.1 ∙ same)

-- ---- Two texts

same_front : (c : ℕ) (xs ys us vs : List ℕ) → Lacks c xs → Lacks c us → xs ++ (c ∷ ys) ≡ us ++ (c ∷ vs) → (xs ≡ us) × (ys ≡ vs)
same_front c [] ys [] vs left right e = (refl, cc)
same_front c [] ys (u ∷ us) vs left right e = absurd (right 0 (omega arith) (let first : c ≡ u = cc in sym first))
same_front c (x ∷ xs) ys [] vs left right e = absurd (left 0 (omega arith) (let first : x ≡ c = cc in first))
same_front c (x ∷ xs) ys (u ∷ us) vs left right e =
    let first : x ≡ u = cc in
    let others : xs ++ (c ∷ ys) ≡ us ++ (c ∷ vs) = cc in
    let rest = same_front c xs ys us vs (λ i lt. left (suc i) (omega arith)) (λ i lt. right (suc i) (omega arith)) others in
    (rw (first, rest.0) refl, rest.1)

same_dotted : (m n : ℕ) (xs ys : List ℕ) → m < 256 → n < 256 → decimal m ++ (codes "." ++ xs) ≡ decimal n ++ (codes "." ++ ys) → (m ≡ n) × (xs ≡ ys)
same_dotted m n xs ys m_small n_small e =
    let parts = same_front 46 (decimal m) xs (decimal n) ys (Lacks-dot m m_small) (Lacks-dot n n_small) e in
    (decimal_injective m n (omega arith) (omega arith) parts.0, parts.1)

-- two addresses with one text are equal
pub address_text-same : (a b : ℕ) → a < 2 ^ 32 → b < 2 ^ 32 → address_text a ≡ address_text b → a ≡ b
address_text-same a b a_small b_small e =
    let first = same_dotted (a / 2 ^ 24) (b / 2 ^ 24) _ _ (omega arith) (omega arith) e in
    let second = same_dotted (a / 2 ^ 16 % 256) (b / 2 ^ 16 % 256) _ _ (omega arith) (omega arith) first.1 in
    let third = same_dotted (a / 2 ^ 8 % 256) (b / 2 ^ 8 % 256) _ _ (omega arith) (omega arith) second.1 in
    let fourth = decimal_injective (a % 256) (b % 256) (omega arith) (omega arith) third.1 in
    omega (arith, first.0, second.0, third.0, fourth)

-- two prefixes of one network with one text are equal
prefix_text-same : (n k l : ℕ) → k ≤ 32 → l ≤ 32 → prefix_text (block n k) ≡ prefix_text (block n l) → k ≡ l
prefix_text-same n k l k_few l_few e =
    let tails = append_cancel_left (address_text n) (codes "/" ++ decimal k) (codes "/" ++ decimal l) e in
    decimal_injective k l (omega arith) (omega arith) (append_cancel_left (codes "/") (decimal k) (decimal l) tails)

-- ---- The address that has a text

pub same_bytes : (xs ys : List ℕ) → bytes_eq xs ys ≡ true → xs ≡ ys
same_bytes xs ys h = (bytes_eq-Decides xs ys).0 h

pub bytes_same : (xs ys : List ℕ) → xs ≡ ys → bytes_eq xs ys ≡ true
bytes_same xs ys h = (bytes_eq-Decides xs ys).1 h

below_gives : (n : ℕ) (text : List ℕ) (a : ℕ) → address_below n text ≡ Some a → (a < n) × (text ≡ address_text a)
unfolding address_below
below_gives zero text a h = absurd (cc)
below_gives (suc n) text a h = at_test (bytes_eq (address_text n) text) refl (below_gives n text a) h
  where
    at_test : (t : Bool) → bytes_eq (address_text n) text ≡ t → (address_below n text ≡ Some a → (a < n) × (text ≡ address_text a)) → cond t (Some n) (address_below n text) ≡ Some a →
        (a < suc n) × (text ≡ address_text a)
    at_test true e later g =
        let same : n ≡ a = cc in
        (omega arith, sym (same_bytes (address_text n) text e) ∙ ap address_text same)
    at_test false e later g = let rest = later g in (omega (arith, rest.0), rest.1)

below_finds : (n : ℕ) (text : List ℕ) (a : ℕ) → n ≤ 2 ^ 32 → a < n → text ≡ address_text a → address_below n text ≡ Some a
unfolding address_below
below_finds zero text a few lt e = absurd (omega arith)
below_finds (suc n) text a few lt e = at_test (bytes_eq (address_text n) text) refl (λ less. below_finds n text a (omega arith) less e)
  where
    at_test : (t : Bool) → bytes_eq (address_text n) text ≡ t → (a < n → address_below n text ≡ Some a) → cond t (Some n) (address_below n text) ≡ Some a
    at_test true h later = ap Some (address_text-same n a (omega arith) (omega arith) (same_bytes (address_text n) text h ∙ e))
    at_test false h later =
        let other : n ≢ a = λ same. let clash : true ≡ false = sym (bytes_same (address_text n) text (ap address_text same ∙ sym e)) ∙ h in cc in
        later (omega arith)

pub address_in-gives : (text : List ℕ) (a : ℕ) → address_in text ≡ Some a → (a < 2 ^ 32) × (text ≡ address_text a)
unfolding address_in
address_in-gives text a h = below_gives (2 ^ 32) text a h

pub address_in-finds : (text : List ℕ) (a : ℕ) → a < 2 ^ 32 → text ≡ address_text a → address_in text ≡ Some a
unfolding address_in
address_in-finds text a small e = below_finds (2 ^ 32) text a (omega arith) small e

-- a text that no address has
pub address_in-none : (text : List ℕ) → ((a : ℕ) → a < 2 ^ 32 → text ≡ address_text a → ⊥) → None ≡ address_in text
address_in-none text none = cases (address_in text) refl
  where
    cases : (o : Option ℕ) → address_in text ≡ o → None ≡ o
    cases None e = refl
    cases (Some a) e = let found = address_in-gives text a e in absurd (none a found.0 found.1)

-- ---- The prefix that has a text

-- a network, its length, and the number of a prefix that is searched
prefix_below-gives : (n network : ℕ) (text : List ℕ) (p : Block) → n ≤ 33 → network < 2 ^ 32 → prefix_below n network text ≡ Some p → IsBlock p × (text ≡ prefix_text p)
unfolding prefix_below
prefix_below-gives zero network text p few small h = absurd (cc)
prefix_below-gives (suc n) network text p few small h =
    at_test (eqb (network % size_of n) 0) refl (bytes_eq (prefix_text (block network n)) text) refl (λ g. prefix_below-gives n network text p (omega arith) small g) h
  where
    at_test : (s : Bool) → eqb (network % size_of n) 0 ≡ s → (t : Bool) → bytes_eq (prefix_text (block network n)) text ≡ t →
        (prefix_below n network text ≡ Some p → IsBlock p × (text ≡ prefix_text p)) → cond (s && t) (Some (block network n)) (prefix_below n network text) ≡ Some p → IsBlock p × (text ≡ prefix_text p)
    at_test true hosts true e later g =
        let same : block network n ≡ p = cc in
        let is : IsBlock (block network n) = (omega arith, small, eqb-true _ _ hosts) in
        (subst IsBlock same is, sym (same_bytes _ text e) ∙ ap prefix_text same)
    at_test true hosts false e later g = later g
    at_test false hosts t e later g = later g

prefix_below-finds : (n network : ℕ) (text : List ℕ) (l : ℕ) → n ≤ 33 → l < n → IsBlock (block network l) → text ≡ prefix_text (block network l) → prefix_below n network text ≡ Some (block network l)
unfolding prefix_below
prefix_below-finds zero network text l few lt is h = absurd (omega arith)
prefix_below-finds (suc n) network text l few lt is h =
    at_test (eqb (network % size_of n) 0) refl (bytes_eq (prefix_text (block network n)) text) refl (λ less. prefix_below-finds n network text l (omega arith) less is h)
  where
    other : (s t : Bool) → eqb (network % size_of n) 0 ≡ s → bytes_eq (prefix_text (block network n)) text ≡ t → (s && t) ≡ false → n ≢ l
    other s t hosts e fails same =
        let yes : eqb (network % size_of n) 0 ≡ true = eq-eqb _ _ (ap (λ (k : ℕ). network % size_of k) same ∙ is.2) in
        let text_is : bytes_eq (prefix_text (block network n)) text ≡ true = bytes_same _ text (ap (λ (k : ℕ). prefix_text (block network k)) same ∙ sym h) in
        let both : (s && t) ≡ true = rw (← hosts, ← e, yes, text_is) refl in
        let clash : true ≡ false = sym both ∙ fails in cc

    at_test : (s : Bool) → eqb (network % size_of n) 0 ≡ s → (t : Bool) → bytes_eq (prefix_text (block network n)) text ≡ t → (l < n → prefix_below n network text ≡ Some (block network l)) →
        cond (s && t) (Some (block network n)) (prefix_below n network text) ≡ Some (block network l)
    at_test true hosts true e later = ap (λ (k : ℕ). Some (block network k)) (prefix_text-same network n l (omega arith) is.0 (same_bytes _ text e ∙ h))
    at_test true hosts false e later = later (omega (arith, other true false hosts e refl))
    at_test false hosts t e later = later (omega (arith, other false t hosts e refl))

before_slash : (xs ys : List ℕ) → Lacks 47 xs → before_first (λ c. eqb c 47) (xs ++ (47 ∷ ys)) ≡ xs
before_slash xs ys lacks =
    let at : position_or_len (λ c. eqb c 47) (xs ++ (47 ∷ ys)) ≡ length xs =
    position_or_len_is (λ c. eqb c 47) (xs ++ (47 ∷ ys)) (length xs) 0 (omega (arith, length-append xs (47 ∷ ys))) (λ k lt. not_slash k lt)
    (λ _. rw (get_or-append_right xs (47 ∷ ys) (length xs) (length xs) 0 refl (omega arith)) (here (length xs))) in
    rw at (take_at xs (47 ∷ ys) (length xs) refl)
  where
    not_slash : (k : ℕ) → k < length xs → eqb (get_or (xs ++ (47 ∷ ys)) k 0) 47 ≡ false
    not_slash k lt = rw (get_or_append_left xs (47 ∷ ys) 0 k lt) (differ (get_or xs k 0) (lacks k lt))
      where
        differ : (x : ℕ) → x ≢ 47 → eqb x 47 ≡ false
        differ x ne = cases (eqb x 47) refl
          where
            cases : (t : Bool) → eqb x 47 ≡ t → t ≡ false
            cases true e = absurd (ne (eqb-true x 47 e))
            cases false e = refl

    here : (n : ℕ) → eqb (get_or (47 ∷ ys) (n - n) 0) 47 ≡ true
    here n = let none : n - n ≡ 0 = omega arith in rw none refl

pub prefix_in-gives : (text : List ℕ) (p : Block) → prefix_in text ≡ Some p → IsBlock p × (text ≡ prefix_text p)
unfolding prefix_in
prefix_in-gives text p h = cases (address_in (before_first (λ c. eqb c 47) text)) refl h
  where
    cases : (o : Option ℕ) → address_in (before_first (λ c. eqb c 47) text) ≡ o → option_and_then (λ network. prefix_below 33 network text) o ≡ Some p → IsBlock p × (text ≡ prefix_text p)
    cases None e g = absurd (cc)
    cases (Some network) e g = prefix_below-gives 33 network text p (omega arith) (address_in-gives _ network e).0 g

pub prefix_in-finds : (text : List ℕ) (p : Block) → IsBlock p → text ≡ prefix_text p → prefix_in text ≡ Some p
unfolding prefix_in
prefix_in-finds text p is h =
    let few = is.0 in
    let front : before_first (λ c. eqb c 47) text ≡ address_text p.network = rw h (before_slash (address_text p.network) (decimal p.prefix_len) (address_text-lacks_slash p.network is.1)) in
    let found : address_in (before_first (λ c. eqb c 47) text) ≡ Some p.network = address_in-finds _ p.network is.1 front in
    rw found (prefix_below-finds 33 p.network text p.prefix_len (omega arith) (omega arith) is h)

-- a text that no prefix has
pub prefix_in-none : (text : List ℕ) → ((p : Block) → IsBlock p → text ≡ prefix_text p → ⊥) → None ≡ prefix_in text
prefix_in-none text none = cases (prefix_in text) refl
  where
    cases : (o : Option Block) → prefix_in text ≡ o → None ≡ o
    cases None e = refl
    cases (Some p) e = let found = prefix_in-gives text p e in absurd (none p found.0 found.1)
