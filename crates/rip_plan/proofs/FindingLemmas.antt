-- The order in which faults are told, and what is found of the faults of a text by reading on until the first: no
-- fault of the rows that were asked, or one of them and none before it.
use Rattle.std.proofs.Common.{◌≡◌, ℕ, ◌<◌, ◌≤◌, ◌⊎◌, inl, inr, List, [], ◌∷◌, ◌++◌, length, refl, arith, ◌+◌, length-append, append_assoc, Bool, true, false, cond, Option, Some, None, Result, Ok, Err, sym, ap, subst, ◌∙◌}
use Rattle.std.proofs.lemmas.List.{append-nil}
use Rattle.rip_plan.specs.PlanFaults.{Before, pass_of, rank}
use Rattle.rip_plan.specs.declared.error.At.{At}
use Rattle.rip_plan.specs.declared.error.PlanCode.{PlanCode}
use Rattle.rip_plan.specs.declared.error.PlanError.{PlanError}
use Rattle.rip_plan.specs.Fault.{fault, ◌>>=◌, wanted, steps}

pub before_trans : (xs ys zs : List ℕ) → Before xs ys → Before ys zs → Before xs zs
before_trans (x ∷ xs) (y ∷ ys) (z ∷ zs) h k = grind (arith, before_trans xs ys zs)
before_trans (x ∷ xs) (y ∷ ys) [] h k = absurd k
before_trans xs ys zs h k = absurd h

pub before_not : (xs : List ℕ) → Before xs xs → ⊥
before_not [] h = absurd h
before_not (x ∷ xs) h = grind (arith, before_not xs)

-- of two ranks of one length, one is before the other, or they are equal
pub before_or : (xs ys : List ℕ) → length xs ≡ length ys → ((xs ≡ ys) ⊎ Before xs ys) ⊎ Before ys xs
before_or [] [] e = inl (inl refl)
before_or [] (y ∷ ys) e = absurd (omega arith)
before_or (x ∷ xs) [] e = absurd (omega arith)
before_or (x ∷ xs) (y ∷ ys) e = grind (arith, before_or xs ys (omega arith))

-- the numbers start with p, and then n
abbrev pub Starts : List ℕ → ℕ → List ℕ → Type 0
Starts [] n (x ∷ xs) = x ≡ n
Starts (q ∷ p) n (x ∷ xs) = (x ≡ q) × Starts p n xs
Starts p n [] = ⊥

pub starts_apart : (p : List ℕ) (n m : ℕ) (xs ys : List ℕ) → n < m → Starts p n xs → Starts p m ys → Before ys xs → ⊥
starts_apart [] n m (x ∷ xs) (y ∷ ys) h s t b = grind arith
starts_apart (q ∷ p) n m (x ∷ xs) (y ∷ ys) h s t b = grind (arith, starts_apart p n m xs ys)
starts_apart p n m xs [] h s t b = absurd b
starts_apart p n m [] ys h s t b = absurd s

-- ---- what a chain of steps that came to its end passed through

pub bind_ok : {A B : Type 0} (r : Result A PlanError) (f : A → Result B PlanError) (t : B) → (r >>= f) ≡ Ok t → (x : A) × (r ≡ Ok x) × (f x ≡ Ok t)
bind_ok r f t h = grind arith

pub wanted_ok : {A B : Type 0} (e : PlanError) (o : Option A) (f : A → Result B PlanError) (t : B) → (wanted e o >>= f) ≡ Ok t → (x : A) × (o ≡ Some x) × (f x ≡ Ok t)
wanted_ok e o f t h = grind arith

pub guard_ok : {B : Type 0} (b : Bool) (e : PlanError) (r : Result B PlanError) (t : B) → cond b (Err e) r ≡ Ok t → (b ≡ false) × (r ≡ Ok t)
guard_ok b e r t h = grind arith

pub ok_same : {A : Type 0} (x y : A) → ◌≡◌ {A = Result A PlanError} (Ok x) (Ok y) → x ≡ y
ok_same x y h = cc

-- ---- what is found

-- an error, and the pass over the text that finds it
pub record Found : Type 0 where
  pub pass : ℕ
  pub error : PlanError

abbrev pub ranked : Found → List ℕ
ranked o = rank o.pass o.error

-- a row of the table of codes
abbrev pub row_at : PlanCode → At → Found
row_at code place = record { pass = pass_of code; error = fault code place }

-- rows of which none comes before a rank
abbrev pub Low : (Found → Type 0) → List ℕ → Type 0
Low R p = (o : Found) → R o → Before (ranked o) p → ⊥

-- one of these rows, or of R
abbrev pub Among : List Found → (Found → Type 0) → Found → Type 0
Among [] R o = R o
Among (e ∷ es) R o = (o ≡ e) ⊎ Among es R o

-- each of these rows comes before the next, and R after the last
abbrev pub InTurn : List Found → (Found → Type 0) → Type 0
InTurn [] R = Unit {0}
InTurn (e ∷ []) R = Low R (ranked e)
InTurn (e ∷ d ∷ es) R = Before (ranked e) (ranked d) × InTurn (d ∷ es) R

first_low : (e : Found) (es : List Found) (R : Found → Type 0) → InTurn (e ∷ es) R → Low (Among (e ∷ es) R) (ranked e)
first_low e es R turn o (inl same) before = before_not (ranked e) (subst (λ (x : Found). Before (ranked x) (ranked e)) same before)
first_low e [] R turn o (inr row) before = turn o row before
first_low e (d ∷ es) R turn o (inr row) before = first_low d es R turn.1 o row (before_trans (ranked o) (ranked e) (ranked d) before turn.0)

rest_in_turn : (e : Found) (es : List Found) (R : Found → Type 0) → InTurn (e ∷ es) R → InTurn es R
rest_in_turn e es R turn = grind arith

-- the rows of each number from k on
abbrev pub Each : (ℕ → Found → Type 0) → ℕ → Found → Type 0
Each R k o = (m : ℕ) × (k ≤ m) × R m o

-- no fault of the rows, or one and none before it
abbrev pub Finds : (Found → Type 0) → {A : Type 0} → (Found → Type 0) → Result A PlanError → Type 0
Finds F R (Ok x) = (o : Found) → R o → F o → ⊥
Finds F R (Err e) = (pass : ℕ) × F (record { pass = pass; error = e }) × R (record { pass = pass; error = e }) × ((o : Found) → R o → F o → Before (ranked o) (rank pass e) → ⊥)

-- other words for the faults and for the rows
pub finds_in : {A : Type 0} (F G R S : Found → Type 0) (r : Result A PlanError) → ((e : Found) → F e → G e) → ((e : Found) → R e → S e) → ((o : Found) → S o → G o → F o × R o) → Finds F R r →
    Finds G S r
finds_in F G R S r h k g w = grind arith

-- rows, and then rows that come after
pub bind_finds : {A B : Type 0} (F R S : Found → Type 0) (r : Result A PlanError) (f : A → Result B PlanError)
    → ((e o : Found) → R e → S o → Before (ranked o) (ranked e) → ⊥) → Finds F R r → ((x : A) → r ≡ Ok x → Finds F S (f x)) → Finds F (λ o. R o ⊎ S o) (r >>= f)
bind_finds {B = B} F R S (Ok x) f after h rest = by_result (f x) (rest x refl)
  where
    by_result : (q : Result B PlanError) → Finds F S q → Finds F (λ o. R o ⊎ S o) q
    by_result q k = grind arith
bind_finds F R S (Err e) f after h rest = (h.0, h.1, inl h.2, λ o row g before. elim row [ inl here ↦ h.3 o here g before | inr later ↦ after (record { pass = h.0; error = e }) o h.2 later before ])

-- ---- rows that are asked one after another

-- the fault that is found is one of these rows or of R, where they come in turn
pub record Asks {A : Type 0} (F : Found → Type 0) (es : List Found) (R : Found → Type 0) (r : Result A PlanError) : Type 0 where
  pub finds : InTurn es R → Finds F (Among es R) r

-- the first row is found
ask_first : {A : Type 0} {F : Found → Type 0} {e : Found} {es : List Found} {R : Found → Type 0} → F e → Asks {A = A} F (e ∷ es) R (Err e.error)
ask_first {e = e} {es = es} {R = R} h = record { finds = λ turn. (e.pass, h, inl refl, λ o row f before. first_low e es R turn o row before) }

-- the first row is no fault
ask_later : {A : Type 0} {F : Found → Type 0} {e : Found} {es : List Found} {R : Found → Type 0} {r : Result A PlanError} → (F e → ⊥) → Asks F es R r → Asks F (e ∷ es) R r
ask_later {e = e} {es = es} {R = R} h rest = record { finds = λ turn. grind (arith, rest.finds (rest_in_turn e es R turn)) }

-- no more rows of one place
pub ask_rest : {A : Type 0} {F R : Found → Type 0} {r : Result A PlanError} → Finds F R r → Asks F [] R r
ask_rest h = record { finds = λ turn. h }

-- a test
pub ask_guard : {A : Type 0} {F : Found → Type 0} {e : Found} {es : List Found} {R : Found → Type 0} (t : Bool) (r : Result A PlanError)
    → (t ≡ true → F e) → (t ≡ false → F e → ⊥) → (t ≡ false → Asks F es R r) → Asks F (e ∷ es) R (cond t (Err e.error) r)
ask_guard true r told clear rest = ask_first (told refl)
ask_guard false r told clear rest = ask_later (clear refl) (rest refl)

-- a thing that is wanted
pub ask_wanted : {A B : Type 0} {F : Found → Type 0} {e : Found} {es : List Found} {R : Found → Type 0} (v : Option A) (f : A → Result B PlanError)
    → (v ≡ None → F e) → ((x : A) → v ≡ Some x → F e → ⊥) → ((x : A) → v ≡ Some x → Asks F es R (f x)) → Asks F (e ∷ es) R (wanted e.error v >>= f)
ask_wanted None f told clear rest = ask_first (told refl)
ask_wanted (Some x) f told clear rest = ask_later (clear x refl) (rest x refl)

-- two things that are wanted, with one row
pub ask_both : {A B C : Type 0} {F : Found → Type 0} {e : Found} {es : List Found} {R : Found → Type 0} (v : Option A) (w : A → Option B) (f : A → B → Result C PlanError)
    → (v ≡ None → F e) → ((x : A) → v ≡ Some x → w x ≡ None → F e) → ((x : A) (y : B) → v ≡ Some x → w x ≡ Some y → F e → ⊥)
    → ((x : A) (y : B) → v ≡ Some x → w x ≡ Some y → Asks F es R (f x y)) → Asks F (e ∷ es) R (wanted e.error v >>= (λ x. wanted e.error (w x) >>= f x))
ask_both None w f told also clear rest = ask_first (told refl)
ask_both (Some x) w f told also clear rest = ask_wanted (w x) (f x) (also x refl) (λ y h. clear x y refl h) (λ y h. rest x y refl h)

-- ---- steps

-- a step more
steps_push : {S A : Type 0} (step : ℕ → A → S → Result S PlanError) (n : ℕ) (xs : List A) (x : A) (s t u : S) (m : ℕ) → m ≡ n + length xs → steps step n xs s ≡ Ok t → step m x t ≡ Ok u →
    steps step n (xs ++ x ∷ []) s ≡ Ok u
steps_push step n [] x s t u m e h k = grind arith
steps_push step n (y ∷ ys) x s t u m e h k = grind (arith, steps_push step (n + 1) ys x)

-- what is asked of the step at an item, after the items before it
abbrev pub FindsAt : (Found → Type 0) → {S A : Type 0} → (ℕ → A → S → Result S PlanError) → (ℕ → Found → Type 0) → List A → S → Type 0
FindsAt F {S} {A} step R all s =
    (done : List A) (x : A) (rest : List A) (u : S) → all ≡ done ++ x ∷ rest → steps step 1 done s ≡ Ok u → Finds F (R (1 + length done)) (step (1 + length done) x u)

steps_from : {S A : Type 0} (F : Found → Type 0) (step : ℕ → A → S → Result S PlanError) (R : ℕ → Found → Type 0) (p : List ℕ) → ((n : ℕ) (o : Found) → R n o → Starts p n (ranked o))
    → (all : List A) (s : S) → FindsAt F step R all s → ((m : ℕ) (o : Found) → length all < m → R m o → F o → ⊥)
    → (xs done : List A) (u : S) (k : ℕ) → k ≡ 1 + length done → all ≡ done ++ xs → steps step 1 done s ≡ Ok u → Finds F (Each R k) (steps step k xs u)
steps_from F step R p starts all s each past [] done u k e split taken =
    λ o row f. let (m, le, here) = row in
    let count : length all ≡ length done = ap length (split ∙ append-nil done) in
    past m o (omega arith) here f
steps_from {S} {A} F step R p starts all s each past (x ∷ xs) done u k e split taken =
    finds_in F F (λ o. R k o ⊎ Each R (k + 1) o) (Each R k) (steps step k (x ∷ xs) u) (λ d f. f) (λ o row. grind arith) (λ o row f. grind arith)
    (bind_finds F (R k) (Each R (k + 1)) (step k x u) (steps step (k + 1) xs)
    (λ d o here later before. let (m, le, row) = later in starts_apart p k m (ranked d) (ranked o) (omega arith) (starts k d here) (starts m o row) before)
    (subst (λ (n : ℕ). Finds F (R n) (step n x u)) (sym e) (each done x xs u split taken))
    (λ t is. steps_from F step R p starts all s each past xs (done ++ x ∷ []) t (k + 1) (omega (arith, length-append done (x ∷ []))) (split ∙ sym (append_assoc done (x ∷ []) xs))
    (steps_push step 1 done x s u t k e taken is)))

pub steps_finds : {S A : Type 0} (F : Found → Type 0) (step : ℕ → A → S → Result S PlanError) (R : ℕ → Found → Type 0) (p : List ℕ) → ((n : ℕ) (o : Found) → R n o → Starts p n (ranked o))
    → (all : List A) (s : S) → FindsAt F step R all s → ((m : ℕ) (o : Found) → length all < m → R m o → F o → ⊥)
    → Finds F (Each R 1) (steps step 1 all s)
steps_finds F step R p starts all s each past = steps_from F step R p starts all s each past all [] s 1 (omega arith) refl refl
