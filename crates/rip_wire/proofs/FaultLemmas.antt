-- The fault that is met first from left to right is the one that is told.
use Rattle.std.proofs.Common.{◌≡◌, ◌≢◌, ◌⊎◌, inl, inr, ℕ, zero, suc, ◌+◌, ◌-◌, ◌*◌, ◌%◌, ◌<◌, ◌≤◌, Bool, true, false, not, ◌&&◌, ◌||◌, cond, eqb, ltb, List, [], ◌∷◌, Option, Some, None, Result, Ok, Err, length, get_or, refl, sym, ap, subst, ◌∙◌, arith}
use Rattle.std.proofs.lemmas.Bool.{eqb-true, eq-eqb}
use Rattle.std.proofs.lemmas.Bool.Decides.{nat_tests}
use Rattle.rip_wire.specs.declared.error.WireError.{WireError}
use Rattle.rip_wire.specs.declared.error.WireCode.{WireCode}
use Rattle.rip_wire.specs.declared.error.WireCode.TheVariants.{Short, Command, Version, Zero, Ragged, Empty, TooMany, Authentication, Family, Mask, NoMask, HostBits, Metric}
use Rattle.rip_wire.specs.declared.datagram.Kind.{Kind}
use Rattle.rip_wire.specs.declared.datagram.Kind.TheVariants.{Request, Response}
use Rattle.rip_wire.specs.Prefix.{size_of, mask_of}
use Rattle.rip_wire.specs.Fields.{number_at, entry_offset}
use Rattle.rip_wire.specs.Faults.{IsFieldAt, IsFault, rank, WireFault}
use Rattle.rip_wire.specs.Message.{Message, request, response, ◌>>=◌, prefix_of, metric_of, entry_at, entries_at, bits_of_mask, kind_in, groups_in, message_of_kind, message_in}
use Rattle.rip_wire.proofs.MaskLemmas.{bits_of_mask-mask_of, bits_of_mask-Some, no_mask}
use Rattle.rip_wire.proofs.MessageLemmas.{headed}

-- ---- What is told is a fault

-- each error of r has this
abbrev Fails : {X : Type 0} → (WireError → Type 0) → Result X WireError → Type 0
Fails P r = (e : WireError) → r ≡ Err e → P e

fails_at : {X : Type 0} (P : WireError → Type 0) (d : WireError) → P d → Fails {X = X} P (Err d)
fails_at {X = X} P d p e h = let same : d ≡ e = let h' : ◌≡◌ {A = Result X WireError} (Err d) (Err e) = h in cc in subst P same p

fails_not : {X : Type 0} (P : WireError → Type 0) (x : X) → Fails {X = X} P (Ok x)
fails_not P x e h = absurd (cc)

fails_test : {X : Type 0} (P : WireError → Type 0) (t : Bool) (d : WireError) (y : Result X WireError) → (t ≡ true → P d) → (t ≡ false → Fails P y) → Fails P (cond t (Err d) y)
fails_test P true d y here later = fails_at P d (here refl)
fails_test P false d y here later = later refl

fails_bind : {X Y : Type 0} (P : WireError → Type 0) (r : Result X WireError) (f : X → Result Y WireError) → Fails P r → ((x : X) → r ≡ Ok x → Fails P (f x)) → Fails P (r >>= f)
fails_bind P (Ok x) f first later = later x refl
fails_bind P (Err d) f first later = fails_at P d (first d refl)

-- the fault of a header or a length
record IsHeadFault (b : List ℕ) (e : WireError) : Type 0 where
  fault : IsFault b e.code e.at
  low : rank e.code e.at < 7

kind_fails : (b : List ℕ) → Fails (IsHeadFault b) (kind_in b)
unfolding kind_in
kind_fails b =
    let P = IsHeadFault b in
    fails_test P (ltb (length b) 4) _ _ (λ t. record { fault = (grind (arith, nat_tests), refl); low = omega arith }) (λ t1.
    fails_test P (not (eqb (get_or b 0 0) 1 || eqb (get_or b 0 0) 2)) _ _ (λ t. record { fault = (grind (arith, nat_tests), grind (arith, nat_tests), refl); low = omega arith }) (λ t2.
    fails_test P (not (eqb (get_or b 1 0) 2)) _ _ (λ t. record { fault = (grind (arith, nat_tests), refl); low = omega arith }) (λ t3.
    fails_test P (not (eqb (get_or b 2 0) 0 && eqb (get_or b 3 0) 0)) _ _ (λ t. record { fault = (not_both (get_or b 2 0) (get_or b 3 0) t, refl); low = omega arith }) (λ t4.
    fails_test P (ltb 504 (length b)) _ _ (λ t. record { fault = (grind (arith, nat_tests), refl); low = omega arith }) (λ t5.
    fails_test P (not (eqb ((length b - 4) % 20) 0)) _ _ (λ t. record { fault = (grind (arith, nat_tests), refl); low = omega arith }) (λ t6.
    by_command (eqb (get_or b 0 0) 1) refl t2))))))
  where
    not_both : (x y : ℕ) → not (eqb x 0 && eqb y 0) ≡ true → (x ≢ 0) ⊎ (y ≢ 0)
    not_both zero y t = inr (grind (arith, nat_tests))
    not_both (suc x) y t = inl (λ h. omega arith)

    by_command : (t : Bool) → eqb (get_or b 0 0) 1 ≡ t → not (eqb (get_or b 0 0) 1 || eqb (get_or b 0 0) 2) ≡ false →
        Fails (IsHeadFault b) (cond t (Ok Request) (cond (eqb (length b) 4) (Err (record { code = Empty; at = 4 })) (Ok Response)))
    by_command true e two = fails_not (IsHeadFault b) Request
    by_command false e two =
        fails_test (IsHeadFault b) (eqb (length b) 4) _ _ (λ t. record { fault = (grind (arith, nat_tests), grind (arith, nat_tests), refl); low = omega arith })
        (λ t. fails_not (IsHeadFault b) Response)

-- the fault of entry i
record IsEntryFault (b : List ℕ) (i : ℕ) (e : WireError) : Type 0 where
  fault : IsFault b e.code e.at
  low : 7 + 6 * i ≤ rank e.code e.at
  high : rank e.code e.at < 13 + 6 * i

field_at : (b : List ℕ) (i into : ℕ) → get_or b 0 0 ≡ 2 → i < groups_in b → IsFieldAt b into (entry_offset i + into)
field_at b i into two within = record { response = two; entry = i; within = within; offset = refl }

prefix_fails : (b : List ℕ) (i : ℕ) → get_or b 0 0 ≡ 2 → i < groups_in b →
    Fails (IsEntryFault b i) (prefix_of (entry_offset i) (number_at 4 (entry_offset i + 4) b) (bits_of_mask (number_at 4 (entry_offset i + 8) b)))
prefix_fails b i two within = by_bits (bits_of_mask (number_at 4 (entry_offset i + 8) b)) refl
  where
    by_bits : (o : Option ℕ) → bits_of_mask (number_at 4 (entry_offset i + 8) b) ≡ o → Fails (IsEntryFault b i) (prefix_of (entry_offset i) (number_at 4 (entry_offset i + 4) b) o)
    by_bits None h = fails_at (IsEntryFault b i) _ (record { fault = (field_at b i 8 two within, no_mask (number_at 4 (entry_offset i + 8) b) h); low = omega arith; high = omega arith })
    by_bits (Some bits) h =
        let mask = bits_of_mask-Some (number_at 4 (entry_offset i + 8) b) bits h in
        let address : number_at 4 (entry_offset i + 4) b ≡ number_at 4 (entry_offset i + 8 - 4) b = ap (λ (k : ℕ). number_at 4 k b) (omega arith) in
        let cover : number_at 4 (entry_offset i + 8) b ≡ number_at 4 (entry_offset i + 4 + 4) b = ap (λ (k : ℕ). number_at 4 k b) (omega arith) in
        fails_test (IsEntryFault b i) (eqb bits 0 && not (eqb (number_at 4 (entry_offset i + 4) b) 0)) _ _
        (λ t. let none : bits ≡ 0 = grind (arith, nat_tests) in let set : number_at 4 (entry_offset i + 4) b ≢ 0 = grind (arith, nat_tests) in
        record { fault = (field_at b i 8 two within, mask.1 ∙ ap mask_of none, λ z. set (address ∙ z)); low = omega arith; high = omega arith }) (λ t1.
        fails_test (IsEntryFault b i) (not (eqb (number_at 4 (entry_offset i + 4) b % size_of bits) 0)) _ _
        (λ t. record {
          fault = (
            field_at b i 4 two within,
            record { prefix_len = bits; few = mask.0; covers = sym cover ∙ mask.1; bits = grind (arith, nat_tests) },
          );
          low = omega arith;
          high = omega arith;
        }) (λ t2.
        fails_not (IsEntryFault b i) _))

entry_fails : (b : List ℕ) (i : ℕ) → get_or b 0 0 ≡ 2 → i < groups_in b → Fails (IsEntryFault b i) (entry_at (entry_offset i) b)
unfolding entry_at
entry_fails b i two within =
    let P = IsEntryFault b i in
    let k = entry_offset i in
    let here : IsFieldAt b 0 k = record { response = two; entry = i; within = within; offset = omega arith } in
    fails_test P (eqb (number_at 2 k b) 0xFFFF) _ _ (λ t. record { fault = (here, eqb-true _ _ t); low = omega arith; high = omega arith }) (λ t1.
    fails_test P (not (eqb (number_at 2 k b) 2)) _ _ (λ t. record { fault = (here, grind (arith, nat_tests)); low = omega arith; high = omega arith }) (λ t2.
    fails_bind P (prefix_of k (number_at 4 (k + 4) b) (bits_of_mask (number_at 4 (k + 8) b))) _ (prefix_fails b i two within) (λ p is_p.
    fails_bind P (metric_of k (number_at 4 (k + 16) b)) _
    (fails_test P (eqb (number_at 4 (k + 16) b) 0 || ltb 16 (number_at 4 (k + 16) b)) _ _
    (λ t. record { fault = (field_at b i 16 two within, beyond (number_at 4 (k + 16) b) t); low = omega arith; high = omega arith }) (λ t3. fails_not P _))
    (λ m is_m. fails_not P _))))
  where
    beyond : (m : ℕ) → (eqb m 0 || ltb 16 m) ≡ true → (m < 1) ⊎ (16 < m)
    beyond zero t = inl (omega arith)
    beyond (suc m) t = inr (grind (arith, nat_tests))

-- ---- A fault of the bytes is told, or one before it

-- r fails with this fault or one that comes before it
record Tells {X : Type 0} (r : Result X WireError) (code : WireCode) (at : ℕ) : Type 0 where
  told : WireError
  is : r ≡ Err told
  before : ((code ≡ told.code) × (at ≡ told.at)) ⊎ (rank told.code told.at < rank code at)

tells_this : {X : Type 0} (code : WireCode) (at k : ℕ) → at ≡ k → Tells {X = X} (Err (record { code = code; at = k })) code at
tells_this code at k h = record { told = record { code = code; at = k }; is = refl; before = inl (refl, h) }

tells_here : {X : Type 0} (t : Bool) (code : WireCode) (at k : ℕ) (y : Result X WireError) → t ≡ true → at ≡ k → Tells (cond t (Err (record { code = code; at = k })) y) code at
tells_here true code at k y h e = tells_this code at k e
tells_here false code at k y h e = absurd (cc)

tells_later : {X : Type 0} (t : Bool) (d : WireError) (y : Result X WireError) (code : WireCode) (at : ℕ) → rank d.code d.at < rank code at → (t ≡ false → Tells y code at) →
    Tells (cond t (Err d) y) code at
tells_later true d y code at less later = record { told = d; is = refl; before = inr less }
tells_later false d y code at less later = later refl

tells_bind : {X Y : Type 0} (r : Result X WireError) (f : X → Result Y WireError) (code : WireCode) (at : ℕ) → Tells r code at → Tells (r >>= f) code at
tells_bind r f code at t = record { told = t.told; is = ap (λ (x : Result _ WireError). x >>= f) t.is; before = t.before }

-- where r has a fault, it comes before
tells_or : {X Y : Type 0} (r : Result X WireError) (f : X → Result Y WireError) (code : WireCode) (at : ℕ) → Fails (λ e. rank e.code e.at < rank code at) r →
    ((x : X) → r ≡ Ok x → Tells (f x) code at) → Tells (r >>= f) code at
tells_or (Ok x) f code at less later = later x refl
tells_or (Err d) f code at less later = record { told = d; is = refl; before = inr (less d refl) }

-- a fault of the header or of the length
tells_kind : (b : List ℕ) (code : WireCode) (at : ℕ) → IsFault b code at → rank code at < 7 → Tells (kind_in b) code at
unfolding kind_in
tells_kind b Short at h low = tells_here (ltb (length b) 4) Short at _ _ (grind (arith, nat_tests)) h.1
tells_kind b Command at h low =
    tells_later (ltb (length b) 4) _ _ Command at (omega arith) (λ t1.
    tells_here (not (eqb (get_or b 0 0) 1 || eqb (get_or b 0 0) 2)) Command at _ _ (grind (arith, nat_tests)) h.2)
tells_kind b Version at h low =
    tells_later (ltb (length b) 4) _ _ Version at (omega arith) (λ t1.
    tells_later (not (eqb (get_or b 0 0) 1 || eqb (get_or b 0 0) 2)) _ _ Version at (omega arith) (λ t2.
    tells_here (not (eqb (get_or b 1 0) 2)) Version at _ _ (grind (arith, nat_tests)) h.1))
tells_kind b Zero at h low =
    tells_later (ltb (length b) 4) _ _ Zero at (omega arith) (λ t1.
    tells_later (not (eqb (get_or b 0 0) 1 || eqb (get_or b 0 0) 2)) _ _ Zero at (omega arith) (λ t2.
    tells_later (not (eqb (get_or b 1 0) 2)) _ _ Zero at (omega arith) (λ t3.
    tells_here (not (eqb (get_or b 2 0) 0 && eqb (get_or b 3 0) 0)) Zero at _ _ (either (get_or b 2 0) (get_or b 3 0) h.0) h.1)))
  where
    either : (x y : ℕ) → (x ≢ 0) ⊎ (y ≢ 0) → not (eqb x 0 && eqb y 0) ≡ true
    either x y (inl h) = grind (arith, nat_tests)
    either x y (inr h) = grind (arith, nat_tests)
tells_kind b TooMany at h low =
    tells_later (ltb (length b) 4) _ _ TooMany at (omega arith) (λ t1.
    tells_later (not (eqb (get_or b 0 0) 1 || eqb (get_or b 0 0) 2)) _ _ TooMany at (omega arith) (λ t2.
    tells_later (not (eqb (get_or b 1 0) 2)) _ _ TooMany at (omega arith) (λ t3.
    tells_later (not (eqb (get_or b 2 0) 0 && eqb (get_or b 3 0) 0)) _ _ TooMany at (omega arith) (λ t4.
    tells_here (ltb 504 (length b)) TooMany at _ _ (grind (arith, nat_tests)) h.1))))
tells_kind b Ragged at h low =
    tells_later (ltb (length b) 4) _ _ Ragged at (omega arith) (λ t1.
    tells_later (not (eqb (get_or b 0 0) 1 || eqb (get_or b 0 0) 2)) _ _ Ragged at (omega arith) (λ t2.
    tells_later (not (eqb (get_or b 1 0) 2)) _ _ Ragged at (omega arith) (λ t3.
    tells_later (not (eqb (get_or b 2 0) 0 && eqb (get_or b 3 0) 0)) _ _ Ragged at (omega arith) (λ t4.
    tells_later (ltb 504 (length b)) _ _ Ragged at (omega arith) (λ t5.
    tells_here (not (eqb ((length b - 4) % 20) 0)) Ragged at _ _ (grind (arith, nat_tests)) h.1)))))
tells_kind b Empty at h low =
    let other : eqb (get_or b 0 0) 1 ≡ false = rw h.0 refl in
    tells_later (ltb (length b) 4) _ _ Empty at (omega arith) (λ t1.
    tells_later (not (eqb (get_or b 0 0) 1 || eqb (get_or b 0 0) 2)) _ _ Empty at (omega arith) (λ t2.
    tells_later (not (eqb (get_or b 1 0) 2)) _ _ Empty at (omega arith) (λ t3.
    tells_later (not (eqb (get_or b 2 0) 0 && eqb (get_or b 3 0) 0)) _ _ Empty at (omega arith) (λ t4.
    tells_later (ltb 504 (length b)) _ _ Empty at (omega arith) (λ t5.
    tells_later (not (eqb ((length b - 4) % 20) 0)) _ _ Empty at (omega arith) (λ t6.
    rw other (tells_here (eqb (length b) 4) Empty at _ _ (eq-eqb _ _ h.1) h.2)))))))
tells_kind b Authentication at h low = absurd (omega arith)
tells_kind b Family at h low = absurd (omega arith)
tells_kind b Mask at h low = absurd (omega arith)
tells_kind b NoMask at h low = absurd (omega arith)
tells_kind b HostBits at h low = absurd (omega arith)
tells_kind b Metric at h low = absurd (omega arith)

tells_metric : (b : List ℕ) (at : ℕ) → IsFault b Metric at → (f : IsFieldAt b 16 at) → Tells (entry_at (entry_offset f.entry) b) Metric at
unfolding entry_at
tells_metric b at h f =
    let i = f.entry in
    let k = entry_offset i in
    let here = f.offset in
    let two = f.response in
    let within = f.within in
    let value : number_at 4 at b ≡ number_at 4 (k + 16) b = ap (λ (n : ℕ). number_at 4 n b) here in
    tells_later (eqb (number_at 2 k b) 0xFFFF) _ _ Metric at (omega arith) (λ t1.
    tells_later (not (eqb (number_at 2 k b) 2)) _ _ Metric at (omega arith) (λ t2.
    tells_or (prefix_of k (number_at 4 (k + 4) b) (bits_of_mask (number_at 4 (k + 8) b))) _ Metric at
    (λ e is. let p = prefix_low k i (number_at 4 (k + 4) b) (bits_of_mask (number_at 4 (k + 8) b)) refl e is in omega arith) (λ p is_p.
    tells_bind (metric_of k (number_at 4 (k + 16) b)) _ Metric at
    (tells_here (eqb (number_at 4 (k + 16) b) 0 || ltb 16 (number_at 4 (k + 16) b)) Metric at _ _ (beyond (number_at 4 (k + 16) b) (subst (λ (m : ℕ). (m < 1) ⊎ (16 < m)) value h.1)) here))))
  where
    beyond : (m : ℕ) → (m < 1) ⊎ (16 < m) → (eqb m 0 || ltb 16 m) ≡ true
    beyond m (inl x) = grind (arith, nat_tests)
    beyond m (inr x) = grind (arith, nat_tests)

    prefix_low : (k i address : ℕ) (o : Option ℕ) → k ≡ entry_offset i → Fails (λ e. rank e.code e.at < 12 + 6 * i) (prefix_of k address o)
    prefix_low k i address None h = fails_at (λ e. rank e.code e.at < 12 + 6 * i) _ (omega arith)
    prefix_low k i address (Some bits) h =
        fails_test (λ e. rank e.code e.at < 12 + 6 * i) (eqb bits 0 && not (eqb address 0)) _ _ (λ t. omega arith) (λ t1.
        fails_test (λ e. rank e.code e.at < 12 + 6 * i) (not (eqb (address % size_of bits) 0)) _ _ (λ t. omega arith) (λ t2.
        fails_not (λ e. rank e.code e.at < 12 + 6 * i) _))

tells_authentication : (b : List ℕ) (at : ℕ) → IsFault b Authentication at → (f : IsFieldAt b 0 at) → Tells (entry_at (entry_offset f.entry) b) Authentication at
unfolding entry_at
tells_authentication b at h f =
    let k = entry_offset f.entry in
    let here : at ≡ k = let offset = f.offset in omega arith in
    let value : number_at 2 k b ≡ 0xFFFF = ap (λ (n : ℕ). number_at 2 n b) (sym here) ∙ h.1 in
    tells_here (eqb (number_at 2 k b) 0xFFFF) Authentication at _ _ (eq-eqb _ _ value) here

tells_family : (b : List ℕ) (at : ℕ) → IsFault b Family at → (f : IsFieldAt b 0 at) → Tells (entry_at (entry_offset f.entry) b) Family at
unfolding entry_at
tells_family b at h f =
    let k = entry_offset f.entry in
    let here : at ≡ k = let offset = f.offset in omega arith in
    let other : number_at 2 k b ≢ 2 = λ e. h.1 (ap (λ (n : ℕ). number_at 2 n b) here ∙ e) in
    tells_later (eqb (number_at 2 k b) 0xFFFF) _ _ Family at (omega arith) (λ t1.
    tells_here (not (eqb (number_at 2 k b) 2)) Family at _ _ (grind (arith, nat_tests)) here)

-- where the family is right, a fault of the prefix is told
tells_in_prefix : (b : List ℕ) (i : ℕ) (code : WireCode) (at : ℕ) → 8 + 6 * i < rank code at
    → Tells (prefix_of (entry_offset i) (number_at 4 (entry_offset i + 4) b) (bits_of_mask (number_at 4 (entry_offset i + 8) b))) code at → Tells (entry_at (entry_offset i) b) code at
unfolding entry_at
tells_in_prefix b i code at more h =
    let k = entry_offset i in
    tells_later (eqb (number_at 2 k b) 0xFFFF) _ _ code at (omega arith) (λ t1.
    tells_later (not (eqb (number_at 2 k b) 2)) _ _ code at (omega arith) (λ t2.
    tells_bind (prefix_of k (number_at 4 (k + 4) b) (bits_of_mask (number_at 4 (k + 8) b))) _ code at h))

tells_mask : (b : List ℕ) (at : ℕ) → IsFault b Mask at → (f : IsFieldAt b 8 at) → Tells (entry_at (entry_offset f.entry) b) Mask at
tells_mask b at h f =
    let i = f.entry in
    let here = f.offset in
    tells_in_prefix b i Mask at (omega arith) (by_bits (bits_of_mask (number_at 4 (entry_offset i + 8) b)) refl)
  where
    by_bits : (o : Option ℕ) → bits_of_mask (number_at 4 (entry_offset f.entry + 8) b) ≡ o → Tells (prefix_of (entry_offset f.entry) (number_at 4 (entry_offset f.entry + 4) b) o) Mask at
    by_bits None e = tells_this Mask at (entry_offset f.entry + 8) f.offset
    by_bits (Some bits) e =
        let mask = bits_of_mask-Some (number_at 4 (entry_offset f.entry + 8) b) bits e in
        absurd (h.1 (bits, mask.0, ap (λ (n : ℕ). number_at 4 n b) f.offset ∙ mask.1))

tells_no_mask : (b : List ℕ) (at : ℕ) → IsFault b NoMask at → (f : IsFieldAt b 8 at) → Tells (entry_at (entry_offset f.entry) b) NoMask at
tells_no_mask b at h f =
    let i = f.entry in
    let here = f.offset in
    let k = entry_offset i in
    let mask : number_at 4 (k + 8) b ≡ 0 = ap (λ (n : ℕ). number_at 4 n b) (sym here) ∙ h.1 in
    let address : number_at 4 (k + 4) b ≢ 0 = λ e. h.2 (ap (λ (n : ℕ). number_at 4 n b) (omega arith) ∙ e) in
    let bits : bits_of_mask (number_at 4 (k + 8) b) ≡ Some 0 = ap bits_of_mask mask ∙ bits_of_mask-mask_of 0 (omega arith) in
    tells_in_prefix b i NoMask at (omega arith)
    (rw bits (tells_here (eqb 0 0 && not (eqb (number_at 4 (k + 4) b) 0)) NoMask at (k + 8) _ (grind (arith, nat_tests)) here))

tells_host_bits : (b : List ℕ) (at : ℕ) → IsFault b HostBits at → (f : IsFieldAt b 4 at) → Tells (entry_at (entry_offset f.entry) b) HostBits at
tells_host_bits b at h f =
    let i = f.entry in
    let here = f.offset in
    let k = entry_offset i in
    let hosts = h.1 in
    let mask : number_at 4 (k + 8) b ≡ mask_of hosts.prefix_len = ap (λ (n : ℕ). number_at 4 n b) (omega arith) ∙ hosts.covers in
    let bits : bits_of_mask (number_at 4 (k + 8) b) ≡ Some hosts.prefix_len = ap bits_of_mask mask ∙ bits_of_mask-mask_of hosts.prefix_len hosts.few in
    let address : number_at 4 at b ≡ number_at 4 (k + 4) b = ap (λ (n : ℕ). number_at 4 n b) here in
    let set : number_at 4 (k + 4) b % size_of hosts.prefix_len ≢ 0 = rw (← address) hosts.bits in
    tells_in_prefix b i HostBits at (omega arith) (rw bits (
    tells_later (eqb hosts.prefix_len 0 && not (eqb (number_at 4 (k + 4) b) 0)) _ _ HostBits at (omega arith) (λ t1.
    tells_here (not (eqb (number_at 4 (k + 4) b % size_of hosts.prefix_len) 0)) HostBits at (k + 4) _ (grind (arith, nat_tests)) here)))

-- a fault that entry i tells is told by those up to it
tells_entries : (n j i : ℕ) (b : List ℕ) (code : WireCode) (at : ℕ) → get_or b 0 0 ≡ 2 → j ≤ i → i < j + n → i < groups_in b → 7 + 6 * i ≤ rank code at → Tells (entry_at (entry_offset i) b) code at →
    Tells (entries_at n (entry_offset j) b) code at
unfolding entries_at
tells_entries zero j i b code at two from to within low h = absurd (omega arith)
tells_entries (suc n) j i b code at two from to within low h =
    by_order (order_cases j i from) (λ less. tells_entries n (j + 1) i b code at two (omega arith) (omega arith) within low h)
  where
    order_cases : (j i : ℕ) → j ≤ i → (j ≡ i) ⊎ (j < i)
    order_cases j i le = grind arith

    next : entry_offset j + 20 ≡ entry_offset (j + 1)
    next = omega arith

    by_order : (j ≡ i) ⊎ (j < i) → (j < i → Tells (entries_at n (entry_offset (j + 1)) b) code at) →
        Tells (entry_at (entry_offset j) b >>= λ e. entries_at n (entry_offset j + 20) b >>= λ es. Ok (e ∷ es)) code at
    by_order (inl same) later = tells_bind (entry_at (entry_offset j) b) _ code at (rw same h)
    by_order (inr less) later =
        tells_or (entry_at (entry_offset j) b) _ code at (λ e is. let f = entry_fails b j two (omega arith) e is in let high = f.high in omega arith) (λ e is.
        tells_bind (entries_at n (entry_offset j + 20) b) _ code at (rw next (later less)))

-- a fault of an entry
tells_entry : (b : List ℕ) (code : WireCode) (at into : ℕ) (f : IsFieldAt b into at) → 7 + 6 * f.entry ≤ rank code at → Tells (entry_at (entry_offset f.entry) b) code at → Tells (message_in b) code at
unfolding message_in
tells_entry b code at offset f low h =
    tells_or (kind_in b) (message_of_kind b) code at (λ e is. let head = (kind_fails b e is).low in omega arith) by_kind
  where
    by_kind : (kind : Kind) → kind_in b ≡ Ok kind → Tells (message_of_kind b kind) code at
    by_kind Request is = let one = (headed b Request is).command in let two = f.response in absurd (omega arith)
    by_kind Response is =
        tells_bind (entries_at (groups_in b) 4 b) _ code at (tells_entries (groups_in b) 0 f.entry b code at f.response (omega arith) (let within = f.within in omega arith) f.within low h)

-- a fault of the bytes is told, or one before it
tells : (b : List ℕ) (code : WireCode) (at : ℕ) → IsFault b code at → Tells (message_in b) code at
unfolding message_in
tells b Short at h = tells_bind (kind_in b) (message_of_kind b) Short at (tells_kind b Short at h (omega arith))
tells b Command at h = tells_bind (kind_in b) (message_of_kind b) Command at (tells_kind b Command at h (omega arith))
tells b Version at h = tells_bind (kind_in b) (message_of_kind b) Version at (tells_kind b Version at h (omega arith))
tells b Zero at h = tells_bind (kind_in b) (message_of_kind b) Zero at (tells_kind b Zero at h (omega arith))
tells b Ragged at h = tells_bind (kind_in b) (message_of_kind b) Ragged at (tells_kind b Ragged at h (omega arith))
tells b Empty at h = tells_bind (kind_in b) (message_of_kind b) Empty at (tells_kind b Empty at h (omega arith))
tells b TooMany at h = tells_bind (kind_in b) (message_of_kind b) TooMany at (tells_kind b TooMany at h (omega arith))
tells b Authentication at h = tells_entry b Authentication at 0 h.0 (let offset = h.0.offset in omega arith) (tells_authentication b at h h.0)
tells b Family at h = tells_entry b Family at 0 h.0 (let offset = h.0.offset in omega arith) (tells_family b at h h.0)
tells b Mask at h = tells_entry b Mask at 8 h.0 (let offset = h.0.offset in omega arith) (tells_mask b at h h.0)
tells b NoMask at h = tells_entry b NoMask at 8 h.0 (let offset = h.0.offset in omega arith) (tells_no_mask b at h h.0)
tells b HostBits at h = tells_entry b HostBits at 4 h.0 (let offset = h.0.offset in omega arith) (tells_host_bits b at h h.0)
tells b Metric at h = tells_entry b Metric at 16 h.0 (let offset = h.0.offset in omega arith) (tells_metric b at h h.0)

-- ---- The fault that is told is the first

entries_fail : (n j : ℕ) (b : List ℕ) → get_or b 0 0 ≡ 2 → j + n ≤ groups_in b → Fails (λ e. IsFault b e.code e.at) (entries_at n (entry_offset j) b)
unfolding entries_at
entries_fail zero j b two within = fails_not (λ e. IsFault b e.code e.at) []
entries_fail (suc n) j b two within =
    let next : entry_offset j + 20 ≡ entry_offset (j + 1) = omega arith in
    fails_bind (λ e. IsFault b e.code e.at) (entry_at (entry_offset j) b) _ (λ e is. (entry_fails b j two (omega arith) e is).fault) (λ e is.
    fails_bind (λ e. IsFault b e.code e.at) (entries_at n (entry_offset j + 20) b) _ (rw next (entries_fail n (j + 1) b two (omega arith))) (λ es is_es.
    fails_not (λ e. IsFault b e.code e.at) _))

message_fails : (b : List ℕ) → Fails (λ e. IsFault b e.code e.at) (message_in b)
unfolding message_in
message_fails b = fails_bind (λ e. IsFault b e.code e.at) (kind_in b) (message_of_kind b) (λ e is. (kind_fails b e is).fault) by_kind
  where
    by_kind : (kind : Kind) → kind_in b ≡ Ok kind → Fails (λ e. IsFault b e.code e.at) (message_of_kind b kind)
    by_kind Request is = fails_not (λ e. IsFault b e.code e.at) request
    by_kind Response is =
        fails_bind (λ e. IsFault b e.code e.at) (entries_at (groups_in b) 4 b) _ (entries_fail (groups_in b) 0 b (headed b Response is).command (omega arith)) (λ es is_es.
        fails_not (λ e. IsFault b e.code e.at) (response es))

pub same_error : (d e : WireError) → ◌≡◌ {A = Result Message WireError} (Err d) (Err e) → d ≡ e
same_error d e h = cc

-- the fault that is told is the first
pub wire_fault : (b : List ℕ) (e : WireError) → message_in b ≡ Err e → WireFault b e.code e.at
wire_fault b e h = record {
  fault = message_fails b e h;
  first = λ other there is.
      let t = tells b other there is in
      let same = same_error t.told e (sym t.is ∙ h) in
      subst (λ (d : WireError). ((other ≡ d.code) × (there ≡ d.at)) ⊎ (rank d.code d.at < rank other there)) same t.before;
}

-- the first fault is told
pub wire_fault_told : (b : List ℕ) (code : WireCode) (at : ℕ) → WireFault b code at → message_in b ≡ Err (record { code = code; at = at })
wire_fault_told b code at w = let t = tells b code at w.fault in by_order t t.before (w.first t.told.code t.told.at (message_fails b t.told t.is))
  where
    by_order : (t : Tells (message_in b) code at) → ((code ≡ t.told.code) × (at ≡ t.told.at)) ⊎ (rank t.told.code t.told.at < rank code at) →
        ((t.told.code ≡ code) × (t.told.at ≡ at)) ⊎ (rank code at < rank t.told.code t.told.at) → message_in b ≡ Err (record { code = code; at = at })
    by_order t (inl same) other = rw (same.0, same.1) t.is
    by_order t (inr less) (inl same) = rw (← same.0, ← same.1) t.is
    by_order t (inr less) (inr more) = absurd (omega arith)
