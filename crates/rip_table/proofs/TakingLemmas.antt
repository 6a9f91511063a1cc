-- What checking the entries of a response says of taking it.
use Rattle.std.proofs.Common.{◌≡◌, ℕ, ◌==◌, Bool, true, false, cond, not, List, [], ◌∷◌, length, Option, Some, None, is_ok, Result, Ok, Err, refl, sym, ap, ◌∙◌, set, get_or, ◌<◌, get_or-set_same, get_or-set_other, ◌≢◌, arith}
use mathlib.Core.Path.{fun_ext}
use Rattle.std.proofs.lemmas.Bool.Decides.{nat_tests}
use Rattle.rip_wire.specs.Message.{Message, response}
use Rattle.rip_wire.specs.declared.entry.Entry.{Entry}
use Rattle.rip_plan.specs.Network.{Network}
use Rattle.rip_table.specs.State.{State}
use Rattle.rip_table.specs.Joined.{and_then, brings_pair, is_foreign, is_past, joined_at, joined_entries, joined_message, Takes, with_heard, with_metric}
use Rattle.rip_table.specs.Numbers.{AreFaultless, IsChecked}
use Rattle.rip_table.specs.declared.error.TableError.{TableError}
use Rattle.rip_table.specs.declared.error.TableError.TheVariants.{Changed, NextHop, TooManyPrefixes, Memory}

abbrev pub is_memory_fault : Result State TableError → Bool
is_memory_fault (Err Memory) = true
is_memory_fault (Err (Changed p x y)) = false
is_memory_fault (Err (NextHop p)) = false
is_memory_fault (Err TooManyPrefixes) = false
is_memory_fault (Ok s) = false

at-memory : (net : Network) (i : ℕ) (s : State) (e : Entry) (o : Option ℕ) → is_memory_fault (joined_at net i s e o) ≡ false
at-memory net i s e (Some old) = by (not (old == e.metric)) (is_foreign net i e)
  where
    by : (c f : Bool) → is_memory_fault (cond c (Err (Changed e.prefix old e.metric)) (cond f (Err (NextHop e.prefix)) (Ok s))) ≡ false
    by true f = refl
    by false true = refl
    by false false = refl
at-memory net i s e None = by (is_foreign net i e) (is_past s e.prefix)
  where
    by : (f b : Bool) → is_memory_fault (cond f (Err (NextHop e.prefix)) (cond b (Err TooManyPrefixes) (Ok (with_metric s i e.prefix e.metric)))) ≡ false
    by true b = refl
    by false true = refl
    by false false = refl

then-memory : (r : Result State TableError) (f : State → Result State TableError) → is_memory_fault r ≡ false → ((t : State) → is_memory_fault (f t) ≡ false) → is_memory_fault (and_then r f) ≡ false
then-memory (Ok t) f h k = k t
then-memory (Err e) f h k = h

-- Memory is no fault of an entry
pub entries-memory : (net : Network) (i : ℕ) (s : State) (es : List Entry) → is_memory_fault (joined_entries net i s es) ≡ false
entries-memory net i s [] = refl
entries-memory net i s (e ∷ es) = then-memory (joined_at net i s e (s.shows i e.prefix)) (λ t. joined_entries net i t es) (at-memory net i s e (s.shows i e.prefix)) (λ t. entries-memory net i t es)

-- a response with a bad entry is refused
pub refused : (n : Network) (i : ℕ) (s : State) (m : Message) (es : List Entry) (f : TableError) → m ≡ response es → IsChecked n i s es (Err f) → Takes n i s m s (Err f)
refused n i s m es Memory is h = let k : true ≡ false = sym (ap is_memory_fault h) ∙ entries-memory n i (with_heard s i) es in absurd (cc k)
refused n i s m es (Changed p x y) is h = (refl, ap (joined_message n i s) is ∙ h)
refused n i s m es (NextHop p) is h = (refl, ap (joined_message n i s) is ∙ h)
refused n i s m es TooManyPrefixes is h = (refl, ap (joined_message n i s) is ∙ h)

-- a response without a bad entry that brings a pair may allocate
pub allocating : (n : Network) (i : ℕ) (s : State) (m : Message) (es : List Entry) (new : State) → m ≡ response es → AreFaultless n i s es → brings_pair i s (response es) ≡ true → new ≡ s →
    Takes n i s m new (Err Memory)
allocating n i s m es new is checked brings same = (
  same,
  record {
    good = ap (λ (x : Message). is_ok (joined_message n i s x)) is ∙ ap is_ok checked.1;
    brings = ap (brings_pair i s) is ∙ brings;
  },
)

-- a response without a bad entry is taken
pub taken : (n : Network) (i : ℕ) (s : State) (m : Message) (es : List Entry) (new : State) → m ≡ response es → (checked : AreFaultless n i s es) → new ≡ checked.0 → Takes n i s m new (Ok tt)
taken n i s m es new is checked same = ap (joined_message n i s) is ∙ checked.1 ∙ ap (λ (t : State). Ok t) (sym same)

heard_at : (heard : List Bool) (i j : ℕ) → i < length heard → get_or (set heard i true) j false ≡ cond (j == i) true (get_or heard j false)
heard_at heard i j lt = by (j == i) refl
  where
    by : (b : Bool) → (j == i) ≡ b → get_or (set heard i true) j false ≡ cond b true (get_or heard j false)
    by true e = let same : j ≡ i = grind (arith, nat_tests) in ap (λ (k : ℕ). get_or (set heard i true) k false) same ∙ get_or-set_same heard i true false lt
    by false e = let apart : j ≢ i = grind (arith, nat_tests) in get_or-set_other heard i j true false apart

-- which interfaces were heard, with one more
pub heard-with : (heard : List Bool) (i : ℕ) → i < length heard → ◌≡◌ {A = ℕ → Bool} (λ j. get_or (set heard i true) j false) (λ j. cond (j == i) true (get_or heard j false))
heard-with heard i lt = fun_ext (λ j. heard_at heard i j lt)
