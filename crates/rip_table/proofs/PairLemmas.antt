-- When a response brings a pair of interface and prefix.
use Rattle.std.proofs.Common.{◌≡◌, ℕ, suc, zero, Bool, true, false, ◌||◌, List, [], ◌∷◌, Option, Some, None, refl}
use Rattle.std.specs.Prelude.{is_none, slice_get}
use Rattle.rip_wire.specs.Message.{response}
use Rattle.rip_wire.specs.declared.entry.Entry.{Entry}
use Rattle.rip_table.specs.State.{State}
use Rattle.rip_table.specs.Joined.{brings_pair}

abbrev pub NewPair : ℕ → State → List Entry → Type 0
NewPair i s es = (k : ℕ) × (e : Entry) × (slice_get es k ≡ Some e) × (s.shows i e.prefix ≡ None)

pub pair_of : (i : ℕ) (s : State) (es : List Entry) → brings_pair i s (response es) ≡ true → NewPair i s es
pair_of i s [] h = absurd (cc h)
pair_of i s (e ∷ es) h = by (s.shows i e.prefix) refl h (pair_of i s es)
  where
    by : (shown : Option ℕ) → s.shows i e.prefix ≡ shown → (is_none shown || brings_pair i s (response es)) ≡ true → (brings_pair i s (response es) ≡ true → NewPair i s es) → NewPair i s (e ∷ es)
    by None is k later = (zero, e, refl, is)
    by (Some x) is k later = let (j, f, at, new) = later k in (suc j, f, at, new)

pub brings_of : (i : ℕ) (s : State) (es : List Entry) (k : ℕ) (e : Entry) → slice_get es k ≡ Some e → s.shows i e.prefix ≡ None → brings_pair i s (response es) ≡ true
brings_of i s [] k e at new = absurd (cc at)
brings_of i s (f ∷ es) zero e at new =
    let same : f ≡ e = cc at in
    rw (same, new) refl
brings_of i s (f ∷ es) (suc k) e at new = later (is_none (s.shows i f.prefix)) (brings_of i s es k e at new)
  where
    later : (b : Bool) → brings_pair i s (response es) ≡ true → (b || brings_pair i s (response es)) ≡ true
    later true h = refl
    later false h = h
