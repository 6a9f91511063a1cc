-- What a sink has taken, after one push more.
use Rattle.std.proofs.Common.{◌≡◌, ◌∙◌, ℕ, true, List, [], ◌∷◌, ◌++◌, Option, None, Some, Result, Ok, Err, refl, sym, ap, subst, append_assoc, append-nil}
use Rattle.std.specs.Io.KnownBytes.{Appends, Keeps, WriteAppends}
use Rattle.std.proofs.KnownBytes.{Appends-nil, Appends-trans}
use Rattle.rip_log.specs.Marks.{takes_none}
use Rattle.rip_log.specs.Outcomes.{Outcome, moved, outcome_of}
use Rattle.rip_log.specs.Taken.{Pushed, Taken, Took}
use Rattle.rip_log.proofs.OutcomeLemmas.{gave-noted, noted_none}

-- nothing was taken
pub Took-none : (t : Taken) → Took t t []
Took-none t = record { bytes = sym (append-nil t.bytes); beneath = Appends-nil t.beneath }

-- what was taken in two parts
pub Took-both : (a b c : Taken) (x y : List ℕ) → Took a b x → Took b c y → Took a c (x ++ y)
Took-both a b c x y h k = record {
  bytes = k.bytes ∙ ap (λ l. l ++ y) h.bytes ∙ append_assoc a.bytes x y;
  beneath = Appends-trans a.beneath b.beneath c.beneath x y h.beneath k.beneath;
}

-- what is kept beneath has no byte more
kept : (old new : Option (List ℕ)) → Keeps old new → Appends old new []
kept None new h = tt
kept (Some xs) None h = absurd h
kept (Some xs) (Some ys) h = h ∙ sym (append-nil xs)

no-bytes : (bytes : List ℕ) → takes_none (Some bytes) ≡ true → bytes ≡ []
no-bytes [] none = refl
no-bytes (b ∷ bytes) none = absurd (cc)

-- nor has what a write left that took nothing
left : {E : Type 0} (old new : Option (List ℕ)) (r : Result ℕ E) (bytes : List ℕ) → takes_none (outcome_of r bytes) ≡ true → WriteAppends old new r bytes → Appends old new []
left old new (Ok n) bytes none h = subst (Appends old new) (no-bytes _ none) h
left old new (Err e) bytes none h = kept old new h

-- a write that is noted is a push
pub pushed_noted : {E : Type 0} (old new : List Outcome) (below under : Option (List ℕ)) (r : Result ℕ E) (n : ℕ) (bytes : List ℕ) → r ≡ Ok n → new ≡ old ++ outcome_of r bytes ∷ [] →
    WriteAppends below under r bytes
    → Pushed {E = E} (record { bytes = moved old; beneath = below }) (record { bytes = moved new; beneath = under }) (Ok n) bytes
pushed_noted old new below under r n bytes is noted h =
    let gave = gave-noted old new r bytes noted in
    record { bytes = rw is at gave; beneath = rw is at h }

-- and one that took nothing is a push that fails
pub none_noted : {E : Type 0} (old new : List Outcome) (below under : Option (List ℕ)) (r : Result ℕ E) (bytes : List ℕ) → takes_none (outcome_of r bytes) ≡ true →
    new ≡ old ++ outcome_of r bytes ∷ [] → WriteAppends below under r bytes
    → Took (record { bytes = moved old; beneath = below }) (record { bytes = moved new; beneath = under }) []
none_noted old new below under r bytes none noted h = record {
  bytes = noted_none old new (outcome_of r bytes) noted none ∙ sym (append-nil (moved old));
  beneath = left below under r bytes none h;
}
