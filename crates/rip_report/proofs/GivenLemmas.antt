-- The text that a run has been given.
use Rattle.std.proofs.Common.{◌≡◌, ◌≢◌, ℕ, Bool, true, List, [], ◌++◌, Option, None, Some, Result, Err, refl, sym, ap, ◌∙◌, append_assoc}
use Rattle.std.specs.Io.KnownBytes.{Consumes, IsAtEnd}
use Rattle.rip_log.specs.Wholes.{Went, rest_of}
use Rattle.rip_log.proofs.WholeLemmas.{rest-is, went_nowhere}
use Rattle.rip_report.specs.Given.{IsGiven}
use Rattle.rip_report.specs.Runs.{Draws}
use Rattle.rip_report.specs.declared.status.Status.{Status}
use Rattle.rip_report.specs.declared.status.RunError.{RunError}
use Rattle.rip_report.specs.declared.status.RunError.TheVariants.{Read}

pub rest_given : {R : Type 0} (given : R → List ℕ) (s : R) (text : List ℕ) → rest_of given (given s ++ text) s ≡ Some text
unfolding rest_of
rest_given given s text = ap Some (rest-is (given s ++ text) (given s) text refl)

-- what is left of a told text behind what came of it
left_of : (text : List ℕ) (old new : Option (List ℕ)) (more : List ℕ) (end : Bool) → Consumes old new more → (end ≡ true → IsAtEnd new) → old ≡ Some text
    → (left : List ℕ) × (text ≡ more ++ left) × (end ≡ true → left ≡ [])
left_of text None new more end came law is = cc is
left_of text (Some xs) None more end came law is = absurd came
left_of text (Some xs) (Some ys) more end came law is =
    let same : xs ≡ text = cc is in
    (ys, sym same ∙ came, law)

-- where the bytes to come are told, a run is given a beginning of theirs
pub told_given : {R : Type 0} (given : R → List ℕ) (coming : R → Option (List ℕ)) (at_end : R → Bool) (old new : R) → Went given coming at_end old new
    → (at_end new ≡ true → IsAtEnd (coming new)) → (text : List ℕ) → coming old ≡ Some text → IsGiven given at_end old new text
told_given given coming at_end old new w law text is =
    let found = left_of text (coming old) (coming new) w.more (at_end new) w.came law is in
    record {
      left = found.0;
      split = ap (λ l. given old ++ l) found.1 ∙ sym (append_assoc (given old) w.more found.0) ∙ ap (λ l. l ++ found.0) (sym w.gave);
      ended = found.2;
    }

-- so a run leaves a source that went on, and that has failed only where it says so
pub drawn : {R : Type 0} (given : R → List ℕ) (coming : R → Option (List ℕ)) (broken at_end : R → Bool) (old new : R) (result : Result Status RunError)
    → Went given coming at_end old new → (at_end new ≡ true → IsAtEnd (coming new)) → (result ≢ Err Read → broken new ≡ broken old)
    → Draws given coming broken at_end old new result
drawn given coming broken at_end old new result went law source = record {
  source = source;
  went = went;
  to_come = told_given given coming at_end old new went law;
}

-- and one that was not touched
pub undrawn : {R : Type 0} (given : R → List ℕ) (coming : R → Option (List ℕ)) (broken at_end : R → Bool) (s : R) (result : Result Status RunError)
    → (at_end s ≡ true → IsAtEnd (coming s)) → Draws given coming broken at_end s s result
undrawn given coming broken at_end s result law =
    drawn given coming broken at_end s s result (went_nowhere given coming at_end s) law (λ other. refl)
