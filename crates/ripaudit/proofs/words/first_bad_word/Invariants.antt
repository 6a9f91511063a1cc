use Rattle.std.proofs.Common.{◌≡◌, [], ℕ, true, false, codes, map, ◌<◌, get_or}
use Rattle.rip_report.specs.Selections.{Part}
use Rattle.ripaudit.specs.CaptureWords.{IsCaptureWord, IsFineWord}
use Rattle.ripaudit.proofs.words.first_bad_word.Given as goal

abbrev pub invariant-loop-i : goal.invariant-loop-i
invariant-loop-i l = record {
  fine : (i : ℕ) → i < l.i → IsFineWord (map (λ w. w.now) l.words) i;
  taken : l.takes_input ≡ true → (i : ℕ) × (part : Part) × (i < l.i) × IsCaptureWord (get_or (map (λ w. w.now) l.words) i []) part (codes "-");
  free : l.takes_input ≡ false → (i : ℕ) → i < l.i → (part : Part) → IsCaptureWord (get_or (map (λ w. w.now) l.words) i []) part (codes "-") → ⊥;
}
