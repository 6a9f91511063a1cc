use Rattle.std.proofs.Common.{◌≡◌, ◌∙◌, List, [], ℕ, Bor, true≢false, codes, map, get_or, sym, refl, subst, arith}
use Rattle.std.proofs.Math.ListN.{get_or-map}
use Rattle.std.proofs.lemmas.List.{length-map}
use Rattle.rip_report.specs.Selections.{Part}
use Rattle.ripaudit.specs.CaptureWords.{IsCaptureWord, IsFineWord, part_in}
use Rattle.ripaudit.proofs.CaptureWordLemmas.{no_word, second_input, up_to}
use Rattle.ripaudit.proofs.words.first_bad_word.Goals as goal
use Rattle.ripaudit.proofs.words.first_bad_word.Goals.{then-is_input+else-takes_input, else-is_input}

-- the words as they stand
abbrev texts : List (Bor (List ℕ)) → List (List ℕ)
texts words = map (λ w. w.now) words

-- a word of these
at : (words : List (Bor (List ℕ))) (i : ℕ) → get_or (texts words) i [] ≡ (get_or words i (record { ref_ptr = (0, 0); now = [] })).now
at words i = get_or-map (λ w. w.now) words i (record { ref_ptr = (0, 0); now = [] })

pub returns-in_default : goal.returns-in_default
returns-in_default c = record {
  one = omega (arith, c.loop-i-test.true, length-map c.args.words.now (λ (w : Bor (List ℕ)). w.now));
  before = c.loop-i.invariant.fine;
  bad = no_word (texts c.args.words.now) c.loop-i.i _ (at c.args.words.now c.loop-i.i) c.in_default.ensures.found;
}

pub returns-then-takes_input : goal.returns-then-takes_input
returns-then-takes_input c = record {
  one = omega (arith, c.loop-i-test.true, length-map c.args.words.now (λ (w : Bor (List ℕ)). w.now));
  before = c.loop-i.invariant.fine;
  bad = second_input (texts c.args.words.now) c.loop-i.i _ (at c.args.words.now c.loop-i.i)
      (λ part path is. sym (c.in-Some.ensures.found part path is).1 ∙ c.if-is_input.ensures.0 refl)
      (c.loop-i.invariant.taken c.if-takes_input.true);
}

pub loop-i-preserved : goal.loop-i-preserved
loop-i-preserved c =
    let words = texts c.args.words.now in
    let n = c.loop-i.i in
    let here = at c.args.words.now n in
    let is : IsCaptureWord (get_or words n []) (part_in c.in-Some.word) c.in-Some.word.path.now =
    subst (λ (w : List ℕ). IsCaptureWord w (part_in c.in-Some.word) c.in-Some.word.path.now) (sym here) c.in-Some.ensures.named in
    let found : (part : Part) (path : List ℕ) → IsCaptureWord (get_or words n []) part path → c.in-Some.word.path.now ≡ path =
    λ part path h. (c.in-Some.ensures.found part path (subst (λ (w : List ℕ). IsCaptureWord w part path) here h)).1 in
    elim c.if-is_input.branch [
      | then-is_input+else-takes_input w ↦
          let input : c.in-Some.word.path.now ≡ codes "-" = w.if-is_input.ensures.0 refl in
          record {
            fine = λ i l.
                up_to (IsFineWord words) n i c.loop-i.invariant.fine
                (record { part = part_in c.in-Some.word; path = c.in-Some.word.path.now; names = is; once = λ _. c.loop-i.invariant.free w.if-takes_input.false }) l;
            taken = λ _. (n, (part_in c.in-Some.word), omega arith, subst (IsCaptureWord (get_or words n []) (part_in c.in-Some.word)) input is);
            free = λ e. absurd (true≢false (sym w.takes_input-is ∙ e));
          }
      | else-is_input w ↦
          let other : c.in-Some.word.path.now ≡ codes "-" → ⊥ = λ e. true≢false (sym (w.if-is_input.ensures.1 e)) in
          record {
            fine = λ i l.
                up_to (IsFineWord words) n i c.loop-i.invariant.fine
                (record { part = part_in c.in-Some.word; path = c.in-Some.word.path.now; names = is; once = λ e. absurd (other e) }) l;
            taken = λ e.
                let before = c.loop-i.invariant.taken (sym w.takes_input-is ∙ e) in
                (before.0, before.1, omega (arith, before.2), before.3);
            free = λ e i l.
                up_to (λ k. (part : Part) → IsCaptureWord (get_or words k []) part (codes "-") → ⊥) n i
                (c.loop-i.invariant.free (sym w.takes_input-is ∙ e)) (λ part h. other (found part (codes "-") h)) l;
          }
    ]
