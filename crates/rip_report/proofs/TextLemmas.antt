-- Texts that are made one after the other.
use Rattle.std.proofs.Common.{◌≡◌, ◌≢◌, ℕ, zero, suc, ◌+◌, ◌<◌, nat_lt, Bool, true, false, List, [], ◌∷◌, length, set, refl, ap, ◌∙◌, ◌++◌, arith, codes, decimal, get_or, append_assoc}
use Rattle.std.proofs.lemmas.Bool.{ltb-true, ltb-false}
use Rattle.std.proofs.lemmas.Option.{get_or_from_slice_get}
use Rattle.rip_wire.specs.Prefix.{Block, prefix_text}
use Rattle.rip_plan.specs.Network.{Network}
use Rattle.rip_plan.specs.declared.parts.Interface.{Interface}
use Rattle.rip_report.specs.Lines.{interface_name}
use Rattle.rip_report.specs.TableText.{metric_line, table_line}
use Rattle.rip_report.specs.Texts.{IsText, text_of}
use Rattle.rip_report.specs.Written.{line}
use Rattle.rip_report.specs.declared.texts.text.Text.{Text}

-- a text that was written is there
pub text-written : {N : ℕ} (texts : List (Text N)) (k : ℕ) (t : Text N) (text : List ℕ) → k < length texts → text_of t ≡ text → IsText (set texts k t) k text
text-written [] k t text lt is = absurd (omega arith)
text-written (x ∷ texts) zero t text lt is = (t, refl, is)
text-written (x ∷ texts) (suc k) t text lt is = text-written texts k t text (omega arith) is

-- the others stay
pub text-kept : {N : ℕ} (texts : List (Text N)) (k j : ℕ) (t : Text N) (text : List ℕ) → j ≢ k → IsText texts j text → IsText (set texts k t) j text
text-kept [] k j t text apart is = is
text-kept (x ∷ texts) zero zero t text apart is = absurd (apart refl)
text-kept (x ∷ texts) zero (suc j) t text apart is = is
text-kept (x ∷ texts) (suc k) zero t text apart is = is
text-kept (x ∷ texts) (suc k) (suc j) t text apart is = text-kept texts k j t text (λ same. apart (ap suc same)) is

-- the texts up to one, and it
pub text-next : {N : ℕ} (texts : List (Text N)) (k j : ℕ) (t : Text N) (text : List ℕ) → k < length texts → j < k + 1 → (j < k → IsText texts j text) → (j ≡ k → text_of t ≡ text) → IsText (set texts k t) j text
text-next texts k j t text within lt before here = by (nat_lt j k) refl
  where
    by : (b : Bool) → nat_lt j k ≡ b → IsText (set texts k t) j text
    by true h = let less = ltb-true j k h in let apart : j ≢ k = omega (arith, less) in text-kept texts k j t text apart (before less)
    by false h =
        let same : j ≡ k = omega (arith, ltb-false j k h, lt) in
        ap_at same
      where
        ap_at : j ≡ k → IsText (set texts k t) j text
        ap_at same = rw same (text-written texts k t text within (here same))

-- the text that is read at a number
pub text-at : {N : ℕ} (texts : List (Text N)) (k : ℕ) (d : Text N) (text : List ℕ) → IsText texts k text → text_of (get_or texts k d) ≡ text
text-at texts k d text is = ap text_of (get_or_from_slice_get texts k is.0 d is.1) ∙ is.2

-- the line of a metric in its parts
pub metric-parts : (n : Network) (i : Interface) (p : Block) (m : ℕ) (front middle end : List ℕ) → front ≡ interface_name n i ++ codes " " → middle ≡ prefix_text p ++ codes " " →
    end ≡ line (decimal m)
    → front ++ (middle ++ end) ≡ metric_line n i p m
unfolding metric_line
metric-parts n i p m front middle end first second third = rw (first, second, third) (simp append_assoc)

-- the line of the counts, by what they are
pub same_counts : (i j p q : ℕ) → i ≡ j → p ≡ q → table_line i p ≡ table_line j q
same_counts i j p q interfaces prefixes = ap (λ (k : ℕ). table_line k p) interfaces ∙ ap (table_line j) prefixes
