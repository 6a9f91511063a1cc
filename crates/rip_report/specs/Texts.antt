-- Short texts that are made once.
use Rattle.std.specs.Prelude.{◌≡◌, ℕ, ◌≤◌, List, ◌++◌, Some, slice_get, take, codes, decimal}
use Rattle.rip_wire.specs.Prefix.{Block, prefix_text}
use Rattle.rip_report.specs.declared.texts.text.Text.{Text}
use Rattle.rip_report.specs.declared.texts.Texts.{Texts}
use Rattle.rip_report.specs.Written.{line}

abbrev pub text_of : {N : ℕ} → Text N → List ℕ
text_of t = take t.used t.bytes

-- text k of the list is this one
abbrev pub IsText : {N : ℕ} → List (Text N) → ℕ → List ℕ → Type 0
IsText {N} texts k text = (t : Text N) × (slice_get texts k ≡ Some t) × (text_of t ≡ text)

-- for each prefix its text and a blank
abbrev pub AreOfPrefixes : {N : ℕ} → List Block → List (Text N) → Type 0
AreOfPrefixes prefixes texts =
    (k : ℕ) (p : Block) → slice_get prefixes k ≡ Some p
    → IsText texts k (prefix_text p ++ codes " ")

-- for each metric its number and the end of the line
abbrev pub AreOfMetrics : {N : ℕ} → List (Text N) → Type 0
AreOfMetrics texts = (m : ℕ) → 1 ≤ m → m ≤ 16 → IsText texts m (line (decimal m))

-- the texts of these prefixes, and of all metrics
pub record AreTexts (ps : List Block) (texts : Texts) : Type 0 where
  pub prefixes : AreOfPrefixes ps texts.prefixes
  pub metrics : AreOfMetrics texts.metrics
