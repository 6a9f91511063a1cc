-- How a word of `log` is cut, and that it is cut in one way.
use Rattle.std.proofs.Common.{◌≡◌, ◌≢◌, inl, inr, Bool, true, false, eqb, eqb-true, ℕ, suc, ◌+◌, ◌<◌, ◌≤◌, List, [], ◌∷◌, ◌++◌, Option, Some, None, MatchOption, length, get_or, codes, take, drop, take-append-drop, refl, sym, ap, ap₂, subst, ◌∙◌, arith, Bor}
use Rattle.std.specs.Str.Pattern.{RFindsChar}
use Rattle.std.proofs.lemmas.Bool.{cases_lt, eqb-false}
use Rattle.std.proofs.lemmas.List.{get_or_default}
use Rattle.std.proofs.lemmas.Str.Pattern.{drop_at_char, NoCharPasses-char}
use Rattle.std.specs.Option.{IfSome, IsSomeAnd}
use Rattle.rip_wire.specs.Name.{IsName}
use Rattle.ripaudit.specs.CaptureWords.{IsFileName, below, alone, IsStem, cut, front, none, IsCaptureWord, both, file, IsFineWord, IsPartText, part_in}
use Rattle.ripaudit.specs.Texts.{Lacks}
use Rattle.rip_report.specs.Selections.{Part, Selection, nothing_named}
use Rattle.ripaudit.specs.declared.words.CaptureWord.{CaptureWord}

-- no byte is c, read at the default 0
abbrev pub LacksAt : ℕ → List ℕ → Type 0
LacksAt c text = (i : ℕ) → i < length text → get_or text i 0 ≢ c

pub lacks : (c : ℕ) (text : List ℕ) → LacksAt c text → Lacks c text
lacks c text h k d l e = h k l (get_or_default text k 0 d l ∙ e)

pub lacks_at : (c : ℕ) (text : List ℕ) → Lacks c text → LacksAt c text
lacks_at c text h i l = h i 0 l

-- a text that has the byte c does not lack it
pub has_byte : (c : ℕ) (xs ys : List ℕ) → Lacks c (xs ++ c ∷ ys) → ⊥
has_byte c [] ys h = h 0 0 (omega arith) refl
has_byte c (x ∷ xs) ys h = has_byte c xs ys (λ k d l. h (suc k) d (omega arith))

-- a text is cut in one way at its last c
pub one_last : (c : ℕ) (xs ys us vs : List ℕ) → xs ++ c ∷ ys ≡ us ++ c ∷ vs → Lacks c ys → Lacks c vs → (xs ≡ us) × (ys ≡ vs)
one_last c [] ys [] vs e l m = (refl, cc e)
one_last c [] ys (u ∷ us) vs e l m =
    let rest : ys ≡ us ++ c ∷ vs = cc e in
    absurd (has_byte c us vs (subst (Lacks c) rest l))
one_last c (x ∷ xs) ys [] vs e l m =
    let rest : xs ++ c ∷ ys ≡ vs = cc e in
    absurd (has_byte c xs ys (subst (Lacks c) (sym rest) m))
one_last c (x ∷ xs) ys (u ∷ us) vs e l m =
    let first : x ≡ u = cc e in
    let rest : xs ++ c ∷ ys ≡ us ++ c ∷ vs = cc e in
    let back = one_last c xs ys us vs rest l m in
    (ap₂ (λ a b. a ∷ b) first back.0, back.1)

-- what `rsplit_once` gives at a byte: the parts before and after it
abbrev pub IsRsplitOnceResult : ℕ → List ℕ → Option (Bor (List ℕ) × Bor (List ℕ)) → Type 0
IsRsplitOnceResult c text r = MatchOption r (RFindsChar c text None)
    (λ x. (i : ℕ) × (j : ℕ) × RFindsChar c text (Some (i, j)) × (x.0.now ≡ take i text) × (x.1.now ≡ drop j text) × (i ≤ j) × (length x.0.now ≡ i) × (length x.1.now + j ≡ length text))

-- they stand round the last such byte
pub last_parts : (c : ℕ) (text : List ℕ) (r : Option (Bor (List ℕ) × Bor (List ℕ))) → IsRsplitOnceResult c text r → c < 128
    → MatchOption r (Lacks c text) (λ x. (text ≡ x.0.now ++ c ∷ x.1.now) × Lacks c x.1.now)
last_parts c text None h low = lacks c text (λ i l. NoCharPasses-char c text i h low l)
last_parts c text (Some x) h low = (
  sym (take-append-drop h.0 text) ∙ ap₂ (λ (a b : List ℕ). a ++ b) (sym h.3) (drop_at_char c text h.0 h.1 h.2.1 low ∙ ap (λ (l : List ℕ). c ∷ l) (sym h.4)),
  lacks c x.1.now (λ i l e.
      NoCharPasses-char c (drop h.1 text) i h.2.0 low (subst (λ (t : List ℕ). i < length t) h.4 l) (ap (λ (t : List ℕ). get_or t i 0) (sym h.4) ∙ e)),
)

-- a text is empty where its length is 0
pub nothing : (xs : List ℕ) (r : Bool) → r ≡ eqb (length xs) 0 → r ≡ true → xs ≡ []
nothing [] r e t = refl
nothing (x ∷ xs) r e t = absurd (omega (arith, eqb-true (length (x ∷ xs)) 0 (sym e ∙ t)))

pub something : (xs : List ℕ) (r : Bool) → r ≡ eqb (length xs) 0 → r ≡ false → xs ≢ []
something xs r e t g = absurd (eqb-false (length xs) 0 (sym e ∙ t) (ap length g))

-- a path has one name
pub one_file_name : (path a b : List ℕ) → IsFileName path a → IsFileName path b → a ≡ b
one_file_name path a b (below xs e l) (below us f m) = (one_last 47 xs a us b (sym e ∙ f) l m).1
one_file_name path a b (below xs e l) (alone m f) = absurd (has_byte 47 xs a (subst (Lacks 47) e m))
one_file_name path a b (alone l e) (below us f m) = absurd (has_byte 47 us b (subst (Lacks 47) f l))
one_file_name path a b (alone l e) (alone m f) = e ∙ sym f

-- a name has one stem
pub one_stem : (name a b : List ℕ) → IsStem name a → IsStem name b → a ≡ b
one_stem name a b (cut x e l s) (cut y f m t) = (one_last 46 a x b y (sym e ∙ f) l m).0
one_stem name a b (cut x e l s) (front y f m t) = absurd (s (one_last 46 a x [] y (sym e ∙ f) l m).0)
one_stem name a b (cut x e l s) (none m f) = absurd (has_byte 46 a x (subst (Lacks 46) e m))
one_stem name a b (front x e l s) (cut y f m t) = absurd (t (one_last 46 b y [] x (sym f ∙ e) m l).0)
one_stem name a b (front x e l s) (front y f m t) = s ∙ sym t
one_stem name a b (front x e l s) (none m f) = s ∙ sym f
one_stem name a b (none l e) (cut y f m t) = absurd (has_byte 46 b y (subst (Lacks 46) f l))
one_stem name a b (none l e) (front y f m t) = e ∙ sym t
one_stem name a b (none l e) (none m f) = e ∙ sym f

no_byte : (c : ℕ) (xs ys : List ℕ) → [] ≡ xs ++ c ∷ ys → ⊥
no_byte c [] ys e = cc e
no_byte c (x ∷ xs) ys e = cc e

empty_name : (path name : List ℕ) → IsFileName path name → path ≡ [] → name ≡ []
empty_name path name (below xs e l) none_left = absurd (no_byte 47 xs name (sym none_left ∙ e))
empty_name path name (alone l e) none_left = e ∙ none_left

no_name : (name link : List ℕ) → name ≡ [] → IsStem name link → IsName link → ⊥
no_name name link e (cut x f l s) named = no_byte 46 link x (sym e ∙ f)
no_name name link e (front x f l s) named = no_byte 46 [] x (sym e ∙ f)
no_name name link e (none l s) named = omega (arith, named.some, ap length (s ∙ e))

-- what is named after its link has a name
pub has_name : (path name link : List ℕ) → IsFileName path name → IsStem name link → IsName link → path ≢ []
has_name path name link is stem named none_left = no_name name link (empty_name path name is none_left) stem named

-- ---- what is found in a word

pub named_both : (word text b : List ℕ) (r : Option CaptureWord) → word ≡ text ++ 61 ∷ b → Lacks 61 text
    → IfSome r (λ w. IsPartText text (part_in w) × IsName w.link.now × (w.path.now ≡ b) × (b ≢ [])) → IfSome r (λ w. IsCaptureWord word (part_in w) w.path.now)
named_both word text b None e l h = tt
named_both word text b (Some w) e l h = subst (IsCaptureWord word (part_in w)) (sym h.2) (both text e l h.0 h.3)

pub named_file : (word name a : List ℕ) (selection : Selection) (r : Option CaptureWord) → selection ≡ nothing_named → Lacks 61 word → word ≢ codes "-" → IsFileName word name → IsStem name a
    → IfSome r (λ w. (part_in w ≡ record { link = a; selection = selection }) × (w.path.now ≡ word) × IsName a × (word ≢ [])) → IfSome r (λ w. IsCaptureWord word (part_in w) w.path.now)
named_file word name a selection None e l d f s h = tt
named_file word name a selection (Some w) e l d f s h = file name a l d f s h.2 (h.0 ∙ ap (λ (t : Selection). record { link = a; selection = t }) e) h.1

-- what is found of a link and of what is named
pub found_part : (a link : List ℕ) (selection : Selection) (b path : List ℕ) (part : Part) (r : Option CaptureWord) → a ≡ link → b ≡ path → part ≡ record { link = link; selection = selection } → IsName link → path ≢ []
    → (IsName a → b ≢ [] → IsSomeAnd r (λ w. (part_in w ≡ record { link = a; selection = selection }) × (w.path.now ≡ b))) → IsSomeAnd r (λ w. (part_in w ≡ part) × (w.path.now ≡ path))
found_part a link selection b path part r e f is named some h =
    subst (λ (q : Part). IsSomeAnd r (λ w. (part_in w ≡ q) × (w.path.now ≡ path))) (ap (λ (l : List ℕ). record { link = l; selection = selection }) e ∙ sym is)
    (subst (λ (y : List ℕ). IsSomeAnd r (λ w. (part_in w ≡ record { link = a; selection = selection }) × (w.path.now ≡ y))) f (h (subst IsName (sym e) named) (λ g. some (sym f ∙ g))))

-- what is found of the text in front of a file
pub found_both : (a text b path : List ℕ) (part : Part) (r : Option CaptureWord) → a ≡ text → b ≡ path → IsPartText text part → path ≢ []
    → ((q : Part) → IsPartText a q → b ≢ [] → IsSomeAnd r (λ w. (part_in w ≡ q) × (w.path.now ≡ b))) → IsSomeAnd r (λ w. (part_in w ≡ part) × (w.path.now ≡ path))
found_both a text b path part r e f is some h =
    subst (λ (y : List ℕ). IsSomeAnd r (λ w. (part_in w ≡ part) × (w.path.now ≡ y))) f (h part (subst (λ (t : List ℕ). IsPartText t part) (sym e) is) (λ g. some (sym f ∙ g)))

-- ---- the words of a command line

-- a word that names no file and link
pub no_word : (words : List (List ℕ)) (at : ℕ) (word : List ℕ) → get_or words at [] ≡ word
    → ((part : Part) (path : List ℕ) → IsCaptureWord word part path → ⊥) → IsFineWord words at → ⊥
no_word words at word e other fine = other fine.part fine.path (subst (λ (w : List ℕ). IsCaptureWord w fine.part fine.path) e fine.names)

-- a word that names standard input where one before it does
pub second_input : (words : List (List ℕ)) (at : ℕ) (word : List ℕ) → get_or words at [] ≡ word
    → ((part : Part) (path : List ℕ) → IsCaptureWord word part path → path ≡ codes "-")
    → (i : ℕ) × (part : Part) × (i < at) × IsCaptureWord (get_or words i []) part (codes "-") → IsFineWord words at → ⊥
second_input words at word e input before fine =
    let is = subst (λ (w : List ℕ). IsCaptureWord w fine.part fine.path) e fine.names in
    fine.once (input fine.part fine.path is) before.0 before.2 before.1 before.3

-- what holds below a number, and of it, holds up to it
pub up_to : (P : ℕ → Type 0) (n i : ℕ) → ((k : ℕ) → k < n → P k) → P n → i < n + 1 → P i
up_to P n i under here l =
    elim (cases_lt i n) [
      | inl less ↦ under i less
      | inr le ↦ subst P (omega arith) here
    ]
