-- The words of `log`: which file a word names, and which link.
use Rattle.std.specs.Prelude.{◌≡◌, ◌≢◌, ℕ, ◌<◌, List, [], ◌++◌, length, codes}
use Rattle.std.specs.List.{slice_index_or}
use Rattle.rip_wire.specs.Name.{IsName}
use Rattle.rip_report.specs.Selections.{Part, Selection, nothing_named}
use Rattle.ripaudit.specs.Texts.{Lacks}
use Rattle.ripaudit.specs.SelectionTexts.{IsSelectionText, selection_in}
use Rattle.ripaudit.specs.declared.words.CaptureWord.{CaptureWord}

-- the name of a file without its folders: what follows the last `/`, or all where there is none
pub data IsFileName (path name : List ℕ) : Type 0 where
  below : (folders : List ℕ) → path ≡ folders ++ (codes "/" ++ name) → Lacks 47 name →
      IsFileName path name
  alone : Lacks 47 path → name ≡ path → IsFileName path name

-- a file name without its last extension, which is the last `.` and what follows, where something
-- stands before it
pub data IsStem (name stem : List ℕ) : Type 0 where
  cut : (extension : List ℕ) → name ≡ stem ++ (codes "." ++ extension) → Lacks 46 extension →
      stem ≢ [] → IsStem name stem
  front : (rest : List ℕ) → name ≡ codes "." ++ rest → Lacks 46 rest → stem ≡ name →
      IsStem name stem
  none : Lacks 46 name → stem ≡ name → IsStem name stem

-- a text names a link, or a link and, behind `@`, which packets of a file are its own
pub data IsPartText (text : List ℕ) (part : Part) : Type 0 where
  link : IsName text → part ≡ record { link = text; selection = nothing_named } →
      IsPartText text part
  which : (link which : List ℕ) (selection : Selection) → text ≡ link ++ (codes "@" ++ which) →
      IsName link → IsSelectionText which selection →
      part ≡ record { link = link; selection = selection } →
      IsPartText text part

-- a word names a file and a part of it that is a link's: the part and the file, round its first
-- `=`; or a file, all of which is the link's that its name without its folders and without its last
-- extension names, and which is not standard input
pub data IsCaptureWord (word : List ℕ) (part : Part) (path : List ℕ) : Type 0 where
  both : (text : List ℕ) → word ≡ text ++ (codes "=" ++ path) → Lacks 61 text →
      IsPartText text part → path ≢ [] → IsCaptureWord word part path
  file : (name link : List ℕ) → Lacks 61 word → word ≢ codes "-" → IsFileName word name →
      IsStem name link → IsName link → part ≡ record { link = link; selection = nothing_named } →
      path ≡ word → IsCaptureWord word part path

-- the part that a word names
abbrev pub part_in : CaptureWord → Part
part_in word = record { link = word.link.now; selection = selection_in word.selection }

-- the word of this number names a file and its link, and standard input only where none before does
pub record IsFineWord (words : List (List ℕ)) (at : ℕ) : Type 0 where
  pub part : Part
  pub path : List ℕ
  pub names : IsCaptureWord (slice_index_or words at []) part path
  pub once : path ≡ codes "-" → (i : ℕ) → i < at → (other : Part) →
      ¬ IsCaptureWord (slice_index_or words i []) other (codes "-")

-- each of these words does
abbrev pub AreFineWords : List (List ℕ) → Type 0
AreFineWords words = (i : ℕ) → i < length words → IsFineWord words i

-- this one is the first that does not
pub record IsFirstBadWord (words : List (List ℕ)) (at : ℕ) : Type 0 where
  pub one : at < length words
  pub before : (i : ℕ) → i < at → IsFineWord words i
  pub bad : ¬ IsFineWord words at
