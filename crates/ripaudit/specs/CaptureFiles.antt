-- The capture files that the words of `log` name, as far as they were read.
use Rattle.std.specs.Prelude.{◌≡◌, ℕ, List, [], Bool, true, false, Option, None, Some, Result, Ok, Err, length, slice_get}
use Rattle.std.specs.List.{slice_index_or}
use Rattle.std.specs.Borrow.{Bor}
use Rattle.rip_log.specs.Readers.{given_by, has_ended}
use Rattle.rip_log.specs.Wholes.{Begins}
use Rattle.rip_log.specs.declared.source.FromRead.{FromRead}
use Rattle.rip_report.specs.CaptureLogs.{File}
use Rattle.rip_report.specs.declared.status.RunError.{RunError}
use Rattle.rip_report.specs.declared.status.Status.{Status}
use Rattle.rip_report.specs.declared.status.Status.TheVariants.{Refused}
use Rattle.ripaudit.specs.CaptureWords.{IsCaptureWord}

-- a source whose reader is closed
abbrev pub ClosedSource : Type 0
ClosedSource = FromRead (Bor (List ℕ))

-- the bytes of a file begin with what its source gave, and are all of it where it came to its end
abbrev pub HasGiven : ClosedSource → List ℕ → Type 0
HasGiven source bytes = Begins bytes (given_by source) (has_ended source)

-- the same of a file that was opened; of another nothing is known
abbrev pub HasGivenIf : Option ClosedSource → List ℕ → Type 0
HasGivenIf None bytes = Unit {0}
HasGivenIf (Some source) bytes = HasGiven source bytes

-- the same of the file that was opened at a place among these, if one was
abbrev pub HasGivenAt : List ClosedSource → ℕ → List ℕ → Type 0
HasGivenAt sources k bytes =
    (source : ClosedSource) → slice_get sources k ≡ Some source → HasGiven source bytes

-- a word names the file, and the part of it that is a link's
abbrev pub NamesFile : List ℕ → File → Type 0
NamesFile word file = (path : List ℕ) × IsCaptureWord word file.part path

-- these are the files of the first words: each is named by its word, and has what its source gave
-- if it was opened
pub record AreFirstFiles (count : ℕ) (words : List (List ℕ)) (sources : List ClosedSource)
    (files : List File) : Type 0 where
  pub size : length files ≡ count
  pub named : (k : ℕ) (file : File) → slice_get files k ≡ Some file →
      NamesFile (slice_index_or words k []) file
  pub given : (k : ℕ) (file : File) → slice_get files k ≡ Some file →
      HasGivenAt sources k file.bytes

-- these are the files of the words
abbrev pub AreFilesOf : List (List ℕ) → List ClosedSource → List File → Type 0
AreFilesOf words sources files = AreFirstFiles (length words) words sources files

-- the answer of a file ends a log: it is refused, or the run failed
abbrev pub ends_log : Result Status RunError → Bool
ends_log (Ok Refused) = true
ends_log (Ok status) = false
ends_log (Err e) = true
