-- What a log of capture files is, and what a run leaves that adds a file to one.
use Rattle.std.specs.Prelude.{◌≡◌, ◌≢◌, ◌⊎◌, ℕ, ◌+◌, ◌^◌, ◌<◌, ◌≤◌, Bool, true, false, List, [], ◌∷◌, ◌++◌, length, map, flat_map, codes, Option, Some, None, Result, Ok, Err, is_err}
use Rattle.std.specs.List.{AllByRecursion}
use Rattle.rip_wire.specs.Name.{IsName}
use Rattle.rip_log.specs.Lines.{Capture as Captured}
use Rattle.rip_log.specs.LogText.{EndsLine, LogText}
use Rattle.rip_log.specs.Logs.{Numbered}
use Rattle.rip_log.specs.Taken.{Taken, Took}
use Rattle.rip_log.specs.declared.limits.TheConstants.{MOST_LINES}
use Rattle.rip_capture.specs.Captures.{CaptureFault, HasNoMore, IsCapture, IsNext}
use Rattle.rip_capture.specs.Pcap.{Frame}
use Rattle.rip_log.specs.Spans.{slice_of}
use Rattle.rip_capture.specs.declared.error.CaptureCode.{CaptureCode}
use Rattle.rip_capture.specs.declared.packet.Carried.{Carried}
use Rattle.rip_capture.specs.declared.packet.Carried.TheVariants.{Datagram, Elsewhere, Others}
use Rattle.rip_report.specs.CaptureText.{AreCarriers, HasTime, LacksTime, IsCaptureOf, comment_line, counted_status, counts_of, file_refusal_line, has_line, is_datagram, line_count, packet_lines, such}
use Rattle.rip_report.specs.LineTimes.{span_of}
use Rattle.rip_report.specs.Selections.{Carrier, HaveOneOrigin, IsCarrier, IsLogged, OfInterface, OfVlans, Part, Selection, first_behind}
use Rattle.rip_report.specs.LoggedDatagrams.{logged_datagram}
use Rattle.rip_report.specs.declared.captures.logged.Logged.{Logged}
use Rattle.rip_report.specs.declared.captures.logged.Logged.TheVariants.{As}
use Rattle.rip_report.specs.Sent.{Began}
use Rattle.rip_report.specs.Written.{line}
use Rattle.rip_report.specs.declared.captures.authentication.Authentication.{Authentication}
use Rattle.rip_report.specs.declared.captures.manner.Manner.{Manner}
use Rattle.rip_report.specs.declared.captures.log.CaptureLog.{CaptureLog}
use Rattle.rip_report.specs.declared.captures.ending.RefusalCode.{RefusalCode}
use Rattle.rip_report.specs.declared.captures.ending.RefusalCode.TheVariants.{Capture, Time, TooManyLines}
use Rattle.rip_report.specs.declared.status.RunError.{RunError}
use Rattle.rip_report.specs.declared.status.RunError.TheVariants.{Read, Write, Memory}
use Rattle.rip_report.specs.declared.status.Status.{Status}
use Rattle.rip_report.specs.declared.status.Status.TheVariants.{Done, Refused}

-- ---- what was written so far

-- how it is written
abbrev pub manner_of : CaptureLog → Manner
manner_of log = log.manner

-- how many files
abbrev pub files_of : CaptureLog → ℕ
files_of log = log.files

-- how many lines
abbrev pub lines_of : CaptureLog → ℕ
lines_of log = log.lines

-- Done where each datagram is there whole, else Unclear
abbrev pub status_of : CaptureLog → Status
status_of log = log.status

-- ---- a file

-- a beginning of these bytes is a capture of these packets, or there are none
pub data BeginsWith (how : Manner) (selection : Selection) (b : List ℕ) (carriers : List Carrier)
    : Type 0 where
  none : carriers ≡ [] → BeginsWith how selection b carriers
  some : (front rest : List ℕ) → b ≡ front ++ rest → IsCaptureOf how selection front carriers →
      BeginsWith how selection b carriers

-- a packet is the next one of a file, behind these
pub record IsNextPacket (how : Manner) (selection : Selection) (front more : List ℕ)
    (carriers : List Carrier) (next : Carrier) : Type 0 where
  pub before : IsCaptureOf how selection front carriers
  pub longer : IsCapture (front ++ more) (map (λ c. c.frame) (carriers ++ next ∷ []))
  pub behind : IsNext front more (map (λ c. c.frame) carriers)
  pub carries : IsCarrier next
  pub logged : IsLogged selection (first_behind None carriers) next.frame next.carried next.logged

-- a file is refused behind these packets, of a log of so many lines: by its first fault, where
-- the line of the next packet lacks its time, or that line, or the comment, would be one too many
pub data IsRefusedAt (how : Manner) (selection : Selection) (lines : ℕ) (b : List ℕ)
    (carriers : List Carrier) (code : RefusalCode) (at : ℕ) : Type 0 where
  fault : (fault : CaptureCode) → CaptureFault b (map (λ c. c.frame) carriers) fault at →
      AreCarriers how selection carriers → lines + line_count carriers ≤ MOST_LINES →
      code ≡ Capture fault → IsRefusedAt how selection lines b carriers code at
  packet : (front more rest : List ℕ) (next : Carrier) →
      IsNextPacket how selection front more carriers next → b ≡ (front ++ more) ++ rest →
      has_line next.logged ≡ true → HasTime how next → lines + line_count carriers ≡ MOST_LINES →
      at ≡ length front → code ≡ TooManyLines → IsRefusedAt how selection lines b carriers code at
  time : (front more rest : List ℕ) (next : Carrier) →
      IsNextPacket how selection front more carriers next → b ≡ (front ++ more) ++ rest →
      LacksTime how next → lines + line_count carriers ≤ MOST_LINES →
      at ≡ length front → code ≡ Time → IsRefusedAt how selection lines b carriers code at
  comment : IsCaptureOf how selection b carriers → lines + line_count carriers ≡ MOST_LINES →
      at ≡ length b →
      code ≡ TooManyLines → IsRefusedAt how selection lines b carriers code at

-- what a log has of the file of this number, behind so many lines, and, where the file is whole,
-- how many lines it then has
pub data FileText (how : Manner) (number lines : ℕ) (part : Part) (b text : List ℕ)
    (after : ℕ) (answer : Result Status RunError) : Type 0 where
  whole : (carriers : List Carrier) → IsCaptureOf how part.selection b carriers →
      after ≡ lines + line_count carriers + 1 → after ≤ MOST_LINES →
      text ≡ packet_lines how part.link carriers
      ++ comment_line number part.link (counts_of how carriers) (span_of carriers) →
      answer ≡ Ok (counted_status (counts_of how carriers)) →
      FileText how number lines part b text after answer
  refused : (carriers : List Carrier) (code : RefusalCode) (at : ℕ) →
      IsRefusedAt how part.selection lines b carriers code at →
      text ≡ packet_lines how part.link carriers ++ file_refusal_line number part.link code at →
      answer ≡ Ok Refused → FileText how number lines part b text after answer
  unread : (carriers : List Carrier) → BeginsWith how part.selection b carriers →
      lines + line_count carriers ≤ MOST_LINES →
      text ≡ packet_lines how part.link carriers ++ line (codes "failed: read") →
      answer ≡ Err Read → FileText how number lines part b text after answer
  memory : text ≡ line (codes "failed: memory") → answer ≡ Err Memory →
      FileText how number lines part b text after answer

-- what was to go out of a file where the sink failed: its text, or the lines of its first packets
pub data FileFront (how : Manner) (number lines : ℕ) (part : Part) (b text : List ℕ)
    : Type 0 where
  text : (after : ℕ) (answer : Result Status RunError) →
      FileText how number lines part b text after answer → FileFront how number lines part b text
  packets : (carriers : List Carrier) → BeginsWith how part.selection b carriers →
      lines + line_count carriers ≤ MOST_LINES → text ≡ packet_lines how part.link carriers →
      FileFront how number lines part b text

-- Done where both are Done
abbrev pub worse : Status → Status → Status
worse Done status = status
worse other status = other

-- a log after a file of this answer, with which it has so many lines
abbrev pub Follows : CaptureLog → CaptureLog → ℕ → Result Status RunError → Type 0
Follows before after lines (Ok Refused) = after ≡ before
Follows before after lines (Ok status) =
    (manner_of after ≡ manner_of before)
    × (files_of after ≡ files_of before + 1) × (lines_of after ≡ lines)
    × (status_of after ≡ worse (status_of before) status)
Follows before after lines (Err e) = after ≡ before

-- what a run leaves that adds a file to a log
pub record AddsFile
    {K : Type 0}
    (taken : K → Taken)
    (broken : K → Bool)
    (old new : K)
    (before after : CaptureLog)
    (part : Part)
    (b : List ℕ)
    (answer : Result Status RunError)
    : Type 0 where
  -- the text of the file went out, and nothing else
  pub text : answer ≢ Err Write →
      (text : List ℕ) × (lines : ℕ)
      × FileText (manner_of before) (files_of before + 1) (lines_of before) part b text
      lines answer
      × Took (taken old) (taken new) text × Follows before after lines answer
  -- the sink has failed, and a beginning went out
  pub write : answer ≡ Err Write →
      (broken new ≡ true)
      × ((text : List ℕ)
      × FileFront (manner_of before) (files_of before + 1) (lines_of before) part b text
      × Began (taken old) (taken new) text)
  -- every other answer leaves the sink's mark as it was
  pub sink : answer ≢ Err Write → broken new ≡ broken old
  -- an error leaves the log as it was
  pub kept : (e : RunError) → answer ≡ Err e → after ≡ before

-- what a run leaves where the source failed, which had given these bytes: the line of each packet
-- that is whole in them went out, unless they are too long for their offsets, and that the source
-- failed
pub record AddsUnread {K : Type 0} (taken : K → Taken) (old new : K) (how : Manner)
    (part : Part) (b : List ℕ) : Type 0 where
  pub carriers : List Carrier
  pub begins : BeginsWith how part.selection b carriers
  pub all : HasNoMore b (map (λ c. c.frame) carriers) ⊎ (2 ^ 64 ≤ length b + 2 ^ 32)
  pub text : Took (taken old) (taken new)
      (packet_lines how part.link carriers ++ line (codes "failed: read"))

-- ---- a log of files

-- a capture file: its link, which of its packets are that link's, and its bytes
pub record File : Type 0 where
  pub part : Part
  pub bytes : List ℕ

-- the log of these files, each of which is a capture: its text, how many lines it has, and its
-- status
pub data SoFar (how : Manner) : List File → List ℕ → ℕ → Status → Type 0 where
  none : SoFar how [] [] 0 Done
  more : (files : List File) (file : File) (text part : List ℕ) (lines after : ℕ)
      (before status : Status) → SoFar how files text lines before → status ≢ Refused →
      FileText how (length files + 1) lines file.part file.bytes part after (Ok status) →
      SoFar how (files ++ file ∷ []) (text ++ part) after (worse before status)

-- the log of these files: of all, or up to one that is refused or could not be read
pub data LogOf (how : Manner) (files : List File) (text : List ℕ)
    (answer : Result Status RunError) : Type 0 where
  all : (lines : ℕ) (status : Status) → SoFar how files text lines status → answer ≡ Ok status →
      LogOf how files text answer
  stopped : (before after : List File) (file : File) (front part : List ℕ) (lines more : ℕ)
      (status : Status) → SoFar how before front lines status →
      FileText how (length before + 1) lines file.part file.bytes part more answer →
      (answer ≡ Ok Refused) ⊎ (is_err answer ≡ true) →
      files ≡ before ++ file ∷ after → text ≡ front ++ part → LogOf how files text answer

-- a log has these files, each a capture, and this text
pub record IsLogOf (log : CaptureLog) (files : List File) (text : List ℕ) : Type 0 where
  pub count : files_of log ≡ length files
  pub so_far : SoFar (manner_of log) files text (lines_of log) (status_of log)

-- what became of a log by the last of these files: it has that one too, or ends with it
abbrev pub GoesOn : CaptureLog → List File → List ℕ → Result Status RunError → Type 0
GoesOn log files out (Ok Refused) = LogOf (manner_of log) files out (Ok Refused)
GoesOn log files out (Ok status) = IsLogOf log files out
GoesOn log files out (Err e) = LogOf (manner_of log) files out (Err e)

-- ---- the datagrams of files

-- this is a whole datagram, or none to 224.0.0.9
abbrev pub is_whole_one : Carried → Bool
is_whole_one (Datagram sender span) = true
is_whole_one Elsewhere = true
is_whole_one Others = true
is_whole_one _ = false

-- the same of what a log has
abbrev pub is_whole : Logged → Bool
is_whole logged = such is_whole_one logged

-- the datagram that a log has of a frame, with zeros for a password, and without its authentication
-- where that was asked for, as a record of a log has it
abbrev pub datagram_in : Authentication → List ℕ → List ℕ → Logged → List Captured
datagram_in how link frame (As (Datagram sender span)) = (record {
  link = link;
  sender = sender;
  datagram = logged_datagram how (slice_of frame span);
}) ∷ []
datagram_in how link frame _ = []

-- the name of its link is one, and its bytes are bytes
pub record IsFile (file : File) : Type 0 where
  pub name : IsName file.part.link
  pub bytes : AllByRecursion (λ b. b < 256) file.bytes

-- a packet comes from where the first one came
abbrev pub IsOfFirst : Option Frame → Frame → Type 0
IsOfFirst None p = ⊥
IsOfFirst (Some first) p = HaveOneOrigin first p

-- a packet is its link's: of the interface and the VLANs that are named, and from where the first
-- packet of these comes whose line names its sender
pub record IsOwn (selection : Selection) (first : Option Frame) (p : Frame) : Type 0 where
  pub interface : OfInterface selection.interface p
  pub vlans : OfVlans selection.vlans p
  pub origin : IsOfFirst first p

-- a file is a capture, each datagram of its link to 224.0.0.9 is there whole, and these are they,
-- in order
pub record HasDatagrams (how : Manner) (file : File) (captures : List Captured)
    : Type 0 where
  pub carriers : List Carrier
  pub capture : IsCaptureOf how file.part.selection file.bytes carriers
  pub whole : AllByRecursion (λ c. is_whole c.logged ≡ true) carriers
  pub own : AllByRecursion (λ c. such is_datagram c.logged ≡ true →
      IsOwn file.part.selection (first_behind None carriers) c.frame) carriers
  pub datagrams : captures ≡ flat_map
      (λ c. datagram_in how.authentication file.part.link c.frame.bytes c.logged) carriers

-- the same of files, one after the other
abbrev pub HaveDatagrams : Manner → List File → List Captured → Type 0
HaveDatagrams how [] captures = captures ≡ []
HaveDatagrams how (file ∷ files) captures =
    (first rest : List Captured) × HasDatagrams how file first × HaveDatagrams how files rest
    × (captures ≡ first ++ rest)

-- ---- what a log says

-- what a log answers so far, behind a file of this answer
abbrev pub answer_so_far : CaptureLog → Result Status RunError → Result Status RunError
answer_so_far log (Ok Refused) = Ok Refused
answer_so_far log (Ok status) = Ok (status_of log)
answer_so_far log (Err e) = Err e

-- a text was written of these files, with this answer so far: it ends a line; and where it is
-- without times, and no line of it is bad, the answer is Done, each file is a capture, and the
-- records are just their datagrams
pub record SaysFiles (how : Manner) (files : List File) (text : List ℕ)
    (answer : Result Status RunError) : Type 0 where
  pub ends : EndsLine text
  pub says : how.times ≡ false → AllByRecursion IsFile files → (records : List Numbered) →
      LogText text records
      → (answer ≡ Ok Done) × HaveDatagrams how files (map (λ r. r.capture) records)
