-- What the parts of a run leave that adds a file to a log.
use Rattle.std.specs.Prelude.{◌≡◌, ◌≢◌, ◌⊎◌, ℕ, ◌+◌, ◌<◌, ◌≤◌, ◌++◌, ◌==◌, if◌then◌else◌, Bool, true, false, List, length, map, codes, Option, Some, None, Result, Ok, Err}
use Rattle.rip_log.specs.declared.limits.TheConstants.{MOST_LINES}
use Rattle.rip_log.specs.Wholes.{Went}
use Rattle.rip_capture.specs.Codes.{is_read}
use Rattle.rip_capture.specs.NextCall.{EndsHere, IsFar, Stands, StopsAt, TakesPacket, position_of, source_of}
use Rattle.rip_capture.specs.Pcap.{Frame}
use Rattle.rip_capture.specs.declared.error.CaptureError.{CaptureError}
use Rattle.rip_capture.specs.declared.reader.CaptureReader.{CaptureReader}
use Rattle.rip_report.specs.CaptureText.{AreCarriers, HasTime, LacksTime, comment_line, counted, counted_status, counts_of, file_refusal_line, has_line, is_timed, line_count, logged_line, omitted_of, one, packet_lines}
use Rattle.rip_report.specs.LineTimes.{AreShown, IsShown, IsTimed, noted_span, span_of, time_part}
use Rattle.rip_log.specs.declared.time.date_time.DateTime.{DateTime}
use Rattle.rip_report.specs.Selections.{Carrier, IsCarrier, IsLogged, Part, Selection, first_behind, first_with}
use Rattle.rip_capture.specs.Origins.{IsOrigin, Origin}
use Rattle.rip_report.specs.CaptureLogs.{Follows}
use Rattle.rip_report.specs.Finished.{EndsWith}
use Rattle.rip_log.specs.Taken.{Taken}
use Rattle.rip_report.specs.Outs.{Adds, IsOnItsWay, Progress}
use Rattle.rip_report.specs.Sent.{Began, SinkState}
use Rattle.rip_report.specs.Written.{line}
use Rattle.rip_report.specs.declared.captures.manner.Manner.{Manner}
use Rattle.rip_report.specs.declared.captures.ending.RefusalCode.{RefusalCode}
use Rattle.rip_report.specs.declared.captures.ending.Ending.{Ending}
use Rattle.rip_report.specs.declared.captures.ending.Ending.TheVariants.{Whole, Refused, Unread, Unwritten}
use Rattle.rip_report.specs.declared.captures.ending.RefusalCode.TheVariants.{Capture, Time, TooManyLines}
use Rattle.rip_report.specs.declared.captures.log.CaptureLog.{CaptureLog}
use Rattle.rip_report.specs.declared.captures.tally.Tally.{Tally}
use Rattle.rip_report.specs.declared.status.RunError.{RunError}
use Rattle.rip_report.specs.declared.status.RunError.TheVariants.{Read, Write}
use Rattle.rip_report.specs.declared.status.Status.{Status}
use Rattle.rip_report.specs.declared.status.Status.TheVariants.{Refused as RefusedFile}

-- what is kept of the first packet whose line names its sender
abbrev pub KeepsFirst : Option Frame → Option Origin → Type 0
KeepsFirst None kept = kept ≡ None
KeepsFirst (Some first) kept = (origin : Origin) × (kept ≡ Some origin) × IsOrigin first origin

-- a packet was counted, of which a log has this, and its line added
pub record CountsPacket (how : Manner) (link : List ℕ) (c : Carrier) (old new : Tally)
    (before after : Progress) : Type 0 where
  pub counts : new.counts
      ≡ counted old.counts c.logged (omitted_of how.authentication c.frame.bytes c.logged)
  pub lines : new.lines ≡ old.lines + one (has_line c.logged)
  pub few : new.lines ≤ MOST_LINES
  pub timed : IsTimed (is_timed how c.logged) c.frame c.time
  pub micros : Option ℕ
  pub shown : IsShown micros c.time
  pub span : new.span ≡ noted_span old.span micros
  pub adds : Adds before after
      (time_part c.time ++ logged_line how.authentication link c.frame.bytes c.logged)

-- nothing was added
pub record AddsNothing (old new : Tally) (before after : Progress) : Type 0 where
  pub tally : new ≡ old
  pub text : after ≡ before

-- there was no room for the line of a packet
pub record LacksRoom (how : Manner) (c : Carrier) (old : Tally) : Type 0 where
  pub line : has_line c.logged ≡ true
  pub many : old.lines ≡ MOST_LINES
  pub time : HasTime how c

-- what logging a packet leaves: where it answers Ok, the packet was counted
abbrev pub LogsSo : Manner → List ℕ → Carrier → Tally → Tally → Progress → Progress →
    Result (Unit {0}) RefusalCode → Type 0
LogsSo how link c old new before after (Ok done) = CountsPacket how link c old new before after
LogsSo how link c old new before after (Err TooManyLines) =
    AddsNothing old new before after × LacksRoom how c old
LogsSo how link c old new before after (Err Time) =
    AddsNothing old new before after × LacksTime how c
LogsSo how link c old new before after (Err (Capture code)) = ⊥

-- what logging a packet leaves, and answers, where that is the first one whose line names its
-- sender
pub record LogsPacket (how : Manner) (part : Part) (first : Option Frame) (frame : Frame)
    (kept : Option Origin) (old new : Tally) (before after : Progress)
    (result : Result (Unit {0}) RefusalCode) : Type 0 where
  pub carrier : Carrier
  pub frame_is : carrier.frame ≡ frame
  pub carries : IsCarrier carrier
  pub logged : IsLogged part.selection first carrier.frame carrier.carried carrier.logged
  pub keeps : KeepsFirst (first_with first carrier.frame carrier.logged) kept
  pub logs : LogsSo how part.link carrier old new before after result

-- how the reading of a file ends at an error
abbrev pub ended_by : CaptureError → Ending
ended_by e = if is_read e.code then Unread else Refused (Capture e.code) e.at

-- how the reading of a file ends at its end, after so many bytes
abbrev pub ended_at : Tally → ℕ → Ending
ended_at tally at = if tally.lines == MOST_LINES then Refused TooManyLines at else Whole tally

-- how the reading of a file ends, behind these packets
abbrev pub EndsSo : {R : Type 0} → (R → List ℕ) → (R → Bool) → Manner → Selection → List ℕ →
    ℕ → List Carrier → CaptureReader R → Progress → Ending → Type 0
EndsSo given at_end how selection before lines carriers new text (Whole tally) =
    EndsHere given at_end before (map (λ c. c.frame) carriers) new
    × (tally.counts ≡ counts_of how carriers) × (tally.lines ≡ lines + line_count carriers)
    × (tally.lines < MOST_LINES) × AreShown tally.span (span_of carriers)
EndsSo given at_end how selection before lines carriers new text (Refused (Capture code) at) =
    StopsAt given at_end before (map (λ c. c.frame) carriers) (record { code = code; at = at }) new
    × (is_read code ≡ false)
EndsSo given at_end how selection before lines carriers new text (Refused TooManyLines at) =
    (lines + line_count carriers ≡ MOST_LINES)
    × (((next : Carrier) × IsCarrier next
    × IsLogged selection (first_behind None carriers) next.frame next.carried next.logged
    × TakesPacket given before (map (λ c. c.frame) carriers) next.frame at new
    × (has_line next.logged ≡ true) × HasTime how next)
    ⊎ (EndsHere given at_end before (map (λ c. c.frame) carriers) new × (at ≡ position_of new)))
EndsSo given at_end how selection before lines carriers new text (Refused Time at) =
    (next : Carrier) × IsCarrier next
    × IsLogged selection (first_behind None carriers) next.frame next.carried next.logged
    × TakesPacket given before (map (λ c. c.frame) carriers) next.frame at new
    × LacksTime how next
EndsSo given at_end how selection before lines carriers new text Unread =
    (error : CaptureError) × StopsAt given at_end before (map (λ c. c.frame) carriers) error new
    × (is_read error.code ≡ true)
EndsSo given at_end how selection before lines carriers new text Unwritten =
    (text.failed ≡ true)
    × ((taken : List ℕ) × Stands given before new taken (map (λ c. c.frame) carriers))

-- behind the lines of all packets, or of all but the last, no write had failed
pub record FailsAtLast {K : Type 0} (taken : K → Taken) (failed : K → Bool) (how : Manner)
    (link : List ℕ) (carriers : List Carrier) (before : Progress) : Type 0 where
  pub front : List Carrier
  pub last : List Carrier
  pub split : carriers ≡ front ++ last
  pub few : length last ≤ 1
  pub way : IsOnItsWay taken failed before.start (before.text ++ packet_lines how link front)

-- what logging the packets of a file leaves, and answers
pub record LogsPackets {K R : Type 0} (taken : K → Taken) (failed : K → Bool)
    (given : R → List ℕ) (coming : R → Option (List ℕ)) (broken at_end : R → Bool)
    (how : Manner) (part : Part) (lines : ℕ) (old new : CaptureReader R)
    (before after : Progress) (ending : Ending) : Type 0 where
  pub carriers : List Carrier
  pub are : AreCarriers how part.selection carriers
  pub few : lines + line_count carriers ≤ MOST_LINES
  pub adds : Adds before after (packet_lines how part.link carriers)
  pub ends : EndsSo given at_end how part.selection (given (source_of old)) lines carriers new after
      ending
  pub went : Went given coming at_end (source_of old) (source_of new)
  pub unread : ending ≡ Unread → (broken (source_of new) ≡ true) ⊎ IsFar new
  pub marks : ending ≢ Unread → broken (source_of new) ≡ broken (source_of old)
  -- where the sink fails, the reading ends at the packet whose line it failed at, or before another
  pub stops : before.failed ≡ false → IsOnItsWay taken failed before.start before.text →
      after.failed ≡ true →
      (ending ≡ Unwritten) × FailsAtLast taken failed how part.link carriers before

-- ---- the end of a run

-- what the last line of a file leaves, behind the text of its packets
abbrev pub ClosesFile : SinkState → SinkState → CaptureLog → CaptureLog → List ℕ → List ℕ → Ending →
    Result Status RunError → Type 0
ClosesFile old new before after link text (Whole tally) result =
    ((span : Option (DateTime × DateTime)) → AreShown tally.span span →
    EndsWith old new (text ++ comment_line (before.files + 1) link tally.counts span)
    (Ok (counted_status tally.counts)) result)
    × (result ≢ Err Write → result ≡ Ok (counted_status tally.counts))
    × Follows before after (tally.lines + 1) result
ClosesFile old new before after link text (Refused code at) result =
    EndsWith old new (text ++ file_refusal_line (before.files + 1) link code at)
    (Ok RefusedFile) result × (after ≡ before)
ClosesFile old new before after link text Unread result =
    EndsWith old new (text ++ line (codes "failed: read")) (Err Read) result × (after ≡ before)
ClosesFile old new before after link text Unwritten result =
    (result ≡ Err Write) × (new.broken ≡ true) × Began old.taken new.taken text × (after ≡ before)
