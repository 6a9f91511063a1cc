-- The lines that `log` prints of the packets of a capture file.
use Rattle.std.specs.Prelude.{◌≡◌, ℕ, ◌+◌, ◌<◌, ◌≤◌, ◌^◌, ◌==◌, ◌&&◌, ◌||◌, if◌then◌else◌, Bool, true, false, List, [], ◌++◌, length, map, count_by, flat_map, codes, decimal, Option, None}
use Rattle.std.specs.List.{AllByRecursion}
use Rattle.hex.specs.Hex.{encode_lower}
use Rattle.rip_wire.specs.Address.{address_text}
use Rattle.rip_capture.specs.Captures.{IsCapture}
use Rattle.rip_capture.specs.Carries.{LiesWithin}
use Rattle.rip_log.specs.Spans.{slice_of}
use Rattle.rip_capture.specs.declared.error.CaptureCode.TheVariants as capture
use Rattle.rip_capture.specs.declared.packet.Carried.{Carried}
use Rattle.rip_capture.specs.declared.packet.Carried.TheVariants.{Datagram, Cut, Fragment, Malformed, Long, Unknown, Elsewhere, Others}
use Rattle.rip_report.specs.LeftOut.{count_part}
use Rattle.rip_report.specs.LineTimes.{HasMicros, IsTimed, span_part, time_part}
use Rattle.rip_report.specs.Selections.{AreLogged, Carrier, IsCarrier, Selection}
use Rattle.rip_log.specs.declared.time.date_time.DateTime.{DateTime}
use Rattle.rip_report.specs.LoggedDatagrams.{logged_datagram, nothing_omitted, omitted_from}
use Rattle.rip_report.specs.Written.{line}
use Rattle.rip_report.specs.declared.captures.authentication.Authentication.{Authentication}
use Rattle.rip_report.specs.declared.captures.authentication.Omitted.{Omitted}
use Rattle.rip_report.specs.declared.captures.manner.Manner.{Manner}
use Rattle.rip_report.specs.declared.captures.counts.PacketCounts.{PacketCounts}
use Rattle.rip_report.specs.declared.captures.logged.Logged.{Logged}
use Rattle.rip_report.specs.declared.captures.logged.Logged.TheVariants.{As, Mixed}
use Rattle.rip_report.specs.declared.captures.ending.RefusalCode.{RefusalCode}
use Rattle.rip_report.specs.declared.captures.ending.RefusalCode.TheVariants.{Capture, Time, TooManyLines}
use Rattle.rip_report.specs.declared.status.Status.{Status}
use Rattle.rip_report.specs.declared.status.Status.TheVariants.{Done, Unclear}

-- ---- the line of a packet

-- `a 10.1.0.1 `, the link and the sender of a datagram
abbrev pub sender_part : List ℕ → ℕ → List ℕ
sender_part link sender = link ++ codes " " ++ address_text sender ++ codes " "

-- the line of what a frame carries, or nothing
unfoldable pub carried_line : Authentication → List ℕ → List ℕ → Carried → List ℕ
carried_line how link frame (Datagram sender span) =
    line (sender_part link sender ++ encode_lower (logged_datagram how (slice_of frame span)))
carried_line how link frame (Cut sender) = line (sender_part link sender ++ codes "cut")
carried_line how link frame (Fragment sender) = line (sender_part link sender ++ codes "fragment")
carried_line how link frame (Malformed sender) = line (sender_part link sender ++ codes "malformed")
carried_line how link frame (Long sender) = line (sender_part link sender ++ codes "long")
carried_line how link frame Unknown = line (link ++ codes " unknown cut")
carried_line how link frame Elsewhere = []
carried_line how link frame Others = []

-- the line of what a log has of a packet
abbrev pub logged_line : Authentication → List ℕ → List ℕ → Logged → List ℕ
logged_line how link frame (As carried) = carried_line how link frame carried
logged_line how link frame (Mixed sender) = line (sender_part link sender ++ codes "mixed")

-- the lines of packets, in order
abbrev pub packet_lines : Manner → List ℕ → List Carrier → List ℕ
packet_lines how link carriers = flat_map
    (λ c. time_part c.time ++ logged_line how.authentication link c.frame.bytes c.logged) carriers

-- ---- how many packets there are of each kind

-- a datagram that is there whole
abbrev pub is_datagram : Carried → Bool
is_datagram (Datagram sender span) = true
is_datagram _ = false

-- the capture lacks the end, or the headers that would tell
abbrev pub is_cut : Carried → Bool
is_cut (Cut sender) = true
is_cut Unknown = true
is_cut _ = false

abbrev pub is_fragment : Carried → Bool
is_fragment (Fragment sender) = true
is_fragment _ = false

abbrev pub is_malformed : Carried → Bool
is_malformed (Malformed sender) = true
is_malformed _ = false

abbrev pub is_long : Carried → Bool
is_long (Long sender) = true
is_long _ = false

-- RIP to another address, or from another port
abbrev pub is_elsewhere : Carried → Bool
is_elsewhere Elsewhere = true
is_elsewhere _ = false

abbrev pub is_other : Carried → Bool
is_other Others = true
is_other _ = false

-- it has a line
abbrev pub is_told : Carried → Bool
is_told Elsewhere = false
is_told Others = false
is_told _ = true

-- a log has such a thing of a packet
abbrev pub such : (Carried → Bool) → Logged → Bool
such is_such (As carried) = is_such carried
such is_such (Mixed sender) = false

-- a log has that it comes from elsewhere
abbrev pub is_mixed : Logged → Bool
is_mixed (As carried) = false
is_mixed (Mixed sender) = true

-- what is left out of the datagram that a log has of a frame
abbrev pub omitted_of : Authentication → List ℕ → Logged → Omitted
omitted_of how frame (As (Datagram sender span)) = omitted_from how (slice_of frame span)
omitted_of how frame _ = nothing_omitted

-- the packet has a line
abbrev pub has_line : Logged → Bool
has_line logged = such is_told logged || is_mixed logged

-- a packet has a line, which begins with a time
abbrev pub is_timed : Manner → Logged → Bool
is_timed how logged = how.times && has_line logged

-- a packet has a time, where its line has to begin with one
abbrev pub HasTime : Manner → Carrier → Type 0
HasTime how c = is_timed how c.logged ≡ true → (micros : ℕ) × HasMicros c.frame micros

-- its line has to begin with one, and it has none
pub record LacksTime (how : Manner) (c : Carrier) : Type 0 where
  pub asked : is_timed how c.logged ≡ true
  pub none : (micros : ℕ) → ¬ HasMicros c.frame micros

-- these are packets of a file from its first one on, of which a log has that
pub record AreCarriers (how : Manner) (selection : Selection) (carriers : List Carrier)
    : Type 0 where
  pub carry : AllByRecursion IsCarrier carriers
  pub logged : AreLogged selection None carriers
  pub timed : AllByRecursion (λ c. IsTimed (is_timed how c.logged) c.frame c.time) carriers

-- these bytes are a capture, up to here, of these packets
pub record IsCaptureOf (how : Manner) (selection : Selection) (b : List ℕ) (carriers : List Carrier)
    : Type 0 where
  pub capture : IsCapture b (map (λ c. c.frame) carriers)
  pub are : AreCarriers how selection carriers

-- a datagram of which a log has a line lies within so many bytes of its frame
abbrev pub LogLiesWithin : ℕ → Logged → Type 0
LogLiesWithin size (As carried) = LiesWithin size carried
LogLiesWithin size (Mixed sender) = Unit {0}

-- of how many of the packets a log has such a thing
abbrev pub count_of : (Carried → Bool) → List Carrier → ℕ
count_of is_such carriers = count_by (λ c. such is_such c.logged) carriers

-- how many of them come from elsewhere
abbrev pub mixed_count : List Carrier → ℕ
mixed_count carriers = count_by (λ c. is_mixed c.logged) carriers

-- the lines of the packets
abbrev pub line_count : List Carrier → ℕ
line_count carriers = count_by (λ c. has_line c.logged) carriers

-- the packets, counted by what they carry
abbrev pub counts_of : Manner → List Carrier → PacketCounts
counts_of how carriers = record {
  packets = length carriers;
  datagrams = count_of is_datagram carriers;
  cut = count_of is_cut carriers;
  fragments = count_of is_fragment carriers;
  malformed = count_of is_malformed carriers;
  long = count_of is_long carriers;
  mixed = mixed_count carriers;
  passwords = count_by
      (λ c. (omitted_of how.authentication c.frame.bytes c.logged).password) carriers;
  without_authentication = count_by
      (λ c. (omitted_of how.authentication c.frame.bytes c.logged).authentication) carriers;
  elsewhere = count_of is_elsewhere carriers;
  others = count_of is_other carriers;
}

-- 1 where it holds
abbrev pub one : Bool → ℕ
one b = if b then 1 else 0

-- a packet more was counted, of which a log has this, and of whose datagram that is left out
abbrev pub counted : PacketCounts → Logged → Omitted → PacketCounts
counted n logged omitted = record {
  packets = n.packets + 1;
  datagrams = n.datagrams + one (such is_datagram logged);
  cut = n.cut + one (such is_cut logged);
  fragments = n.fragments + one (such is_fragment logged);
  malformed = n.malformed + one (such is_malformed logged);
  long = n.long + one (such is_long logged);
  mixed = n.mixed + one (is_mixed logged);
  passwords = n.passwords + one omitted.password;
  without_authentication = n.without_authentication + one omitted.authentication;
  elsewhere = n.elsewhere + one (such is_elsewhere logged);
  others = n.others + one (such is_other logged);
}

-- there is room for a packet more, and no count is above that of the packets
pub record HasRoom (n : PacketCounts) : Type 0 where
  pub packets : n.packets + 1 < 2 ^ 64
  pub datagrams : n.datagrams ≤ n.packets
  pub cut : n.cut ≤ n.packets
  pub fragments : n.fragments ≤ n.packets
  pub malformed : n.malformed ≤ n.packets
  pub long : n.long ≤ n.packets
  pub mixed : n.mixed ≤ n.packets
  pub passwords : n.passwords ≤ n.packets
  pub without_authentication : n.without_authentication ≤ n.packets
  pub elsewhere : n.elsewhere ≤ n.packets
  pub others : n.others ≤ n.packets

-- Done where each datagram is there whole and none is mixed in, else Unclear
abbrev pub counted_status : PacketCounts → Status
counted_status n =
    if n.cut == 0
    && (n.fragments == 0 && (n.malformed == 0 && (n.long == 0 && n.mixed == 0)))
    then Done
    else Unclear

-- ---- the last line of a file

-- `file 1 link a`
abbrev pub file_part : ℕ → List ℕ → List ℕ
file_part number link = codes "file " ++ decimal number ++ codes " link " ++ link

-- `# file 1 link a: 14 packets, 1 datagrams`
unfoldable pub comment_front : ℕ → List ℕ → PacketCounts → List ℕ
comment_front number link n =
    codes "# " ++ file_part number link ++ codes ": " ++ decimal n.packets ++ codes " packets, "
    ++ decimal n.datagrams ++ codes " datagrams"

-- `, 1 cut, 2 long, 3 mixed`: the datagrams that are not there whole, or mixed in, where there are
-- any
unfoldable pub lacking_part : PacketCounts → List ℕ
lacking_part n =
    count_part (codes ", ") n.cut (codes " cut")
    ++ count_part (codes ", ") n.fragments (codes " fragments")
    ++ count_part (codes ", ") n.malformed (codes " malformed")
    ++ count_part (codes ", ") n.long (codes " long")
    ++ count_part (codes ", ") n.mixed (codes " mixed")

-- `, 1 passwords, 12 others`: the other counts, where they are not 0
unfoldable pub other_part : PacketCounts → List ℕ
other_part n =
    count_part (codes ", ") n.passwords (codes " passwords")
    ++ count_part (codes ", ") n.without_authentication (codes " without authentication")
    ++ count_part (codes ", ") n.elsewhere (codes " elsewhere")
    ++ count_part (codes ", ") n.others (codes " others")

-- the comment behind the lines of a file
abbrev pub comment_line : ℕ → List ℕ → PacketCounts → Option (DateTime × DateTime) → List ℕ
comment_line number link n span =
    line (comment_front number link n ++ (lacking_part n ++ (other_part n ++ span_part span)))

-- the number and the word of a code; of a source that failed it is never printed
unfoldable pub refusal_code_text : RefusalCode → List ℕ
refusal_code_text (Capture capture.Magic) = codes "1 Magic"
refusal_code_text (Capture capture.Cut) = codes "2 Cut"
refusal_code_text (Capture capture.Version) = codes "3 Version"
refusal_code_text (Capture capture.LinkType) = codes "4 LinkType"
refusal_code_text (Capture capture.Length) = codes "5 Length"
refusal_code_text (Capture capture.Interface) = codes "6 Interface"
refusal_code_text (Capture capture.OldPacket) = codes "7 OldPacket"
refusal_code_text (Capture capture.Read) = codes "Read"
refusal_code_text TooManyLines = codes "8 TooManyLines"
refusal_code_text Time = codes "9 Time"

-- `refused: file 1 link a: 2 Cut at 0`
unfoldable pub file_refusal_line : ℕ → List ℕ → RefusalCode → ℕ → List ℕ
file_refusal_line number link code at =
    line (codes "refused: " ++ file_part number link ++ codes ": " ++ refusal_code_text code
    ++ codes " at " ++ decimal at)
