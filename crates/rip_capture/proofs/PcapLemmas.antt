-- Headers and records at the front of bytes.
use Rattle.std.proofs.Common.{◌≡◌, ◌⊎◌, ◌+◌, ◌*◌, ◌%◌, ◌^◌, ◌<◌, ◌≤◌, ◌∙◌, ℕ, Bool, true, List, [], ◌∷◌, ◌++◌, Option, Some, None, Result, Ok, Err, inl, length, take, drop, ap, sym, refl, inr, subst, arith, append_assoc, append-nil}
use Rattle.std.proofs.lemmas.List.{length-drop, length-take}
use Rattle.std.specs.Prelude.{MatchOption, ok_or, ◌==◌, if◌then◌else◌}
use Rattle.rip_capture.specs.Captures.{HasMagic}
use Rattle.rip_capture.specs.Captures.FrontFault.{magic as no_magic, pcap, short as too_short}
use Rattle.rip_log.specs.Feeds.{held}
use Rattle.rip_capture.specs.Feeds.{IsShort}
use Rattle.rip_capture.specs.Finds.{FindsHeader, FindsMagic, FindsRecord, IsMagicOf, ReadsHeader}
use Rattle.rip_capture.specs.LinkTypes.{number_of}
use Rattle.rip_capture.specs.Numbers.{number_in}
use Rattle.rip_capture.specs.Pcap.{AreRecords, Frame, HoldsRecord, IsMagic, IsPcap, IsPcapHeader, IsRecord, IsVersion, captured_len, frame_in, link_number, record_time, resolution_in}
use Rattle.rip_capture.specs.Pcap.HeaderFault.{cut as cut_header, version, link_type}
use Rattle.rip_capture.specs.Pcap.RecordFault.{header as cut_record, packet as cut_packet}
use Rattle.rip_capture.proofs.FeedLemmas.{Extends-take}
use Rattle.rip_capture.proofs.NumberLemmas.{magic-front, number-stays, version-front}
use Rattle.rip_capture.specs.declared.error.CaptureCode.{CaptureCode}
use Rattle.rip_capture.specs.declared.error.CaptureCode.TheVariants.{Magic, Cut, Version, LinkType as NoLinkType, Length, Interface, OldPacket, Read}
use Rattle.rip_log.specs.declared.feed.Feed.{Feed}
use Rattle.rip_capture.specs.declared.pcap.Framing.{Framing}
use Rattle.rip_capture.specs.declared.magic.Magic.{Magic as Magic'}
use Rattle.rip_capture.specs.declared.numbers.Order.{Order}
use Rattle.rip_capture.specs.declared.pcap.PcapHeader.{PcapHeader}
use Rattle.rip_capture.specs.declared.time.Time.{Time}

-- the unit of a magic
abbrev unit_of : ℕ → ℕ
unit_of n = if n == 0xA1B23C4D then 9 else 6

-- a header at the front
pub header-front : (order : Order) (t : Framing) (b : List ℕ) → 24 ≤ length b → IsMagic order b → IsVersion order b → number_of t.link_type ≡ link_number order b → t.resolution ≡ resolution_in order b →
    IsPcapHeader (take 24 b) order t
header-front order t b room magic v link unit =
    let front = take 24 b in
    let size : length front ≡ 24 = length-take 24 b ∙ omega (arith, room) in
    let on = Extends-take 24 b in
    record {
      size = size;
      magic = magic-front order front b (omega (arith, size)) on magic;
      version = version-front order front b (omega (arith, size)) on v;
      link = link ∙ ap (λ (n : ℕ). n % 2 ^ 26) (number-stays order 20 front b (omega (arith, size)) on);
      unit = unit ∙ ap unit_of (number-stays order 0 front b (omega (arith, size)) on);
    }

-- ---- where a source has failed, or has ended, before enough was held

pub FindsMagic-short : (b : List ℕ) (at_end : Bool) (code : CaptureCode) → IsShort 4 b at_end code → FindsMagic b at_end (Err code)
FindsMagic-short b at_end code (less, inl read) = inl read
FindsMagic-short b at_end code (less, inr cut) = inr (too_short less cut.0, λ e. cut.1)

pub FindsHeader-short : (order : Order) (b : List ℕ) (at_end : Bool) (code : CaptureCode) → 4 ≤ length b → IsMagic order b → IsShort 24 b at_end code → FindsHeader b at_end (Err code)
FindsHeader-short order b at_end code begun magic (less, inl read) = inl read
FindsHeader-short order b at_end code begun magic (less, inr e) = inr (pcap order begun magic (cut_header less e.0), λ _. e.1)

-- within a record's header, and within its packet
pub FindsRecord-begun : (order : Order) (b : List ℕ) (at_end : Bool) (code : CaptureCode) → (code ≡ Cut → 0 < length b) → IsShort 16 b at_end code → FindsRecord order b at_end (Err code)
FindsRecord-begun order b at_end code begun (less, inl read) = inl read
FindsRecord-begun order b at_end code begun (less, inr e) = inr (cut_record (begun e.0) less e.0, λ _. e.1)

pub FindsRecord-short : (order : Order) (b : List ℕ) (at_end : Bool) (code : CaptureCode) → 16 ≤ length b → captured_len order b ≤ 262144 → length b < 16 + captured_len order b
    → (code ≡ Read) ⊎ ((code ≡ Cut) × (at_end ≡ true)) → FindsRecord order b at_end (Err code)
FindsRecord-short order b at_end code room few less (inl read) = inl read
FindsRecord-short order b at_end code room few less (inr e) = inr (cut_packet room few less e.0, λ _. e.1)

-- ---- what is said behind the first four bytes

-- the first four bytes tell what kind of file it is
pub FindsMagic-of : (b : List ℕ) (at_end : Bool) (r : Option Magic') → 4 ≤ length b → MatchOption r (¬ HasMagic b) (λ magic. IsMagicOf b magic) → FindsMagic b at_end (ok_or r Magic)
FindsMagic-of b at_end (Some m) room is = (room, is)
FindsMagic-of b at_end None room is = inr (no_magic room is refl, λ e. cc e)

-- what a header says behind its first four bytes is what is found
pub FindsHeader-read : (order : Order) (b : List ℕ) (at_end : Bool) (r : Result PcapHeader CaptureCode) → 24 ≤ length b → IsMagic order b → ReadsHeader order b r → FindsHeader b at_end r
FindsHeader-read order b at_end (Ok h) room magic reads =
    (room, subst (λ (o : Order). IsPcapHeader (take 24 b) o h.framing) (sym reads.0) (header-front order h.framing b room magic reads.1 reads.2 reads.3))
FindsHeader-read order b at_end (Err Version) room magic reads =
    inr (pcap order (omega (arith, room)) magic (version room reads refl), λ e. cc e)
FindsHeader-read order b at_end (Err NoLinkType) room magic reads =
    inr (pcap order (omega (arith, room)) magic (link_type room reads.0 reads.1 refl), λ e. cc e)
FindsHeader-read order b at_end (Err Magic) room magic reads = absurd reads
FindsHeader-read order b at_end (Err Cut) room magic reads = absurd reads
FindsHeader-read order b at_end (Err Length) room magic reads = absurd reads
FindsHeader-read order b at_end (Err Interface) room magic reads = absurd reads
FindsHeader-read order b at_end (Err OldPacket) room magic reads = absurd reads
FindsHeader-read order b at_end (Err Read) room magic reads = absurd reads

-- the first record of bytes
pub record-of : (order : Order) (t : Framing) (b : List ℕ) (n : ℕ) → 16 + n ≤ length b → captured_len order b ≡ n → n ≤ 262144
    → IsRecord order t (take (16 + n) b) (frame_in order t (take (16 + n) b))
record-of order t b n inside is few =
    let front = take (16 + n) b in
    let long : length front ≡ 16 + n = length-take (16 + n) b ∙ omega (arith, inside) in
    let same : number_in order 8 b ≡ number_in order 8 front = number-stays order 8 front b (omega (arith, long)) (Extends-take (16 + n) b) in
    let size : length (drop 16 front) ≡ n = length-drop 16 front ∙ omega (arith, long) in
    record {
      header = omega (arith, long);
      frame_is = refl;
      captured = sym same ∙ is ∙ sym size;
      few = omega (arith, sym same ∙ is, few);
    }

-- a record more
AreRecords-snoc : (order : Order) (t : Framing) (b more : List ℕ) (frame : Frame) (frames : List Frame) → AreRecords order t b frames → IsRecord order t more frame →
    AreRecords order t (b ++ more) (frames ++ frame ∷ [])
AreRecords-snoc order t b more frame [] none is = (more, [], is, refl, ap (λ l. l ++ more) none ∙ sym (append-nil more))
AreRecords-snoc order t b more frame (f ∷ frames) h is =
    (h.0, h.1 ++ more, h.2, AreRecords-snoc order t h.1 more frame frames h.3 is, ap (λ l. l ++ more) h.4 ∙ append_assoc h.0 h.1 more)

pub IsPcap-snoc : (order : Order) (t : Framing) (b more : List ℕ) (frame : Frame) (frames : List Frame) → IsPcap b order t frames → IsRecord order t more frame →
    IsPcap (b ++ more) order t (frames ++ frame ∷ [])
IsPcap-snoc order t b more frame frames p is = record {
  header = p.header;
  records = p.records ++ more;
  is_header = p.is_header;
  are_records = AreRecords-snoc order t p.records more frame frames p.are_records is;
  whole = ap (λ l. l ++ more) p.whole ∙ append_assoc p.header p.records more;
}

-- a header alone
pub IsPcap-none : (order : Order) (t : Framing) (header : List ℕ) → IsPcapHeader header order t → IsPcap header order t []
IsPcap-none order t header is = record {
  header = header;
  records = [];
  is_header = is;
  are_records = refl;
  whole = sym (append-nil header);
}

-- a second step that needs nothing where a whole record is held
pub ready-on : {R : Type 0} (order : Order) (old first second : Feed R) (now : List ℕ) (n : ℕ) → HoldsRecord order (held old) → first ≡ old → now ≡ held first → n ≡ number_in order 8 now →
    (16 + n ≤ length (held first) → second ≡ first) → second ≡ old
ready-on {R = R} order old first second now n holds is now_is n_is next =
    let same = ap (λ (f : Feed R). held f) is in
    let size = n_is ∙ ap (number_in order 8) (now_is ∙ same) in
    next (omega (arith, size, ap length same, holds.packet)) ∙ is

-- the time of a record is told by its first bytes
pub time-front : (order : Order) (resolution : ℕ) (b : List ℕ) (n : ℕ) → 16 + n ≤ length b → record_time order resolution b ≡ record_time order resolution (take (16 + n) b)
time-front order resolution b n inside =
    let front = take (16 + n) b in
    let long : length front ≡ 16 + n = length-take (16 + n) b ∙ omega (arith, inside) in
    let on = Extends-take (16 + n) b in
    let made : ℕ → ℕ → Time = λ seconds more. record { ticks = seconds * (if resolution == 9 then 1000000000 else 1000000) + more; resolution = resolution; offset = 0 } in
    ap (λ s. made s (number_in order 4 b)) (number-stays order 0 front b (omega (arith, long)) on) ∙ ap (made (number_in order 0 front)) (number-stays order 4 front b (omega (arith, long)) on)
