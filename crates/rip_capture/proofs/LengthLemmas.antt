-- No packet has more bytes than a file may have of one.
use Rattle.std.proofs.Common.{◌≤◌, ◌+◌, ◌-◌, ℕ, List, [], ◌∷◌, Option, Some, None, ap, arith, drop, length, subst, sym}
use Rattle.std.specs.List.{AllByRecursion}
use Rattle.std.proofs.lemmas.List.{length-take}
use Rattle.rip_capture.specs.Captures.{IsCapture}
use Rattle.rip_capture.specs.Captures.IsCapture.{pcap, pcapng}
use Rattle.rip_capture.specs.Pcap.{AreRecords, Frame}
use Rattle.rip_capture.specs.Pcapng.{AreBlocks, Does, Section, kind_of, packet_from, packet_len}
use Rattle.rip_capture.specs.Pcapng.AreBlocks.{none as no_blocks, more as more_blocks}
use Rattle.rip_capture.specs.Pcapng.Does.{section, interface, packet, other}
use Rattle.rip_capture.specs.declared.blocks.BlockKind.{BlockKind}
use Rattle.rip_capture.specs.declared.pcap.Framing.{Framing}
use Rattle.rip_capture.specs.declared.numbers.Order.{Order}
use Rattle.rip_capture.proofs.ByteLemmas.{all-both}

abbrev IsShort : Frame → Type 0
IsShort f = length f.bytes ≤ 262144

records-short : (order : Order) (t : Framing) (b : List ℕ) (fs : List Frame) → AreRecords order t b fs → AllByRecursion IsShort fs
records-short order t b [] h = tt
records-short order t b (f ∷ fs) (first, rest, is, are, whole) =
    (omega (arith, is.few, is.captured, ap (λ (f : Frame). length f.bytes) is.frame_is), records-short order t rest fs are)

does-short : (s : Option Section) (order : Order) (b : List ℕ) (kind : BlockKind) (fs : List Frame) (t : Section) → Does s order b kind fs t → AllByRecursion IsShort fs
does-short s order b kind fs t (section k v none e) = subst (AllByRecursion IsShort) (sym none) tt
does-short s order b kind fs t (interface now i k at few told none e) = subst (AllByRecursion IsShort) (sym none) tt
does-short s order b kind fs t (packet now form f k at is one e) =
    let from = packet_from form in
    let len = packet_len order form b is.interface in
    subst (AllByRecursion IsShort) (sym one)
    (omega (arith, is.can.few, ap length is.bytes, length-take (from + len - from) (drop from b)), tt)
does-short s order b kind fs t (other now k at none e) = subst (AllByRecursion IsShort) (sym none) tt

blocks-short : (s l : Option Section) (b : List ℕ) (fs : List Frame) → AreBlocks s b fs l → AllByRecursion IsShort fs
blocks-short s l b fs (no_blocks _ _ _ _ empty none is) = subst (AllByRecursion IsShort) (sym none) tt
blocks-short s l b fs (more_blocks _ _ _ _ order first rest mine theirs next is does are whole split) =
    subst (AllByRecursion IsShort) (sym split) (all-both IsShort mine theirs (does-short s order first (kind_of order first) mine next does) (blocks-short (Some next) l rest theirs are))

pub capture-short : (b : List ℕ) (fs : List Frame) → IsCapture b fs → AllByRecursion IsShort fs
capture-short b fs (pcap order t h) = records-short order t h.records fs h.are_records
capture-short b fs (pcapng now h) = blocks-short None (Some now) b fs h
