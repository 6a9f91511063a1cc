-- A file is one capture, or has one fault.
use Rattle.std.proofs.Common.{◌≡◌, ◌≢◌, ◌+◌, ◌*◌, ◌%◌, ◌^◌, ◌<◌, ◌≤◌, ◌∙◌, ℕ, true, List, [], ◌∷◌, ◌++◌, Option, Some, None, length, ap, sym, refl, inl, inr, subst, arith, append_assoc, append-nil}
use Rattle.std.proofs.lemmas.Bool.{eqb-true}
use Rattle.std.proofs.lemmas.List.{append_cancel_left, length-append, length-drop}
use Rattle.rip_wire.specs.Fields.{number_at}
use Rattle.rip_capture.specs.Captures.{CaptureFault, FrontFault, HasMagic, HasNoMore, IsCapture, IsNext}
use Rattle.rip_capture.specs.Captures.CaptureFault.{front as at_front, pcap as in_pcap, pcapng as in_pcapng}
use Rattle.rip_capture.specs.Captures.FrontFault.{short as too_short, magic as no_kind, pcap as pcap_front}
use Rattle.rip_capture.specs.Captures.HasMagic.{pcap as pcap_kind, pcapng as pcapng_kind}
use Rattle.rip_capture.specs.Captures.IsCapture.{pcap as pcap_capture, pcapng as pcapng_capture}
use Rattle.rip_capture.specs.Feeds.{Extends}
use Rattle.rip_capture.specs.Pcap.{AreRecords, Frame, HeaderFault, HoldsRecord, IsMagic, IsMagicNumber, IsPcap, IsPcapHeader, IsRecord, RecordFault, captured_len, frame_in, link_number, resolution_in}
use Rattle.rip_capture.specs.Pcap.HeaderFault.{cut as cut_header, version as bad_version, link_type as bad_type}
use Rattle.rip_capture.specs.Pcap.RecordFault.{header as short_record, long as long_record, packet as cut_record}
use Rattle.rip_capture.specs.Pcapng.{AreBlocks, Does, IsBlock, Section, begins_section, kind_of, order_of}
use Rattle.rip_capture.specs.Pcapng.Does.{section as does_section, interface as does_interface, packet as does_packet, other as does_nothing}
use Rattle.rip_capture.specs.declared.blocks.BlockKind.{BlockKind}
use Rattle.rip_capture.proofs.BlockLemmas.{section-stays}
use Rattle.rip_capture.proofs.LinkLemmas.{one_type}
use Rattle.rip_capture.proofs.PcapngLemmas.{NoBlock, block-fault-on, block-next, blocks-long, blocks-most, blocks-one, blocks-start, front-of, parts}
use Rattle.rip_capture.proofs.NumberLemmas.{magic-front, magic-stays, number-stays, version-front, version-stays}
use Rattle.rip_capture.specs.declared.error.CaptureCode.{CaptureCode}
use Rattle.rip_capture.specs.declared.error.CaptureCode.TheVariants as codes
use Rattle.rip_capture.specs.declared.link.LinkType.{LinkType}
use Rattle.rip_capture.specs.declared.pcap.Framing.{Framing}
use Rattle.rip_capture.specs.declared.numbers.Order.{Order}
use Rattle.rip_capture.specs.declared.numbers.Order.TheVariants.{Big, Little}

-- ---- one byte order

no_order : (n : ℕ) → IsMagicNumber Big n → IsMagicNumber Little n → ⊥
no_order n (inl a) (inl b) = omega arith
no_order n (inl a) (inr b) = omega arith
no_order n (inr a) (inl b) = omega arith
no_order n (inr a) (inr b) = omega arith

one_order : (o p : Order) (n : ℕ) → IsMagicNumber o n → IsMagicNumber p n → o ≡ p
one_order Big Big n a b = refl
one_order Big Little n a b = absurd (no_order n a b)
one_order Little Big n a b = absurd (no_order n b a)
one_order Little Little n a b = refl

-- ---- one fault of a header, and of a record

HeaderFault-one : (order : Order) (b : List ℕ) (c d : CaptureCode) → HeaderFault order b c → HeaderFault order b d → c ≡ d
HeaderFault-one order b c d (cut_header less e) (cut_header less' e') = e ∙ sym e'
HeaderFault-one order b c d (cut_header less e) (bad_version room bad e') = absurd (omega arith)
HeaderFault-one order b c d (cut_header less e) (bad_type room v none e') = absurd (omega arith)
HeaderFault-one order b c d (bad_version room bad e) (cut_header less e') = absurd (omega arith)
HeaderFault-one order b c d (bad_version room bad e) (bad_version room' bad' e') = e ∙ sym e'
HeaderFault-one order b c d (bad_version room bad e) (bad_type room' v none e') = absurd (bad v)
HeaderFault-one order b c d (bad_type room v none e) (cut_header less e') = absurd (omega arith)
HeaderFault-one order b c d (bad_type room v none e) (bad_version room' bad e') = absurd (bad v)
HeaderFault-one order b c d (bad_type room v none e) (bad_type room' v' none' e') = e ∙ sym e'

RecordFault-one : (order : Order) (b : List ℕ) (c d : CaptureCode) → RecordFault order b c → RecordFault order b d → c ≡ d
RecordFault-one order b c d (short_record some less e) (short_record some' less' e') = e ∙ sym e'
RecordFault-one order b c d (short_record some less e) (long_record room more e') = absurd (omega arith)
RecordFault-one order b c d (short_record some less e) (cut_record room few less' e') = absurd (omega arith)
RecordFault-one order b c d (long_record room more e) (short_record some less e') = absurd (omega arith)
RecordFault-one order b c d (long_record room more e) (long_record room' more' e') = e ∙ sym e'
RecordFault-one order b c d (long_record room more e) (cut_record room' few less e') = absurd (omega arith)
RecordFault-one order b c d (cut_record room few less e) (short_record some less' e') = absurd (omega arith)
RecordFault-one order b c d (cut_record room few less e) (long_record room' more e') = absurd (omega arith)
RecordFault-one order b c d (cut_record room few less e) (cut_record room' few' less' e') = e ∙ sym e'

-- ---- how records end: with the file, or at a fault

abbrev Stops : Order → List ℕ → Option CaptureCode → Type 0
Stops order rest None = rest ≡ []
Stops order rest (Some code) = RecordFault order rest code

fault-some : (order : Order) (b : List ℕ) (code : CaptureCode) → RecordFault order b code → 0 < length b
fault-some order b code (short_record some less e) = some
fault-some order b code (long_record room more e) = omega arith
fault-some order b code (cut_record room few less e) = omega arith

Stops-one : (order : Order) (rest : List ℕ) (o p : Option CaptureCode) → Stops order rest o → Stops order rest p → o ≡ p
Stops-one order rest None None h k = refl
Stops-one order rest None (Some d) h k = absurd (omega (arith, ap length h, fault-some order rest d k))
Stops-one order rest (Some c) None h k = absurd (omega (arith, ap length k, fault-some order rest c h))
Stops-one order rest (Some c) (Some d) h k = ap Some (RecordFault-one order rest c d h k)

-- how long a record is
record-size : (order : Order) (t : Framing) (first : List ℕ) (frame : Frame) → IsRecord order t first frame → length first ≡ 16 + captured_len order first
record-size order t first frame is =
    omega (arith, is.captured ∙ length-drop 16 first, is.header)

captured-stays : (order : Order) (t : Framing) (first rest : List ℕ) (frame : Frame) → IsRecord order t first frame → captured_len order (first ++ rest) ≡ captured_len order first
captured-stays order t first rest frame is = number-stays order 8 first (first ++ rest) (omega (arith, is.header)) (front-of first rest)

-- no fault where a record is
no_fault : (order : Order) (t : Framing) (first rest : List ℕ) (frame : Frame) (code : CaptureCode) → IsRecord order t first frame → RecordFault order (first ++ rest) code → ⊥
no_fault order t first rest frame code is (short_record some less e) = omega (arith, is.header, length-append first rest)
no_fault order t first rest frame code is (long_record room more e) = omega (arith, captured-stays order t first rest frame is, is.captured, is.few)
no_fault order t first rest frame code is (cut_record room few less e) =
    omega (arith, captured-stays order t first rest frame is, record-size order t first frame is, length-append first rest)

no_stop : (order : Order) (t : Framing) (first rest : List ℕ) (frame : Frame) (o : Option CaptureCode) → IsRecord order t first frame → Stops order (first ++ rest) o → ⊥
no_stop order t first rest frame None is h = omega (arith, is.header, ap length h, length-append first rest)
no_stop order t first rest frame (Some code) is h = no_fault order t first rest frame code is h

-- the first record, where two are told
first-one : (order : Order) (t : Framing) (a b c d : List ℕ) (f g : Frame) → IsRecord order t a f → IsRecord order t c g → a ++ b ≡ c ++ d → (a ≡ c) × (b ≡ d) × (f ≡ g)
first-one order t a b c d f g is js e =
    let size : length a ≡ length c = omega (
      arith,
      record-size order t a f is,
      record-size order t c g js,
      captured-stays order t a b f is,
      captured-stays order t c d g js,
      ap
          (captured_len order) e,
    ) in
    let p = parts a b c d size e in
    (p.0, p.1, is.frame_is ∙ ap (frame_in order t) p.0 ∙ sym js.frame_is)

-- records, and how they end, are one thing
pub record One (fs gs : List Frame) (o p : Option CaptureCode) (xs ys : List ℕ) : Type 0 where
  pub frames : fs ≡ gs
  pub ends : o ≡ p
  pub size : length xs ≡ length ys

records-one : (order : Order) (t : Framing) (fs gs : List Frame) (xs ys rest last : List ℕ) (o p : Option CaptureCode) → AreRecords order t xs fs → Stops order rest o → AreRecords order t ys gs →
    Stops order last p → xs ++ rest ≡ ys ++ last → One fs gs o p xs ys
records-one order t [] [] xs ys rest last o p h s k r e =
    let same : rest ≡ last = ap (λ (l : List ℕ). l ++ rest) (sym h) ∙ e ∙ ap (λ (l : List ℕ). l ++ last) k in
    record { frames = refl; ends = Stops-one order last o p (subst (λ (l : List ℕ). Stops order l o) same s) r; size = ap length (h ∙ sym k) }
records-one order t [] (g ∷ gs) xs ys rest last o p h s k r e =
    let same : rest ≡ k.0 ++ (k.1 ++ last) = ap (λ (l : List ℕ). l ++ rest) (sym h) ∙ e ∙ ap (λ (l : List ℕ). l ++ last) k.4 ∙ append_assoc k.0 k.1 last in
    absurd (no_stop order t k.0 (k.1 ++ last) g o k.2 (subst (λ (l : List ℕ). Stops order l o) same s))
records-one order t (f ∷ fs) [] xs ys rest last o p h s k r e =
    let same : last ≡ h.0 ++ (h.1 ++ rest) = ap (λ (l : List ℕ). l ++ last) (sym k) ∙ sym e ∙ ap (λ (l : List ℕ). l ++ rest) h.4 ∙ append_assoc h.0 h.1 rest in
    absurd (no_stop order t h.0 (h.1 ++ rest) f p h.2 (subst (λ (l : List ℕ). Stops order l p) same r))
records-one order t (f ∷ fs) (g ∷ gs) xs ys rest last o p h s k r e =
    let both : h.0 ++ (h.1 ++ rest) ≡ k.0 ++ (k.1 ++ last) =
    sym (ap (λ (l : List ℕ). l ++ rest) h.4 ∙ append_assoc h.0 h.1 rest) ∙ e ∙ ap (λ (l : List ℕ). l ++ last) k.4 ∙ append_assoc k.0 k.1 last in
    let first = first-one order t h.0 (h.1 ++ rest) k.0 (k.1 ++ last) f g h.2 k.2 both in
    let on = records-one order t fs gs h.1 k.1 rest last o p h.3 s k.3 r first.1 in
    record {
      frames = ap (λ (x : Frame). x ∷ fs) first.2 ∙ ap (λ (l : List Frame). g ∷ l) on.frames;
      ends = on.ends;
      size = ap length h.4 ∙ length-append h.0 h.1 ∙ omega (arith, ap length first.0, on.size) ∙ sym (length-append k.0 k.1) ∙ sym (ap length k.4);
    }

-- ---- where no whole record is left, there are no more of them

holds-record : (order : Order) (t : Framing) (first rest : List ℕ) (frame : Frame) → IsRecord order t first frame → HoldsRecord order (first ++ rest)
holds-record order t first rest frame is = record {
  header = omega (arith, is.header, length-append first rest);
  packet = omega (arith, captured-stays order t first rest frame is, record-size order t first frame is, length-append first rest);
}

records-most : (order : Order) (t : Framing) (fs gs : List Frame) (xs ys rest last : List ℕ) → AreRecords order t xs fs → ¬ HoldsRecord order rest → AreRecords order t ys gs →
    xs ++ rest ≡ ys ++ last → length gs ≤ length fs
records-most order t fs [] xs ys rest last h none k e = omega arith
records-most order t [] (g ∷ gs) xs ys rest last h none k e =
    let same : rest ≡ k.0 ++ (k.1 ++ last) = ap (λ (l : List ℕ). l ++ rest) (sym h) ∙ e ∙ ap (λ (l : List ℕ). l ++ last) k.4 ∙ append_assoc k.0 k.1 last in
    absurd (none (subst (HoldsRecord order) (sym same) (holds-record order t k.0 (k.1 ++ last) g k.2)))
records-most order t (f ∷ fs) (g ∷ gs) xs ys rest last h none k e =
    let both : h.0 ++ (h.1 ++ rest) ≡ k.0 ++ (k.1 ++ last) =
    sym (ap (λ (l : List ℕ). l ++ rest) h.4 ∙ append_assoc h.0 h.1 rest) ∙ e ∙ ap (λ (l : List ℕ). l ++ last) k.4 ∙ append_assoc k.0 k.1 last in
    let first = first-one order t h.0 (h.1 ++ rest) k.0 (k.1 ++ last) f g h.2 k.2 both in
    omega (arith, records-most order t fs gs h.1 k.1 rest last h.3 none k.3 first.1)

-- ---- whole files

header-order : (o p : Order) (t u : Framing) (a b : List ℕ) → IsPcapHeader a o t → IsPcapHeader b p u → a ≡ b → (o ≡ p) × (t ≡ u)
header-order o p t u a b h k e =
    let orders : o ≡ p = one_order o p (number_at 4 0 b) (subst (λ (l : List ℕ). IsMagic o l) e h.magic) k.magic in
    let types = one_type t.link_type u.link_type (h.link ∙ ap (link_number o) e ∙ ap (λ (x : Order). link_number x b) orders ∙ sym k.link) in
    let units : t.resolution ≡ u.resolution = h.unit ∙ ap (resolution_in o) e ∙ ap (λ (x : Order). resolution_in x b) orders ∙ sym k.unit in
    let made : LinkType → ℕ → Framing = λ l r. record { link_type = l; resolution = r } in
    (orders, ap (λ (l : LinkType). made l t.resolution) types ∙ ap (made u.link_type) units)

-- files that begin with the same bytes, and how they end
pcap-one : (o p : Order) (t u : Framing) (a b : List ℕ) (fs gs : List Frame) (rest last : List ℕ) (x y : Option CaptureCode) → IsPcap a o t fs → Stops o rest x → IsPcap b p u gs → Stops p last y →
    a ++ rest ≡ b ++ last → One fs gs x y a b
pcap-one o p t u a b fs gs rest last x y h s k r e =
    let both : h.header ++ (h.records ++ rest) ≡ k.header ++ (k.records ++ last) =
    sym (ap (λ (l : List ℕ). l ++ rest) h.whole ∙ append_assoc h.header h.records rest) ∙ e ∙ ap (λ (l : List ℕ). l ++ last) k.whole ∙ append_assoc k.header k.records last in
    let split = parts h.header (h.records ++ rest) k.header (k.records ++ last) (h.is_header.size ∙ sym k.is_header.size) both in
    let same = header-order o p t u h.header k.header h.is_header k.is_header split.0 in
    let stops : Stops p rest x = subst (λ (z : Order). Stops z rest x) same.0 s in
    let records : AreRecords p u h.records fs = subst (λ (z : Framing). AreRecords p z h.records fs) same.1 (subst (λ (z : Order). AreRecords z t h.records fs) same.0 h.are_records) in
    let on = records-one p u fs gs h.records k.records rest last x y records stops k.are_records r split.1 in
    record {
      frames = on.frames;
      ends = on.ends;
      size = ap length h.whole ∙ length-append h.header h.records ∙ omega (arith, h.is_header.size, k.is_header.size, on.size) ∙ sym (length-append k.header k.records) ∙ sym (ap length k.whole);
    }

pcap-most : (o p : Order) (t u : Framing) (a b : List ℕ) (fs gs : List Frame) (rest last : List ℕ) → IsPcap a o t fs → ¬ HoldsRecord o rest → IsPcap b p u gs → a ++ rest ≡ b ++ last →
    length gs ≤ length fs
pcap-most o p t u a b fs gs rest last h none k e =
    let both : h.header ++ (h.records ++ rest) ≡ k.header ++ (k.records ++ last) =
    sym (ap (λ (l : List ℕ). l ++ rest) h.whole ∙ append_assoc h.header h.records rest) ∙ e ∙ ap (λ (l : List ℕ). l ++ last) k.whole ∙ append_assoc k.header k.records last in
    let split = parts h.header (h.records ++ rest) k.header (k.records ++ last) (h.is_header.size ∙ sym k.is_header.size) both in
    let same = header-order o p t u h.header k.header h.is_header k.is_header split.0 in
    let records : AreRecords p u h.records fs = subst (λ (z : Framing). AreRecords p z h.records fs) same.1 (subst (λ (z : Order). AreRecords z t h.records fs) same.0 h.are_records) in
    records-most p u fs gs h.records k.records rest last records (subst (λ (z : Order). ¬ HoldsRecord z rest) same.0 none) k.are_records split.1

header-size : (b : List ℕ) (o : Order) (t : Framing) (fs : List Frame) → IsPcap b o t fs → 24 ≤ length b
header-size b o t fs h = omega (arith, ap length h.whole, length-append h.header h.records, h.is_header.size)

header-on : (b : List ℕ) (o : Order) (t : Framing) (fs : List Frame) (rest : List ℕ) (h : IsPcap b o t fs) → Extends h.header (b ++ rest)
header-on b o t fs rest h = record {
  more = h.records ++ rest;
  whole = ap (λ (l : List ℕ). l ++ rest) h.whole ∙ append_assoc h.header h.records rest;
}

-- a pcap file begins with its magic, a pcapng file with a section, and none with both
pcap-begins : (b rest : List ℕ) (o : Order) (t : Framing) (fs : List Frame) → IsPcap b o t fs → IsMagic o (b ++ rest)
pcap-begins b rest o t fs h = magic-stays o h.header (b ++ rest) (omega (arith, h.is_header.size)) (header-on b o t fs rest h) h.is_header.magic

section-begins : (b rest : List ℕ) (fs : List Frame) (now : Section) → AreBlocks None b fs (Some now) → begins_section (b ++ rest) ≡ true
section-begins b rest fs now are =
    let starts = blocks-start b fs now are in
    section-stays b (b ++ rest) (omega (arith, starts.long)) (front-of b rest) ∙ starts.begins

no-number : (o : Order) (n : ℕ) → IsMagicNumber o n → n ≡ 0x0A0D0D0A → ⊥
no-number Big n (inl a) e = omega (arith, a, e)
no-number Big n (inr a) e = omega (arith, a, e)
no-number Little n (inl a) e = omega (arith, a, e)
no-number Little n (inr a) e = omega (arith, a, e)

no-both : (o : Order) (b : List ℕ) → IsMagic o b → begins_section b ≡ true → ⊥
no-both o b magic begins = no-number o (number_at 4 0 b) magic (eqb-true (number_at 4 0 b) 0x0A0D0D0A begins)

-- behind records of which no whole one follows, and in front of a header, there are no more packets
pub record-most : (o : Order) (t : Framing) (taken rest : List ℕ) (frames : List Frame) → IsPcap taken o t frames → ¬ HoldsRecord o rest → HasNoMore (taken ++ rest) frames
record-most o t taken rest frames h none front last others e (pcap_capture p u k) = pcap-most o p t u taken front frames others rest last h none k e
record-most o t taken rest frames h none front last others e (pcapng_capture now k) =
    absurd (no-both o (taken ++ rest) (pcap-begins taken rest o t frames h) (subst (λ (l : List ℕ). begins_section l ≡ true) (sym e) (section-begins front last others now k)))

pub front-most : (b : List ℕ) (frames : List Frame) → length b < 24 → HasNoMore b frames
front-most b frames less front rest others e (pcap_capture p u k) =
    absurd (omega (arith, less, ap length e, length-append front rest, header-size front p u others k))
front-most b frames less front rest others e (pcapng_capture now k) =
    absurd (omega (arith, less, ap length e, length-append front rest, (blocks-start front others now k).long))

-- behind blocks of which no whole one follows, there are no more packets
pub block-most : (s : Option Section) (taken rest : List ℕ) (frames : List Frame) → 4 ≤ length (taken ++ rest) → begins_section (taken ++ rest) ≡ true → AreBlocks None taken frames s →
    NoBlock (order_of s) rest → HasNoMore (taken ++ rest) frames
block-most s taken rest frames room begins are none front last others e (pcap_capture p u k) =
    absurd (no-both p (taken ++ rest) (subst (IsMagic p) (sym e) (pcap-begins front last p u others k)) begins)
block-most s taken rest frames room begins are none front last others e (pcapng_capture now k) =
    blocks-most None s (Some now) frames others taken front rest last are none k e

-- a front that is right has no fault
no_header_fault : (b : List ℕ) (o : Order) (t : Framing) (fs : List Frame) (rest : List ℕ) (code : CaptureCode) → IsPcap b o t fs → HeaderFault o (b ++ rest) code → ⊥
no_header_fault b o t fs rest code h (cut_header less e) = omega (arith, length-append b rest, header-size b o t fs h)
no_header_fault b o t fs rest code h (bad_version room bad e) =
    bad (version-stays o h.header (b ++ rest) (omega (arith, h.is_header.size)) (header-on b o t fs rest h) h.is_header.version)
no_header_fault b o t fs rest code h (bad_type room v none e) =
    none t.link_type (h.is_header.link ∙ ap (λ (n : ℕ). n % 2 ^ 26) (sym (number-stays o 20 h.header (b ++ rest) (omega (arith, h.is_header.size)) (header-on b o t fs rest h))))

no_front_fault : (b : List ℕ) (o : Order) (t : Framing) (fs : List Frame) (rest : List ℕ) (code : CaptureCode) → IsPcap b o t fs → FrontFault (b ++ rest) code → ⊥
no_front_fault b o t fs rest code h (too_short less e) = omega (arith, length-append b rest, header-size b o t fs h)
no_front_fault b o t fs rest code h (no_kind room none e) =
    none (pcap_kind o (magic-stays o h.header (b ++ rest) (omega (arith, h.is_header.size)) (header-on b o t fs rest h) h.is_header.magic))
no_front_fault b o t fs rest code h (pcap_front p room magic f) =
    let here = magic-stays o h.header (b ++ rest) (omega (arith, h.is_header.size)) (header-on b o t fs rest h) h.is_header.magic in
    let same : p ≡ o = one_order p o (number_at 4 0 (b ++ rest)) magic here in
    no_header_fault b o t fs rest code h (subst (λ (z : Order). HeaderFault z (b ++ rest) code) same f)

FrontFault-one : (b : List ℕ) (c d : CaptureCode) → FrontFault b c → FrontFault b d → c ≡ d
FrontFault-one b c d (too_short less e) (too_short less' e') = e ∙ sym e'
FrontFault-one b c d (too_short less e) (no_kind room none e') = absurd (omega arith)
FrontFault-one b c d (too_short less e) (pcap_front p room magic f) = absurd (omega arith)
FrontFault-one b c d (no_kind room none e) (too_short less e') = absurd (omega arith)
FrontFault-one b c d (no_kind room none e) (no_kind room' none' e') = e ∙ sym e'
FrontFault-one b c d (no_kind room none e) (pcap_front p room' magic f) = absurd (none (pcap_kind p magic))
FrontFault-one b c d (pcap_front p room magic f) (too_short less e') = absurd (omega arith)
FrontFault-one b c d (pcap_front p room magic f) (no_kind room' none e') = absurd (none (pcap_kind p magic))
FrontFault-one b c d (pcap_front p room magic f) (pcap_front q room' magic' g) =
    HeaderFault-one q b c d (subst (λ (z : Order). HeaderFault z b c) (one_order p q (number_at 4 0 b) magic magic') f) g

-- ---- the laws

pub captures-one : (b : List ℕ) (fs gs : List Frame) → IsCapture b fs → IsCapture b gs → fs ≡ gs
captures-one b fs gs (pcap_capture o t h) (pcap_capture p u k) =
    (pcap-one o p t u b b fs gs [] [] None None h refl k refl refl).frames
captures-one b fs gs (pcap_capture o t h) (pcapng_capture now k) =
    absurd (no-both o (b ++ []) (pcap-begins b [] o t fs h) (section-begins b [] gs now k))
captures-one b fs gs (pcapng_capture now h) (pcap_capture p u k) =
    absurd (no-both p (b ++ []) (pcap-begins b [] p u gs k) (section-begins b [] fs now h))
captures-one b fs gs (pcapng_capture now h) (pcapng_capture now' k) =
    (blocks-one None (Some now) (Some now') fs gs b b [] [] None None h refl k refl refl).frames

magic-whole : (b : List ℕ) (o : Order) (t : Framing) (fs : List Frame) → IsPcap b o t fs → IsMagic o b
magic-whole b o t fs h = subst (IsMagic o) (append-nil b) (pcap-begins b [] o t fs h)

section-whole : (b : List ℕ) (fs : List Frame) (now : Section) → AreBlocks None b fs (Some now) → begins_section b ≡ true
section-whole b fs now h = (blocks-start b fs now h).begins

no-section-fault : (b : List ℕ) (code : CaptureCode) → 4 ≤ length b → begins_section b ≡ true → FrontFault b code → ⊥
no-section-fault b code room begins (too_short less e) = omega (arith, room, less)
no-section-fault b code room begins (no_kind more none e) = none (pcapng_kind begins)
no-section-fault b code room begins (pcap_front p more magic f) = no-both p b magic begins

pub capture-right : (b : List ℕ) (fs gs : List Frame) (code : CaptureCode) (at : ℕ) → IsCapture b fs → CaptureFault b gs code at → ⊥
capture-right b fs gs code at (pcap_capture o t h) (at_front none start f) =
    no_front_fault b o t fs [] code h (subst (λ (l : List ℕ). FrontFault l code) (sym (append-nil b)) f)
capture-right b fs gs code at (pcap_capture o t h) (in_pcap p u right rest whole k place f) =
    cc ((pcap-one o p t u b right fs gs [] rest None (Some code) h refl k f (append-nil b ∙ whole)).ends)
capture-right b fs gs code at (pcap_capture o t h) (in_pcapng s right rest room begins whole k place f) =
    no-both o b (magic-whole b o t fs h) begins
capture-right b fs gs code at (pcapng_capture now h) (at_front none start f) =
    let starts = blocks-start b fs now h in
    no-section-fault b code (omega (arith, starts.long)) starts.begins f
capture-right b fs gs code at (pcapng_capture now h) (in_pcap p u right rest whole k place f) =
    no-both p b (subst (IsMagic p) (sym whole) (pcap-begins right rest p u gs k)) (section-whole b fs now h)
capture-right b fs gs code at (pcapng_capture now h) (in_pcapng s right rest room begins whole k place f) =
    cc ((blocks-one None (Some now) s fs gs b right [] rest None (Some code) h refl k f (append-nil b ∙ whole)).ends)

same_code : (c d : CaptureCode) → Some c ≡ Some d → c ≡ d
same_code c d e = cc e

pub faults-one : (b : List ℕ) (fs gs : List Frame) (c d : CaptureCode) (at there : ℕ) → CaptureFault b fs c at → CaptureFault b gs d there → (fs ≡ gs) × (c ≡ d) × (at ≡ there)
faults-one b fs gs c d at there (at_front none start f) (at_front none' start' g) =
    (none ∙ sym none', FrontFault-one b c d f g, start ∙ sym start')
faults-one b fs gs c d at there (at_front none start f) (in_pcap p u right rest whole k place g) =
    absurd (no_front_fault right p u gs rest c k (subst (λ (l : List ℕ). FrontFault l c) whole f))
faults-one b fs gs c d at there (at_front none start f) (in_pcapng s right rest room begins whole k place g) =
    absurd (no-section-fault b c room begins f)
faults-one b fs gs c d at there (in_pcap o t right rest whole h place f) (at_front none start g) =
    absurd (no_front_fault right o t fs rest d h (subst (λ (l : List ℕ). FrontFault l d) whole g))
faults-one b fs gs c d at there (in_pcap o t right rest whole h place f) (in_pcap p u right' rest' whole' k place' g) =
    let one = pcap-one o p t u right right' fs gs rest rest' (Some c) (Some d) h f k g (sym whole ∙ whole') in
    (one.frames, same_code c d one.ends, place ∙ one.size ∙ sym place')
faults-one b fs gs c d at there (in_pcap o t right rest whole h place f) (in_pcapng s right' rest' room begins whole' k place' g) =
    absurd (no-both o b (subst (IsMagic o) (sym whole) (pcap-begins right rest o t fs h)) begins)
faults-one b fs gs c d at there (in_pcapng s right rest room begins whole h place f) (at_front none start g) =
    absurd (no-section-fault b d room begins g)
faults-one b fs gs c d at there (in_pcapng s right rest room begins whole h place f) (in_pcap p u right' rest' whole' k place' g) =
    absurd (no-both p b (subst (IsMagic p) (sym whole') (pcap-begins right' rest' p u gs k)) begins)
faults-one b fs gs c d at there (in_pcapng s right rest room begins whole h place f) (in_pcapng s' right' rest' room' begins' whole' k place' g) =
    let one = blocks-one None s s' fs gs right right' rest rest' (Some c) (Some d) h f k g (sym whole ∙ whole') in
    (one.frames, same_code c d one.ends, place ∙ one.size ∙ sym place')

-- ---- what follows a fault

header-fault-on : (o : Order) (b more : List ℕ) (code : CaptureCode) → code ≢ codes.Cut → HeaderFault o b code → HeaderFault o (b ++ more) code
header-fault-on o b more code uncut (cut_header less e) = absurd (uncut e)
header-fault-on o b more code uncut (bad_version room bad e) =
    bad_version (omega (arith, room, length-append b more)) (λ v. bad (version-front o b (b ++ more) (omega (arith, room)) (front-of b more) v)) e
header-fault-on o b more code uncut (bad_type room v none e) =
    bad_type (omega (arith, room, length-append b more)) (version-stays o b (b ++ more) (omega (arith, room)) (front-of b more) v)
    (λ t is. none t (is ∙ ap (λ (n : ℕ). n % 2 ^ 26) (number-stays o 20 b (b ++ more) (omega (arith, room)) (front-of b more)))) e

magic-back : (b more : List ℕ) → 4 ≤ length b → HasMagic (b ++ more) → HasMagic b
magic-back b more room (pcap_kind o m) = pcap_kind o (magic-front o b (b ++ more) room (front-of b more) m)
magic-back b more room (pcapng_kind begins) = pcapng_kind (sym (section-stays b (b ++ more) room (front-of b more)) ∙ begins)

front-fault-on : (b more : List ℕ) (code : CaptureCode) → code ≢ codes.Cut → FrontFault b code → FrontFault (b ++ more) code
front-fault-on b more code uncut (too_short less e) = absurd (uncut e)
front-fault-on b more code uncut (no_kind room none e) =
    no_kind (omega (arith, room, length-append b more)) (λ m. none (magic-back b more room m)) e
front-fault-on b more code uncut (pcap_front o room m f) =
    pcap_front o (omega (arith, room, length-append b more)) (magic-stays o b (b ++ more) room (front-of b more) m) (header-fault-on o b more code uncut f)

record-fault-on : (o : Order) (b more : List ℕ) (code : CaptureCode) → code ≢ codes.Cut → RecordFault o b code → RecordFault o (b ++ more) code
record-fault-on o b more code uncut (short_record some less e) = absurd (uncut e)
record-fault-on o b more code uncut (long_record room many e) =
    long_record (omega (arith, room, length-append b more)) (omega (arith, many, number-stays o 8 b (b ++ more) (omega (arith, room)) (front-of b more))) e
record-fault-on o b more code uncut (cut_record room few less e) = absurd (uncut e)

pub fault-on : (b more : List ℕ) (fs : List Frame) (code : CaptureCode) (at : ℕ) → code ≢ codes.Cut → CaptureFault b fs code at → CaptureFault (b ++ more) fs code at
fault-on b more fs code at uncut (at_front none start f) = at_front none start (front-fault-on b more code uncut f)
fault-on b more fs code at uncut (in_pcap o t right rest whole h place f) =
    in_pcap o t right (rest ++ more) (ap (λ (l : List ℕ). l ++ more) whole ∙ append_assoc right rest more) h place (record-fault-on o rest more code uncut f)
fault-on b more fs code at uncut (in_pcapng s right rest room begins whole h place f) =
    in_pcapng s right (rest ++ more) (omega (arith, room, length-append b more)) (section-stays b (b ++ more) room (front-of b more) ∙ begins)
    (ap (λ (l : List ℕ). l ++ more) whole ∙ append_assoc right rest more) h place (block-fault-on rest more code uncut s f)

-- ---- a capture has a header in front of each packet

records-long : (order : Order) (t : Framing) (b : List ℕ) (fs : List Frame) → AreRecords order t b fs → 16 * length fs ≤ length b
records-long order t b [] h = omega arith
records-long order t b (f ∷ fs) (first, rest, is, are, whole) =
    let rest_long = records-long order t rest fs are in
    let size : length b ≡ length first + length rest = ap length whole ∙ length-append first rest in
    let header = is.header in
    omega (arith, rest_long, size, header)

pub capture-long : (b : List ℕ) (fs : List Frame) → IsCapture b fs → 16 * length fs ≤ length b
capture-long b fs (pcap_capture order t h) =
    let few = records-long order t h.records fs h.are_records in
    let size : length b ≡ length h.header + length h.records = ap length h.whole ∙ length-append h.header h.records in
    omega (arith, few, size)
capture-long b fs (pcapng_capture now h) = blocks-long None (Some now) b fs h

-- ---- a record or a block with a packet is the next

same-records : (order : Order) (t : Framing) (fs gs : List Frame) (xs ys rest last : List ℕ) → AreRecords order t xs fs → AreRecords order t ys gs → fs ≡ gs → xs ++ rest ≡ ys ++ last → xs ≡ ys
same-records order t [] [] xs ys rest last h k same e = h ∙ sym k
same-records order t [] (g ∷ gs) xs ys rest last h k same e = cc same
same-records order t (f ∷ fs) [] xs ys rest last h k same e = cc same
same-records order t (f ∷ fs) (g ∷ gs) xs ys rest last h k same e =
    let both : h.0 ++ (h.1 ++ rest) ≡ k.0 ++ (k.1 ++ last) =
    sym (ap (λ (l : List ℕ). l ++ rest) h.4 ∙ append_assoc h.0 h.1 rest) ∙ e ∙ ap (λ (l : List ℕ). l ++ last) k.4 ∙ append_assoc k.0 k.1 last in
    let first = first-one order t h.0 (h.1 ++ rest) k.0 (k.1 ++ last) f g h.2 k.2 both in
    let tails : fs ≡ gs = cc same in
    let on = same-records order t fs gs h.1 k.1 rest last h.3 k.3 tails first.1 in
    h.4 ∙ ap (λ (l : List ℕ). l ++ h.1) first.0 ∙ ap (λ (l : List ℕ). k.0 ++ l) on ∙ sym k.4

same-pcap : (o p : Order) (t u : Framing) (a b : List ℕ) (fs : List Frame) (rest last : List ℕ) → IsPcap a o t fs → IsPcap b p u fs → a ++ rest ≡ b ++ last → a ≡ b
same-pcap o p t u a b fs rest last h k e =
    let both : h.header ++ (h.records ++ rest) ≡ k.header ++ (k.records ++ last) =
    sym (ap (λ (l : List ℕ). l ++ rest) h.whole ∙ append_assoc h.header h.records rest) ∙ e ∙ ap (λ (l : List ℕ). l ++ last) k.whole ∙ append_assoc k.header k.records last in
    let split = parts h.header (h.records ++ rest) k.header (k.records ++ last) (h.is_header.size ∙ sym k.is_header.size) both in
    let same = header-order o p t u h.header k.header h.is_header k.is_header split.0 in
    let records : AreRecords p u h.records fs = subst (λ (z : Framing). AreRecords p z h.records fs) same.1 (subst (λ (z : Order). AreRecords z t h.records fs) same.0 h.are_records) in
    let on = same-records p u fs fs h.records k.records rest last records k.are_records refl split.1 in
    h.whole ∙ ap (λ (l : List ℕ). l ++ h.records) split.0 ∙ ap (λ (l : List ℕ). k.header ++ l) on ∙ sym k.whole

append-self : (xs ys : List ℕ) → xs ≡ xs ++ ys → ys ≡ []
append-self xs ys e = append_cancel_left xs ys [] (sym e ∙ sym (append-nil xs))

pub record-next : (o : Order) (t : Framing) (front bytes : List ℕ) (frames : List Frame) → IsPcap front o t frames → IsNext front bytes frames
record-next o t front bytes frames h part rest e (pcap_capture p u k) =
    append-self front part (same-pcap o p t u front (front ++ part) frames part [] h k (sym (append-nil (front ++ part))))
record-next o t front bytes frames h part rest e (pcapng_capture now k) =
    absurd (no-both o (front ++ part) (pcap-begins front part o t frames h) (section-whole (front ++ part) frames now k))

next-block : (now next : Section) (front more : List ℕ) (frames : List Frame) (frame : Frame) (order : Order) → AreBlocks None front frames (Some now) → IsBlock (order_of (Some now)) order more →
    Does (Some now) order more (kind_of order more) (frame ∷ []) next → IsNext front more frames
next-block now next front more frames frame order h is does part rest e (pcap_capture p u k) =
    absurd (no-both p (front ++ part) (magic-whole (front ++ part) p u frames k) (section-begins front part frames now h))
next-block now next front more frames frame order h is does part rest e (pcapng_capture m k) =
    block-next None (Some now) (Some m) frames frames front (front ++ part) part rest more frame order next h is does k refl refl e

no-first : (order : Order) (more : List ℕ) (kind : BlockKind) (frame : Frame) (next : Section) → Does None order more kind (frame ∷ []) next → ⊥
no-first order more kind frame next (does_section k version none is) = cc none
no-first order more kind frame next (does_interface now i k at few told none is) = cc at
no-first order more kind frame next (does_packet now form f k at js one is) = cc at
no-first order more kind frame next (does_nothing now k at none is) = cc at

pub packet-next : (s : Option Section) (next : Section) (front more : List ℕ) (frames : List Frame) (frame : Frame) (order : Order) → AreBlocks None front frames s → IsBlock (order_of s) order more →
    Does s order more (kind_of order more) (frame ∷ []) next → IsNext front more frames
packet-next None next front more frames frame order h is does = absurd (no-first order more (kind_of order more) frame next does)
packet-next (Some now) next front more frames frame order h is does = next-block now next front more frames frame order h is does
