-- Each file is a capture or has a fault.
use Rattle.std.proofs.Common.{◌≡◌, ◌≢◌, ◌+◌, ◌<◌, ◌≤◌, ◌⊎◌, ◌∙◌, ℕ, zero, suc, true, false, List, [], ◌∷◌, ◌++◌, Option, Some, None, length, take, drop, ap, sym, refl, inl, inr, subst, arith, append_assoc, append-nil}
use Rattle.std.proofs.lemmas.Bool.{cases_Bool, cases_eq, cases_lt, false≢true}
use Rattle.std.proofs.lemmas.List.{length-drop, nil_from_length, take-append-drop}
use Rattle.rip_wire.specs.Fields.{number_at}
use Rattle.rip_capture.specs.Captures.{CaptureFault, FrontFault, HasMagic, IsCapture}
use Rattle.rip_capture.specs.Captures.CaptureFault.{front as at_front, pcap as in_pcap, pcapng as in_pcapng}
use Rattle.rip_capture.specs.Captures.FrontFault.{short as too_short, magic as no_kind, pcap as pcap_front}
use Rattle.rip_capture.specs.Captures.HasMagic.{pcap as pcap_kind, pcapng as pcapng_kind}
use Rattle.rip_capture.specs.Captures.IsCapture.{pcap as pcap_capture, pcapng as pcapng_capture}
use Rattle.rip_capture.specs.Numbers.{short_in}
use Rattle.rip_capture.specs.Pcap.{AreRecords, Frame, IsMagic, IsPcap, IsPcapHeader, IsRecord, IsVersion, RecordFault, captured_len, frame_in, link_number, resolution_in}
use Rattle.rip_capture.specs.Pcap.HeaderFault.{cut as cut_header, version as bad_version, link_type as bad_type}
use Rattle.rip_capture.specs.Pcap.RecordFault.{header as short_record, long as long_record, packet as cut_record}
use Rattle.rip_capture.specs.Pcapng.{AreBlocks, Section, begins_section}
use Rattle.rip_capture.proofs.EachBlockLemmas.{last-section, walk-blocks}
use Rattle.rip_capture.proofs.LinkLemmas.{type-cases}
use Rattle.rip_capture.proofs.PcapngLemmas.{StopsAtBlock}
use Rattle.rip_capture.proofs.PcapLemmas.{header-front, record-of}
use Rattle.rip_capture.specs.declared.error.CaptureCode.{CaptureCode}
use Rattle.rip_capture.specs.declared.error.CaptureCode.TheVariants as codes
use Rattle.rip_capture.specs.declared.pcap.Framing.{Framing}
use Rattle.rip_capture.specs.declared.numbers.Order.{Order}
use Rattle.rip_capture.specs.declared.numbers.Order.TheVariants.{Big, Little}

-- ---- a version, a beginning, or none

version-cases : (o : Order) (b : List ℕ) → IsVersion o b ⊎ ¬ IsVersion o b
version-cases o b =
    elim (cases_eq (short_in o 4 b) 2) [
      | inr none ↦ inr (λ v. none v.major)
      | inl major ↦
          elim (cases_eq (short_in o 6 b) 4) [ inr none ↦ inr (λ v. none v.minor) | inl minor ↦ inl (record { major = major; minor = minor }) ]
    ]

no_magic : (b : List ℕ) → number_at 4 0 b ≢ 0xA1B2C3D4 → number_at 4 0 b ≢ 0xA1B23C4D → number_at 4 0 b ≢ 0xD4C3B2A1 → number_at 4 0 b ≢ 0x4D3CB2A1 → begins_section b ≡ false → HasMagic b → ⊥
no_magic b a c d e f (pcap_kind Big (inl is)) = a is
no_magic b a c d e f (pcap_kind Big (inr is)) = c is
no_magic b a c d e f (pcap_kind Little (inl is)) = d is
no_magic b a c d e f (pcap_kind Little (inr is)) = e is
no_magic b a c d e f (pcapng_kind is) = false≢true (sym f ∙ is)

abbrev HasOrder : List ℕ → Type 0
HasOrder b = (o : Order) × IsMagic o b

magic-cases : (b : List ℕ) → begins_section b ≡ false → HasOrder b ⊎ ¬ HasMagic b
magic-cases b other =
    elim (cases_eq (number_at 4 0 b) 0xA1B2C3D4) [
      | inl is ↦ inl (Big, inl is)
      | inr a ↦
          elim (cases_eq (number_at 4 0 b) 0xA1B23C4D) [
            | inl is ↦ inl (Big, inr is)
            | inr c ↦
                elim (cases_eq (number_at 4 0 b) 0xD4C3B2A1) [
                  | inl is ↦ inl (Little, inl is)
                  | inr d ↦
                      elim (cases_eq (number_at 4 0 b) 0x4D3CB2A1) [ inl is ↦ inl (Little, inr is) | inr e ↦ inr (no_magic b a c d e other) ]
                ]
          ]
    ]

-- ---- records, up to their end

abbrev Stops : Order → List ℕ → Option CaptureCode → Type 0
Stops order rest None = rest ≡ []
Stops order rest (Some code) = RecordFault order rest code

-- bytes are records, and end so
record Walk (o : Order) (t : Framing) (b : List ℕ) : Type 0 where
  frames : List Frame
  records : List ℕ
  rest : List ℕ
  ends : Option CaptureCode
  are : AreRecords o t records frames
  stops : Stops o rest ends
  whole : b ≡ records ++ rest

walk-end : (o : Order) (t : Framing) (b : List ℕ) (ends : Option CaptureCode) → Stops o b ends → Walk o t b
walk-end o t b ends stops = record { frames = []; records = []; rest = b; ends = ends; are = refl; stops = stops; whole = refl }

walk-more : (o : Order) (t : Framing) (first b : List ℕ) (frame : Frame) → IsRecord o t first frame → Walk o t b → Walk o t (first ++ b)
walk-more o t first b frame is w = record {
  frames = frame ∷ w.frames;
  records = first ++ w.records;
  rest = w.rest;
  ends = w.ends;
  are = (first, w.records, is, w.are, refl);
  stops = w.stops;
  whole = ap (λ (l : List ℕ). first ++ l) w.whole ∙ sym (append_assoc first w.records w.rest);
}

walk-on : (o : Order) (t : Framing) (b : List ℕ) (n : ℕ) → IsRecord o t (take (16 + n) b) (frame_in o t (take (16 + n) b)) → Walk o t (drop (16 + n) b) → Walk o t b
walk-on o t b n is w =
    subst (λ (l : List ℕ). Walk o t l) (take-append-drop (16 + n) b) (walk-more o t (take (16 + n) b) (drop (16 + n) b) (frame_in o t (take (16 + n) b)) is w)

walk : (fuel : ℕ) (o : Order) (t : Framing) (b : List ℕ) → length b < fuel → Walk o t b
walk zero o t b less = absurd (omega arith)
walk (suc fuel) o t b less =
    elim (cases_lt 0 (length b)) [
      | inr none ↦ walk-end o t b None (nil_from_length b (omega arith))
      | inl some ↦
          elim (cases_lt (length b) 16) [
            | inl short ↦ walk-end o t b (Some codes.Cut) (short_record some short refl)
            | inr room ↦
                elim (cases_lt 262144 (captured_len o b)) [
                  | inl long ↦ walk-end o t b (Some codes.Length) (long_record room long refl)
                  | inr few ↦
                      elim (cases_lt (length b) (16 + captured_len o b)) [
                        | inl cut ↦ walk-end o t b (Some codes.Cut) (cut_record room few cut refl)
                        | inr inside ↦
                            walk-on o t b (captured_len o b) (record-of o t b (captured_len o b) inside refl few)
                            (walk fuel o t (drop (16 + captured_len o b) b) (omega (arith, less, length-drop (16 + captured_len o b) b)))
                      ]
                ]
          ]
    ]

-- ---- files

pub record HasFault (b : List ℕ) : Type 0 where
  pub frames : List Frame
  pub code : CaptureCode
  pub at : ℕ
  pub is : CaptureFault b frames code at

abbrev HasFrames : List ℕ → Type 0
HasFrames b = (frames : List Frame) × IsCapture b frames

front-faulty : (b : List ℕ) (code : CaptureCode) → FrontFault b code → HasFault b
front-faulty b code f = record { frames = []; code = code; at = 0; is = at_front refl refl f }

-- behind its header
ends-as : (o : Order) (t : Framing) (b : List ℕ) (frames : List Frame) (right rest : List ℕ) (ends : Option CaptureCode) → IsPcap right o t frames → Stops o rest ends → b ≡ right ++ rest →
    HasFrames b ⊎ HasFault b
ends-as o t b frames right rest None is stops whole =
    inl (frames, pcap_capture o t (subst (λ (l : List ℕ). IsPcap l o t frames) (sym (whole ∙ ap (λ (l : List ℕ). right ++ l) stops ∙ append-nil right)) is))
ends-as o t b frames right rest (Some code) is stops whole =
    inr (record { frames = frames; code = code; at = length right; is = in_pcap o t right rest whole is refl stops })

behind-header : (o : Order) (t : Framing) (b : List ℕ) → IsPcapHeader (take 24 b) o t → Walk o t (drop 24 b) → HasFrames b ⊎ HasFault b
behind-header o t b header w =
    ends-as o t b w.frames (take 24 b ++ w.records) w.rest w.ends
    (record { header = take 24 b; records = w.records; is_header = header; are_records = w.are; whole = refl })
    w.stops
    (sym (take-append-drop 24 b) ∙ ap (λ (l : List ℕ). take 24 b ++ l) w.whole ∙ sym (append_assoc (take 24 b) w.records w.rest))

-- behind its first four bytes
behind-magic : (o : Order) (b : List ℕ) → 4 ≤ length b → IsMagic o b → HasFrames b ⊎ HasFault b
behind-magic o b begun magic =
    elim (cases_lt (length b) 24) [
      | inl cut ↦ inr (front-faulty b codes.Cut (pcap_front o begun magic (cut_header cut refl)))
      | inr room ↦
          elim (version-cases o b) [
            | inr none ↦ inr (front-faulty b codes.Version (pcap_front o begun magic (bad_version room none refl)))
            | inl version ↦
                elim (type-cases (link_number o b)) [
                  | inr none ↦ inr (front-faulty b codes.LinkType (pcap_front o begun magic (bad_type room version none refl)))
                  | inl has ↦
                      let t : Framing = record { link_type = has.0; resolution = resolution_in o b } in
                      behind-header o t b (header-front o t b room magic version has.1 refl) (walk (suc (length b)) o t (drop 24 b) (omega (arith, length-drop 24 b)))
                ]
          ]
    ]

-- behind the front of a section
blocks-end : (b : List ℕ) (frames : List Frame) (right rest : List ℕ) (last : Option Section) (ends : Option CaptureCode) → 4 ≤ length b → begins_section b ≡ true → AreBlocks None right frames last →
    StopsAtBlock last rest ends → b ≡ right ++ rest → HasFrames b ⊎ HasFault b
blocks-end b frames right rest last (Some code) room begins are stops whole =
    inr (record { frames = frames; code = code; at = length right; is = in_pcapng last right rest room begins whole are refl stops })
blocks-end b frames right rest last None room begins are stops whole =
    let all : b ≡ right = whole ∙ ap (λ (l : List ℕ). right ++ l) stops ∙ append-nil right in
    by (last-section None last right frames are) all where
      by : ((right ≡ []) × (last ≡ None)) ⊎ ((now : Section) × (last ≡ Some now)) → b ≡ right → HasFrames b ⊎ HasFault b
      by (inl none) all = absurd (omega (arith, room, ap length all, ap length none.0))
      by (inr has) all = inl (frames, pcapng_capture has.0 (subst (λ (l : Option Section). AreBlocks None b frames l) has.1 (subst (λ (l : List ℕ). AreBlocks None l frames last) (sym all) are)))

behind-section : (b : List ℕ) → 4 ≤ length b → begins_section b ≡ true → HasFrames b ⊎ HasFault b
behind-section b room begins =
    let w = walk-blocks (suc (length b)) None b (λ e. begins) (omega arith) in
    blocks-end b w.frames w.blocks w.rest w.last w.ends room begins w.are w.stops w.whole

pub each : (b : List ℕ) → HasFrames b ⊎ HasFault b
each b =
    elim (cases_lt (length b) 4) [
      | inl less ↦ inr (front-faulty b codes.Cut (too_short less refl))
      | inr begun ↦
          elim (cases_Bool (begins_section b)) [
            | inl begins ↦ behind-section b (omega (arith, begun)) begins
            | inr other ↦
                elim (magic-cases b other) [
                  | inr none ↦ inr (front-faulty b codes.Magic (no_kind begun none refl))
                  | inl has ↦ behind-magic has.0 b begun has.1
                ]
          ]
    ]
