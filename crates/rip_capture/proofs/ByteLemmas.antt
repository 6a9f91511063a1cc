-- What holds of each byte of a file holds of those of its packets.
use Rattle.std.proofs.Common.{ap, ◌+◌, ◌-◌, ℕ, zero, suc, List, [], ◌∷◌, ◌++◌, Option, Some, None, take, drop, subst, sym}
use Rattle.std.specs.List.{AllByRecursion}
use Rattle.std.specs.Prelude.{slice_range}
use Rattle.rip_capture.specs.Captures.{CaptureFault, IsCapture}
use Rattle.rip_capture.specs.Captures.CaptureFault.{front, pcap as in_pcap, pcapng as in_pcapng}
use Rattle.rip_capture.specs.Captures.IsCapture.{pcap, pcapng}
use Rattle.rip_capture.specs.Pcap.{AreRecords, Frame}
use Rattle.rip_capture.specs.Pcapng.{AreBlocks, Does, Section, kind_of, packet_from, packet_len}
use Rattle.rip_capture.specs.Pcapng.AreBlocks.{none as no_blocks, more as more_blocks}
use Rattle.rip_capture.specs.Pcapng.Does.{section, interface, packet, other}
use Rattle.rip_capture.specs.declared.blocks.BlockKind.{BlockKind}
use Rattle.rip_capture.specs.declared.error.CaptureCode.{CaptureCode}
use Rattle.rip_capture.specs.declared.pcap.Framing.{Framing}
use Rattle.rip_capture.specs.declared.numbers.Order.{Order}

module _ {X : Type 0} (P : X → Type 0) where
  pub all-left : (xs ys : List X) → AllByRecursion P (xs ++ ys) → AllByRecursion P xs
  all-left [] ys h = tt
  all-left (x ∷ xs) ys h = (h.0, all-left xs ys h.1)

  pub all-right : (xs ys : List X) → AllByRecursion P (xs ++ ys) → AllByRecursion P ys
  all-right [] ys h = h
  all-right (x ∷ xs) ys h = all-right xs ys h.1

  pub all-both : (xs ys : List X) → AllByRecursion P xs → AllByRecursion P ys → AllByRecursion P (xs ++ ys)
  all-both [] ys h k = k
  all-both (x ∷ xs) ys h k = (h.0, all-both xs ys h.1 k)

  pub all-take : (n : ℕ) (xs : List X) → AllByRecursion P xs → AllByRecursion P (take n xs)
  all-take zero xs h = tt
  all-take (suc n) [] h = tt
  all-take (suc n) (x ∷ xs) h = (h.0, all-take n xs h.1)

  pub all-drop : (n : ℕ) (xs : List X) → AllByRecursion P xs → AllByRecursion P (drop n xs)
  all-drop zero xs h = h
  all-drop (suc n) [] h = tt
  all-drop (suc n) (x ∷ xs) h = all-drop n xs h.1

records-bytes : (P : ℕ → Type 0) (order : Order) (t : Framing) (b : List ℕ) (fs : List Frame) → AreRecords order t b fs → AllByRecursion P b → AllByRecursion (λ f. AllByRecursion P f.bytes) fs
records-bytes P order t b [] h all = tt
records-bytes P order t b (f ∷ fs) (first, rest, is, are, whole) all =
    let both = subst (AllByRecursion P) whole all in
    (subst (AllByRecursion P) (sym (ap (λ (f : Frame). f.bytes) is.frame_is)) (all-drop P 16 first (all-left P first rest both)), records-bytes P order t rest fs are (all-right P first rest both))

range-bytes : (P : ℕ → Type 0) (xs : List ℕ) (i j : ℕ) → AllByRecursion P xs → AllByRecursion P (slice_range xs i j)
range-bytes P xs i j all = all-take P (j - i) (drop i xs) (all-drop P i xs all)

does-bytes : (P : ℕ → Type 0) (s : Option Section) (order : Order) (b : List ℕ) (kind : BlockKind) (fs : List Frame) (t : Section) → Does s order b kind fs t → AllByRecursion P b →
    AllByRecursion (λ f. AllByRecursion P f.bytes) fs
does-bytes P s order b kind fs t (section k v none e) all = subst (AllByRecursion (λ (f : Frame). AllByRecursion P f.bytes)) (sym none) tt
does-bytes P s order b kind fs t (interface now i k at few told none e) all = subst (AllByRecursion (λ (f : Frame). AllByRecursion P f.bytes)) (sym none) tt
does-bytes P s order b kind fs t (packet now form f k at is one e) all =
    subst (AllByRecursion (λ (f : Frame). AllByRecursion P f.bytes)) (sym one) (
      subst (AllByRecursion P) (sym is.bytes)
          (range-bytes P b (packet_from form) (packet_from form + packet_len order form b is.interface) all),
      tt,
    )
does-bytes P s order b kind fs t (other now k at none e) all = subst (AllByRecursion (λ (f : Frame). AllByRecursion P f.bytes)) (sym none) tt

blocks-bytes : (P : ℕ → Type 0) (s l : Option Section) (b : List ℕ) (fs : List Frame) → AreBlocks s b fs l → AllByRecursion P b → AllByRecursion (λ f. AllByRecursion P f.bytes) fs
blocks-bytes P s l b fs (no_blocks _ _ _ _ empty none is) all = subst (AllByRecursion (λ (f : Frame). AllByRecursion P f.bytes)) (sym none) tt
blocks-bytes P s l b fs (more_blocks _ _ _ _ order first rest mine theirs next is does are whole split) all =
    let both = subst (AllByRecursion P) whole all in
    subst (AllByRecursion (λ (f : Frame). AllByRecursion P f.bytes)) (sym split)
    (all-both (λ (f : Frame). AllByRecursion P f.bytes) mine theirs (does-bytes P s order first (kind_of order first) mine next does (all-left P first rest both))
    (blocks-bytes P (Some next) l rest theirs are (all-right P first rest both)))

pub capture-bytes : (P : ℕ → Type 0) (b : List ℕ) (fs : List Frame) → IsCapture b fs → AllByRecursion P b → AllByRecursion (λ f. AllByRecursion P f.bytes) fs
capture-bytes P b fs (pcap order t h) all =
    records-bytes P order t h.records fs h.are_records (all-right P h.header h.records (subst (AllByRecursion P) h.whole all))
capture-bytes P b fs (pcapng now h) all = blocks-bytes P None (Some now) b fs h all

pub fault-bytes : (P : ℕ → Type 0) (b : List ℕ) (fs : List Frame) (code : CaptureCode) (at : ℕ) → CaptureFault b fs code at → AllByRecursion P b → AllByRecursion (λ f. AllByRecursion P f.bytes) fs
fault-bytes P b fs code at (front none place fault) all = subst (AllByRecursion (λ (f : Frame). AllByRecursion P f.bytes)) (sym none) tt
fault-bytes P b fs code at (in_pcap order t right rest split is place fault) all =
    capture-bytes P right fs (pcap order t is) (all-left P right rest (subst (AllByRecursion P) split all))
fault-bytes P b fs code at (in_pcapng s right rest room begins split are place fault) all =
    blocks-bytes P None s right fs are (all-left P right rest (subst (AllByRecursion P) split all))
