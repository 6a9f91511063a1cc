-- Where a reader stands after a step.
use Rattle.std.proofs.Common.{◌≡◌, ◌+◌, ◌⊎◌, ◌<◌, ◌∙◌, ℕ, Bool, true, false, is_some, List, [], ◌∷◌, ◌++◌, Result, Ok, Err, Option, Some, None, length, take, ap, sym, refl, inl, inr, subst, arith, append_assoc, append-nil}
use Rattle.std.proofs.lemmas.Bool.{false≢true}
use Rattle.std.proofs.lemmas.List.{length-append, length-take}
use Rattle.rip_capture.specs.Captures.{CaptureFault, FrontFault, HasNoMore, IsRead}
use Rattle.rip_capture.specs.Captures.CaptureFault.{front as at_front, pcap as in_pcap}
use Rattle.rip_capture.specs.Captures.IsCapture.{pcap as pcap_capture, pcapng as pcapng_capture}
use Rattle.rip_capture.specs.Captures.IsRead.{none as nothing_read, capture as capture_read}
use Rattle.rip_capture.specs.Codes.{EndsFor, is_read}
use Rattle.rip_log.specs.Feeds.{held}
use Rattle.rip_capture.specs.Feeds.{Keeps, Skips, Takes}
use Rattle.rip_capture.specs.Finds.{FindsHeader, FindsRecord, IsFound}
use Rattle.rip_log.proofs.WholeLemmas.{went_on}
use Rattle.rip_log.specs.Wholes.{Went}
use Rattle.rip_capture.specs.NextCall.{EndsHere, HasRead, HoldsPacket, IsFar, IsOver, IsReady, Runs, Stands, StopsAt, TakesPacket, held_by, section_by, source_of}
use Rattle.rip_capture.specs.Pcap.{Frame, HoldsRecord, IsPcap, RecordFault, frame_in}
use Rattle.rip_capture.specs.Pcapng.{Section}
use Rattle.rip_capture.specs.Steps.{Begins, StandsAt, TakesBlock, frame_at, place_at}
use Rattle.rip_capture.proofs.FileLemmas.{front-most, record-most, record-next}
use Rattle.rip_capture.proofs.PcapLemmas.{IsPcap-none, IsPcap-snoc, record-of}
use Rattle.rip_capture.specs.declared.blocks.Block.{Block}
use Rattle.rip_capture.specs.declared.error.CaptureCode.{CaptureCode}
use Rattle.rip_capture.specs.declared.error.CaptureCode.TheVariants.{Read}
use Rattle.rip_capture.specs.declared.error.CaptureError.{CaptureError}
use Rattle.rip_log.specs.declared.feed.Feed.{Feed}
use Rattle.rip_capture.specs.declared.pcap.PcapHeader.{PcapHeader}
use Rattle.rip_capture.specs.declared.reader.CaptureReader.{CaptureReader}
use Rattle.rip_capture.specs.declared.reader.Found.{Found}
use Rattle.rip_capture.specs.declared.reader.Format.{Format}
use Rattle.rip_capture.specs.declared.reader.Step.TheVariants.{Packet}
use Rattle.rip_capture.specs.declared.reader.Format.TheVariants.{Pcap, Pcapng}

pub read-capture : (f : Option Format) (now : Section) (taken : List ℕ) (frames : List Frame) → HasRead f now taken frames → IsRead taken frames
read-capture None now taken frames h = nothing_read h.0 h.1
read-capture (Some (Pcap h)) now taken frames is = capture_read (pcap_capture h.order h.framing is)
read-capture (Some Pcapng) now taken frames are = capture_read (pcapng_capture now are)

-- where nothing was taken
pub Stands-kept : {R : Type 0} (given : R → List ℕ) (before taken : List ℕ) (frames : List Frame) (old new : CaptureReader R) → Keeps given old.parts.feed new.parts.feed → new.position ≡ old.position →
    new.format ≡ old.format → section_by new ≡ section_by old → Stands given before old taken frames → Stands given before new taken frames
Stands-kept given before taken frames old new keeps position format section s = record {
  gave = keeps (before ++ taken) s.gave;
  position = position ∙ s.position;
  read = subst (λ (n : Section). HasRead new.format n taken frames) (sym section) (subst (λ (f : Option Format). HasRead f (section_by old) taken frames) (sym format) s.read);
}

-- some bytes more were taken
more-taken : {R : Type 0} (given : R → List ℕ) (before taken more : List ℕ) (old mid new : Feed R) → Keeps given old mid → Takes given mid new more → given old.source ≡ before ++ taken ++ held old →
    given new.source ≡ before ++ (taken ++ more) ++ held new
more-taken given before taken more old mid new keeps takes gave =
    takes (before ++ taken) (keeps (before ++ taken) gave) ∙ ap (λ l. l ++ held new) (append_assoc before taken more)

-- the record of a packet
pub TakesPacket-found : {R : Type 0} (given : R → List ℕ) (before taken : List ℕ) (frames : List Frame) (frame : Frame) (old new : CaptureReader R) (mid : Feed R) (h : PcapHeader) (n : ℕ)
    (at_end : Bool)
    → old.format ≡ Some (Pcap h) → new.format ≡ Some (Pcap h) → Keeps given old.parts.feed mid → FindsRecord h.order (held mid) at_end (Ok (Some n)) → Takes given mid new.parts.feed (take (16 + n) (held mid))
    → new.position ≡ old.position + (16 + n) → frame ≡ frame_in h.order h.framing (take (16 + n) (held mid))
    → Stands given before old taken frames → TakesPacket given before frames frame old.position new
TakesPacket-found given before taken frames frame old new mid h n at_end was is keeps finds takes position frame_is s =
    let more = take (16 + n) (held mid) in
    let right : IsPcap taken h.order h.framing frames = subst (λ (f : Option Format). HasRead f (section_by old) taken frames) was s.read in
    let one = subst (λ (f : Frame). IsPcap (taken ++ more) h.order h.framing (frames ++ f ∷ [])) (sym frame_is)
    (IsPcap-snoc h.order h.framing taken more (frame_in h.order h.framing more) frames right (record-of h.order h.framing (held mid) n finds.0 finds.1 finds.2)) in
    record {
      front = taken;
      bytes = more;
      right = pcap_capture h.order h.framing right;
      place_is = s.position;
      longer = pcap_capture h.order h.framing one;
      next = record-next h.order h.framing taken more frames right;
      stands = record {
        gave = more-taken given before taken more old.parts.feed mid new.parts.feed keeps takes s.gave;
        position = omega (arith, position, s.position, length-append taken more, length-take (16 + n) (held mid), finds.0);
        read = subst (λ (f : Option Format). HasRead f (section_by new) (taken ++ more) (frames ++ frame ∷ [])) (sym is) one;
      };
    }

-- the end of the file
pub EndsHere-found : {R : Type 0} (given : R → List ℕ) (at_end : R → Bool) (before taken : List ℕ) (frames : List Frame) (old new : CaptureReader R) (h : PcapHeader)
    → old.format ≡ Some (Pcap h) → Keeps given old.parts.feed new.parts.feed → new.position ≡ old.position → new.format ≡ old.format → section_by new ≡ section_by old
    → FindsRecord h.order (held new.parts.feed) (at_end new.parts.feed.source) (Ok None)
    → Stands given before old taken frames → EndsHere given at_end before frames new
EndsHere-found given at_end before taken frames old new h was keeps position format section finds s = record {
  file = taken;
  right = pcap_capture h.order h.framing (subst (λ (f : Option Format). HasRead f (section_by old) taken frames) was s.read);
  all = finds.0;
  ended = finds.1;
  stands = Stands-kept given before taken frames old new keeps position format section s;
}

-- a fault that is told of a record, of the whole file
record-fault : (h : PcapHeader) (taken rest : List ℕ) (frames : List Frame) (code : CaptureCode) (at : ℕ) (at_end : Bool) → at ≡ length taken → IsPcap taken h.order h.framing frames →
    (code ≡ Read) ⊎ (RecordFault h.order rest code × EndsFor code at_end) → is_read code ≡ false → CaptureFault (taken ++ rest) frames code at
record-fault h taken rest frames code at at_end place right (inl e) calm = absurd (false≢true (sym calm ∙ ap is_read e))
record-fault h taken rest frames code at at_end place right (inr f) calm = in_pcap h.order h.framing taken rest refl right place f.0

-- and of the front
front-fault : (taken rest : List ℕ) (frames : List Frame) (code : CaptureCode) (at_end : Bool) → taken ≡ [] → frames ≡ [] → (code ≡ Read) ⊎ (FrontFault rest code × EndsFor code at_end) →
    is_read code ≡ false → CaptureFault (taken ++ rest) frames code 0
front-fault taken rest frames code at_end none no_frames (inl e) calm = absurd (false≢true (sym calm ∙ ap is_read e))
front-fault taken rest frames code at_end none no_frames (inr f) calm =
    at_front no_frames refl (subst (λ (l : List ℕ). FrontFault (l ++ rest) code) (sym none) f.0)

-- a cut is told at the end alone
fault-ends : {F : Type 0} (code : CaptureCode) (at_end : Bool) → (code ≡ Read) ⊎ (F × EndsFor code at_end) → EndsFor code at_end
fault-ends code at_end (inl e) cut = cc (e, cut)
fault-ends code at_end (inr f) cut = f.1 cut

-- a fault of a record, or a failure there
pub StopsAt-record : {R : Type 0} (given : R → List ℕ) (at_end : R → Bool) (before taken : List ℕ) (frames : List Frame) (old new : CaptureReader R) (h : PcapHeader) (code : CaptureCode)
    → old.format ≡ Some (Pcap h) → Keeps given old.parts.feed new.parts.feed → new.position ≡ old.position → (code ≡ Read) ⊎ (RecordFault h.order (held new.parts.feed) code × EndsFor code (at_end new.parts.feed.source))
    → (is_read code ≡ true → ¬ HoldsRecord h.order (held new.parts.feed))
    → Stands given before old taken frames → StopsAt given at_end before frames (record { code = code; at = old.position }) new
StopsAt-record given at_end before taken frames old new h code was keeps position finds short s =
    let right : IsPcap taken h.order h.framing frames = subst (λ (f : Option Format). HasRead f (section_by old) taken frames) was s.read in
    record {
      front = taken;
      rest = held new.parts.feed;
      gave = keeps (before ++ taken) s.gave;
      read = capture_read (pcap_capture h.order h.framing right);
      place = s.position;
      position = position ∙ s.position;
      fault = record-fault h taken (held new.parts.feed) frames code old.position (at_end new.parts.feed.source) s.position right finds;
      all = λ failed. inl (record-most h.order h.framing taken (held new.parts.feed) frames right (short failed));
      ended = fault-ends code (at_end new.parts.feed.source) finds;
    }

-- where the next record may end past the greatest offset
pub StopsAt-far : {R : Type 0} (given : R → List ℕ) (at_end : R → Bool) (before taken : List ℕ) (frames : List Frame) (old new : CaptureReader R) (h : PcapHeader)
    → old.format ≡ Some (Pcap h) → Keeps given old.parts.feed new.parts.feed → new.position ≡ old.position → IsFar new
    → Stands given before old taken frames → StopsAt given at_end before frames (record { code = Read; at = old.position }) new
StopsAt-far given at_end before taken frames old new h was keeps position far s = record {
  front = taken;
  rest = held new.parts.feed;
  gave = keeps (before ++ taken) s.gave;
  read = capture_read (pcap_capture h.order h.framing (subst (λ (f : Option Format). HasRead f (section_by old) taken frames) was s.read));
  place = s.position;
  position = position ∙ s.position;
  fault = λ calm. cc calm;
  all = λ failed. inr far;
  ended = λ cut. cc cut;
}

-- a fault of the front, or a failure there
pub StopsAt-front : {R : Type 0} (given : R → List ℕ) (at_end : R → Bool) (before taken : List ℕ) (frames : List Frame) (old new : CaptureReader R) (code : CaptureCode)
    → old.format ≡ None → Keeps given old.parts.feed new.parts.feed → new.position ≡ old.position → FindsHeader (held new.parts.feed) (at_end new.parts.feed.source) (Err code)
    → (is_read code ≡ true → length (held new.parts.feed) < 24)
    → Stands given before old taken frames → StopsAt given at_end before frames (record { code = code; at = 0 }) new
StopsAt-front given at_end before taken frames old new code was keeps position finds short s =
    let none : HasRead None (section_by old) taken frames = subst (λ (f : Option Format). HasRead f (section_by old) taken frames) was s.read in
    record {
      front = taken;
      rest = held new.parts.feed;
      gave = keeps (before ++ taken) s.gave;
      read = nothing_read none.0 none.1;
      place = sym (ap length none.0);
      position = position ∙ s.position;
      fault = front-fault taken (held new.parts.feed) frames code (at_end new.parts.feed.source) none.0 none.1 finds;
      all = λ failed. inl (subst (λ (l : List ℕ). HasNoMore (l ++ held new.parts.feed) frames) (sym none.0) (front-most (held new.parts.feed) frames (short failed)));
      ended = fault-ends code (at_end new.parts.feed.source) finds;
    }

-- the header
pub Stands-begun : {R : Type 0} (given : R → List ℕ) (before taken : List ℕ) (frames : List Frame) (old new : CaptureReader R) (mid : Feed R) (h : PcapHeader) (at_end : Bool)
    → old.format ≡ None → new.format ≡ Some (Pcap h) → Keeps given old.parts.feed mid → FindsHeader (held mid) at_end (Ok h) → Takes given mid new.parts.feed (take 24 (held mid)) → new.position ≡ 24
    → Stands given before old taken frames → Stands given before new (taken ++ take 24 (held mid)) frames
Stands-begun given before taken frames old new mid h at_end was is keeps finds takes position s =
    let more = take 24 (held mid) in
    let none : HasRead None (section_by old) taken frames = subst (λ (f : Option Format). HasRead f (section_by old) taken frames) was s.read in
    let alone : more ≡ taken ++ more = ap (λ (l : List ℕ). l ++ more) (sym none.0) in
    let header = IsPcap-none h.order h.framing more finds.1 in
    let whole : IsPcap (taken ++ more) h.order h.framing frames =
    subst (λ (l : List ℕ). IsPcap l h.order h.framing frames) alone (subst (λ (l : List Frame). IsPcap more h.order h.framing l) (sym none.1) header) in
    record {
      gave = more-taken given before taken more old.parts.feed mid new.parts.feed keeps takes s.gave;
      position = position ∙ sym finds.1.size ∙ ap length alone;
      read = subst (λ (f : Option Format). HasRead f (section_by new) (taken ++ more) frames) (sym is) whole;
    }

-- an error that is kept, to be answered again
pub Runs-refused : {R : Type 0} (given : R → List ℕ) (coming : R → Option (List ℕ)) (broken at_end : R → Bool) (old mid new : CaptureReader R) (e : CaptureError)
    → new ≡ record mid { refusal = Some e } → Runs given coming broken at_end (frame_at mid) place_at old mid (Err e) → Runs given coming broken at_end (frame_at new) place_at old new (Err e)
Runs-refused {R = R} given coming broken at_end old mid new e is r =
    subst (λ (n : CaptureReader R). Runs given coming broken at_end (frame_at n) place_at old n (Err e)) (sym is) (record {
      goes = λ before taken frames s. let m = r.goes before taken frames s in record {
        front = m.front;
        rest = m.rest;
        gave = m.gave;
        read = m.read;
        place = m.place;
        position = m.position;
        fault = m.fault;
        all = m.all;
        ended = m.ended;
      };
      moves = record { went = r.moves.went; failed = r.moves.failed; marks = r.moves.marks };
      over = λ h. cc h;
      stays_over = r.stays_over;
      ready = r.ready;
    })

begun-is : (f : Option Format) → is_some f ≡ true → (h : Format) × (f ≡ Some h)
begun-is None b = cc b
begun-is (Some h) b = (h, refl)

packet-begun : (f : Option Format) (now : Section) (b : List ℕ) → HoldsPacket f now b → is_some f ≡ true
packet-begun None now b holds = absurd holds
packet-begun (Some f) now b holds = refl

-- behind a header that was read now or before
pub Runs-on : {R : Type 0} (given : R → List ℕ) (coming : R → Option (List ℕ)) (broken at_end : R → Bool) (old mid new : CaptureReader R) (h : Format) (result : Result (Option Found) CaptureError)
    → Begins given coming broken at_end old mid (Ok h) → Runs given coming broken at_end (frame_at new) place_at mid new result → Runs given coming broken at_end (frame_at new) place_at old new result
Runs-on {R = R} given coming broken at_end old mid new h result b r = record {
  goes = λ before taken frames s. let m = b.goes before taken frames s in r.goes before m.0 frames m.1;
  moves = record {
    went = went_on given coming at_end (source_of old) (source_of mid) (source_of new) b.moves.went r.moves.went;
    failed = r.moves.failed;
    marks = λ calm. r.moves.marks calm ∙ b.moves.marks refl;
  };
  over = r.over;
  stays_over = λ o. let is = begun-is old.format o.begun in r.stays_over (subst (λ (n : CaptureReader R). IsOver at_end n) (sym (b.kept is.0 is.1).1) o);
  ready = λ holds.
      let is = begun-is old.format (packet-begun old.format (section_by old) (held_by old) holds) in
      let same = (b.kept is.0 is.1).1 in
      r.ready (subst (λ (n : CaptureReader R). IsReady n) (sym same) holds) ∙ ap (λ (n : CaptureReader R). source_of n) same;
}

-- where it could not be read
pub Runs-stopped : {R : Type 0} (given : R → List ℕ) (coming : R → Option (List ℕ)) (broken at_end : R → Bool) (old new : CaptureReader R) (e : CaptureError)
    → Begins given coming broken at_end old new (Err e) → Runs given coming broken at_end (frame_at new) place_at old new (Err e)
Runs-stopped given coming broken at_end old new e b = record {
  goes = b.goes;
  moves = record { went = b.moves.went; failed = b.moves.failed; marks = b.moves.marks };
  over = λ h. cc h;
  stays_over = λ o. let is = begun-is old.format o.begun in cc (b.kept is.0 is.1).0;
  ready = λ holds. let is = begun-is old.format (packet-begun old.format (section_by old) (held_by old) holds) in cc (b.kept is.0 is.1).0;
}

-- where only the first bytes of the front were filled in
pub Begins-behind : {R : Type 0} (given : R → List ℕ) (coming : R → Option (List ℕ)) (broken at_end : R → Bool) (old mid new : CaptureReader R) (result : Result Format CaptureError)
    → old.format ≡ None → mid.format ≡ old.format → section_by mid ≡ section_by old → mid.position ≡ old.position → mid.refusal ≡ old.refusal → Keeps given old.parts.feed mid.parts.feed
    → Went given coming at_end (source_of old) (source_of mid) → broken (source_of mid) ≡ broken (source_of old)
    → Begins given coming broken at_end mid new result → Begins given coming broken at_end old new result
Begins-behind given coming broken at_end old mid new result was format section position refusal keeps went marks b = record {
  goes = λ before taken frames s. b.goes before taken frames (Stands-kept given before taken frames old mid keeps position format section s);
  moves = record {
    went = went_on given coming at_end (source_of old) (source_of mid) (source_of new) went b.moves.went;
    failed = b.moves.failed;
    marks = λ calm. b.moves.marks calm ∙ marks;
  };
  format = b.format;
  kept = λ f is. let wrong : None ≡ Some f = sym was ∙ is in absurd (cc wrong);
  refusal = b.refusal ∙ refusal;
}

-- ---- blocks

pub block-stands : {R : Type 0} (given : R → List ℕ) (before taken : List ℕ) (frames : List Frame) (old mid : CaptureReader R) (passed : List ℕ) (block : Block)
    → old.format ≡ Some Pcapng → mid.position ≡ old.position → section_by mid ≡ section_by old → Skips given old.parts.feed mid.parts.feed passed → IsFound (Some (section_by old).order) passed (held_by mid) block
    → Stands given before old taken frames → StandsAt given before mid taken passed frames (Some (section_by old)) block
block-stands given before taken frames old mid passed block was position section skips found s = record {
  gave = skips.takes (before ++ taken) s.gave ∙ append_assoc (before ++ taken) passed (held_by mid);
  position = position ∙ s.position;
  read = subst (λ (f : Option Format). HasRead f (section_by old) taken frames) was s.read;
  stands = λ now e. let same : section_by old ≡ now = cc e in sym same ∙ sym section;
  found = found;
}

pub block-ends : {R : Type 0} (given : R → List ℕ) (at_end : R → Bool) (before taken : List ℕ) (frames : List Frame) (old new : CaptureReader R) (passed : List ℕ)
    → old.format ≡ Some Pcapng → new.position ≡ old.position → new.format ≡ old.format → section_by new ≡ section_by old → passed ≡ [] → held_by new ≡ [] → at_end (source_of new) ≡ true
    → Skips given old.parts.feed new.parts.feed passed
    → Stands given before old taken frames → EndsHere given at_end before frames new
block-ends given at_end before taken frames old new passed was position format section none all ended skips s =
    let are : HasRead (Some Pcapng) (section_by old) taken frames = subst (λ (f : Option Format). HasRead f (section_by old) taken frames) was s.read in
    record {
      file = taken;
      right = pcapng_capture (section_by old) are;
      all = all;
      ended = ended;
      stands = record {
        gave = skips.takes (before ++ taken) s.gave ∙ ap (λ (l : List ℕ). ((before ++ taken) ++ l) ++ held_by new) none ∙ ap (λ (l : List ℕ). l ++ held_by new) (append-nil (before ++ taken));
        position = position ∙ s.position;
        read = subst (λ (n : Section). HasRead new.format n taken frames) (sym section) (subst (λ (f : Option Format). HasRead f (section_by old) taken frames) (sym format) s.read);
      };
    }

pub TakesPacket-block : {R : Type 0} (given : R → List ℕ) (before taken : List ℕ) (frames : List Frame) (mid new : CaptureReader R) (found : Found)
    → mid.format ≡ Some Pcapng → new.format ≡ Some Pcapng → Stands given before mid taken frames → TakesBlock given before taken frames new (Packet found)
    → TakesPacket given before frames (frame_at new found) (place_at found) new
TakesPacket-block given before taken frames mid new found was is s b = record {
  front = taken;
  bytes = b.more;
  right = pcapng_capture (section_by mid) (subst (λ (f : Option Format). HasRead f (section_by mid) taken frames) was s.read);
  place_is = b.brings;
  longer = pcapng_capture (section_by new) b.read;
  next = b.next (frame_at new found) refl;
  stands = record {
    gave = b.gave;
    position = b.position;
    read = subst (λ (f : Option Format). HasRead f (section_by new) (taken ++ b.more) (frames ++ frame_at new found ∷ [])) (sym is) b.read;
  };
}
