-- From a block that was found to where a reader stands behind it, or stops.
use Rattle.std.proofs.Common.{◌≡◌, ◌≢◌, ◌⊎◌, ◌+◌, ◌≤◌, ◌∙◌, ℕ, Bool, true, false, List, [], ◌++◌, Option, Some, None, Ok, Err, length, take, drop, ap, sym, refl, inl, inr, subst, arith, append_assoc}
use Rattle.std.proofs.lemmas.Bool.{false≢true}
use Rattle.std.proofs.lemmas.List.{append_cancel_left, length-append, length-take, take-append-drop}
use Rattle.std.proofs.Math.Seq.{take-append-add}
use Rattle.std.specs.Prelude.{slice_range}
use Rattle.rip_capture.specs.Bodies.{LiesAt, ReadsBody, entered}
use Rattle.rip_capture.specs.Captures.{CaptureFault, IsRead}
use Rattle.rip_capture.specs.Captures.CaptureFault.{pcapng as in_pcapng}
use Rattle.rip_capture.specs.Captures.IsCapture.{pcapng as pcapng_capture}
use Rattle.rip_capture.specs.Captures.IsRead.{none as nothing_read, capture as capture_read}
use Rattle.rip_capture.specs.Codes.{is_read}
use Rattle.rip_capture.specs.Feeds.{Extends, Skips, Takes}
use Rattle.rip_capture.specs.Finds.{HoldsBlock, IsFound, NoNextBlock}
use Rattle.rip_capture.specs.NextCall.{IsFar, StopsAt, held_by, position_of, section_by, source_of}
use Rattle.rip_capture.specs.Pcap.{Frame}
use Rattle.rip_capture.specs.Pcapng.{AreBlocks, BlockFault, Does, IsBlock, Section, begins_section, front_len, is_read_whole, kind_of, order_of}
use Rattle.rip_capture.specs.Pcapng.AreBlocks.{none as no_blocks, more as more_blocks}
use Rattle.rip_capture.specs.Pcapng.BlockFault.{ordered}
use Rattle.rip_capture.specs.Pcapng.OrderedFault.{body as bad_body}
use Rattle.rip_log.specs.Spans.{slice_of}
use Rattle.rip_capture.specs.Steps.{BringsAt, StandsAt, TakesBlock, TakesSo, frames_of}
use Rattle.rip_capture.proofs.BlockLemmas.{front-least, front-most, front-stays, kind-stays, order-one, order-stays, section-stays}
use Rattle.rip_capture.proofs.BodyLemmas.{block-unread, body-fault-in, does-of, frames-in, range-range, reads-whole}
use Rattle.rip_capture.proofs.EachBlockLemmas.{last-section}
use Rattle.rip_capture.proofs.FeedLemmas.{Extends-length, Extends-take}
use Rattle.rip_capture.proofs.FileLemmas.{block-most, packet-next}
use Rattle.rip_capture.proofs.PcapngLemmas.{block-least, blocks-snoc, blocks-start, first-begins, front-of, no-block, section-kind}
use Rattle.rip_capture.specs.declared.blocks.Block.{Block}
use Rattle.rip_capture.specs.declared.blocks.BlockKind.{BlockKind}
use Rattle.rip_capture.specs.declared.blocks.BlockKind.TheVariants as kinds
use Rattle.rip_capture.specs.declared.interface.Interface.{Interface}
use Rattle.rip_capture.specs.declared.bodies.Body.{Body}
use Rattle.rip_capture.specs.declared.bodies.Body.TheVariants as says
use Rattle.rip_capture.specs.declared.error.CaptureCode.{CaptureCode}
use Rattle.rip_capture.specs.declared.error.CaptureCode.TheVariants.{Cut, Read}
use Rattle.rip_capture.specs.declared.error.CaptureError.{CaptureError}
use Rattle.rip_capture.specs.declared.bodies.PacketBody.{PacketBody}
use Rattle.rip_capture.specs.declared.numbers.Order.{Order}
use Rattle.rip_capture.specs.declared.reader.CaptureReader.{CaptureReader}
use Rattle.rip_capture.specs.declared.reader.Step.{Step}
use Rattle.rip_log.specs.declared.span.Span.{Span}

-- ---- a block that was found

module _ {R : Type 0} (given : R → List ℕ) (before taken passed : List ℕ) (frames : List Frame) (s : Option Section) (old : CaptureReader R) (block : Block)
    (st : StandsAt given before old taken passed frames s block) where
  -- the block
  abbrev first : List ℕ
  first = take block.len (passed ++ held_by old)

  inside : block.len ≤ length (passed ++ held_by old)
  inside = omega (arith, st.found.size, st.found.held, length-append passed (held_by old))

  first-len : length first ≡ block.len
  first-len = length-take block.len (passed ++ held_by old) ∙ omega (arith, inside)

  only : s ≡ None → block.kind ≡ kinds.Section
  only none =
      let is : IsBlock None block.order first = subst (λ (z : Option Section). IsBlock (order_of z) block.order first) none st.found.is_block in
      st.found.kind ∙ section-kind block.order first (first-begins block.order first is)

  -- what is held of a block that is read is all of it
  all-held : is_read_whole block.kind ≡ true → take block.held (held_by old) ≡ first
  all-held read =
      let none = st.found.read read in
      let size : block.held ≡ block.len = omega (arith, st.found.size, ap length none) in
      ap (λ (n : ℕ). take n (held_by old)) size ∙ ap (λ (l : List ℕ). take block.len (l ++ held_by old)) (sym none)

  reads-err : (interfaces : List Interface) (code : CaptureCode) → ReadsBody block.order interfaces block.kind (take block.held (held_by old)) (Err code) →
      ReadsBody block.order interfaces (kind_of block.order first) first (Err code)
  reads-err interfaces code reads =
      let whole = reads-whole block.order interfaces (take block.held (held_by old)) block.kind code reads in
      subst (λ (k : BlockKind). ReadsBody block.order interfaces k first (Err code)) st.found.kind
      (subst (λ (l : List ℕ). ReadsBody block.order interfaces block.kind l (Err code)) (all-held whole) reads)

  same-body : (interfaces : List Interface) (body : Body) → is_read_whole block.kind ≡ true → ReadsBody block.order interfaces block.kind (take block.held (held_by old)) (Ok body) →
      ReadsBody block.order interfaces block.kind first (Ok body)
  same-body interfaces body whole reads = subst (λ (l : List ℕ). ReadsBody block.order interfaces block.kind l (Ok body)) (all-held whole) reads

  reads-here : (interfaces : List Interface) (body : Body) → ReadsBody block.order interfaces block.kind (take block.held (held_by old)) (Ok body) →
      ReadsBody block.order interfaces block.kind first (Ok body)
  reads-here interfaces says.Section reads = same-body interfaces says.Section (ap is_read_whole reads.0) reads
  reads-here interfaces (says.Interface i) reads = same-body interfaces (says.Interface i) (ap is_read_whole reads.0) reads
  reads-here interfaces (says.Packet p) reads = same-body interfaces (says.Packet p) (ap is_read_whole reads.1) reads
  reads-here interfaces says.Other reads = reads

  -- a fault of its body is one of the next block
  pub fault-took : (code : CaptureCode) → ReadsBody block.order (section_by old).interfaces block.kind (take block.held (held_by old)) (Err code) → BlockFault s (passed ++ held_by old) code
  fault-took code reads =
      let order = block.order in
      let least = block-least (order_of s) order first st.found.is_block in
      let on = Extends-take block.len (passed ++ held_by old) in
      let room : front_len first ≤ length first = omega (arith, front-most first, least) in
      let f = body-fault-in s (section_by old) order first (kind_of order first) code (λ none. sym st.found.kind ∙ only none) st.stands (reads-err (section_by old).interfaces code reads) in
      ordered order (omega (arith, front-stays first (passed ++ held_by old) (omega (arith, least)) on, room, Extends-length first (passed ++ held_by old) on))
      (order-stays (order_of s) order first (passed ++ held_by old) room on st.found.is_block.order_is)
      (bad_body first (drop block.len (passed ++ held_by old)) (sym (take-append-drop block.len (passed ++ held_by old))) st.found.is_block f)

  first-parts : first ≡ passed ++ take block.held (held_by old)
  first-parts = ap (λ (n : ℕ). take n (passed ++ held_by old)) (sym st.found.size) ∙ take-append-add passed (held_by old) block.held

  -- where it was taken
  pub took : (new : CaptureReader R) (body : Body) (step : Step) → Takes given old.parts.feed new.parts.feed (take block.held (held_by old)) → new.position ≡ old.position + block.len →
      section_by new ≡ entered (section_by old) block.order body
      → frames_of new step ≡ frames-in (section_by old).interfaces first body → BringsAt (length taken) step → ReadsBody block.order (section_by old).interfaces block.kind (take block.held (held_by old)) (Ok body)
      → TakesBlock given before taken frames new step
  took new body step takes position section framed brings reads =
      let order = block.order in
      let parted = take block.held (held_by old) in
      let here = reads-here (section_by old).interfaces body reads in
      let does = does-of s (section_by old) order first block.kind body st.found.young only st.stands here in
      let mine = frames-in (section_by old).interfaces first body in
      let goes : Does s order first (kind_of order first) mine (entered (section_by old) order body) =
      subst (λ (k : BlockKind). Does s order first k mine (entered (section_by old) order body)) st.found.kind does in
      let read = blocks-snoc None s taken first frames mine order (entered (section_by old) order body) st.read st.found.is_block goes in
      let placed : given (source_of new) ≡ (before ++ taken ++ passed ++ parted) ++ held_by new =
      takes (before ++ taken ++ passed) (st.gave ∙ sym (append_assoc (before ++ taken) passed (held_by old))) in
      record {
        more = first;
        gave = placed ∙ ap (λ (l : List ℕ). l ++ held_by new) (append_assoc (before ++ taken) passed parted ∙ append_assoc before taken (passed ++ parted) ∙ ap
            (λ (l : List ℕ). before ++ (taken ++ l)) (sym first-parts));
        position = omega (arith, position, st.position, length-append taken first, first-len);
        some = omega (arith, block-least (order_of s) order first st.found.is_block);
        read = subst (λ (n : Section). AreBlocks None (taken ++ first) (frames ++ frames_of new step) (Some n)) (sym section)
            (subst (λ (fs : List Frame). AreBlocks None (taken ++ first) (frames ++ fs) (Some (entered (section_by old) order body))) (sym framed) read);
        brings = brings;
        next = λ frame one. packet-next s (entered (section_by old) order body) taken first frames frame order st.read st.found.is_block
            (subst (λ (fs : List Frame). Does s order first (kind_of order first) fs (entered (section_by old) order body)) (sym framed ∙ one) goes);
      }

  pub first-kind : s ≡ None → block.kind ≡ kinds.Section
  first-kind none = only none

  -- the packet that lies in it, as it lies in the buffer
  pub packet-framed : (items : List ℕ) (at : Span) (p : PacketBody) (interfaces : List Interface) → slice_of items at ≡ take block.held (held_by old) → at.to ≡ at.from + block.held →
      ReadsBody block.order interfaces block.kind (take block.held (held_by old)) (Ok (says.Packet p))
      → slice_range items (at.from + p.bytes.from) (at.from + p.bytes.to) ≡ slice_range first p.bytes.from p.bytes.to
  packet-framed items at p interfaces lies size reads =
      let whole = all-held (ap is_read_whole reads.1) in
      let held = length-take block.held (held_by old) in
      let is : LiesAt block.order interfaces reads.0 (take block.held (held_by old)) p = reads.2 in
      range-range items at.from at.to p.bytes.from p.bytes.to (omega (arith, is.from, is.to)) (omega (arith, is.to, is.can.inside, held, size, st.found.held))
      ∙ ap (λ (l : List ℕ). slice_range l p.bytes.from p.bytes.to) (lies ∙ whole)

-- the bodies that bring no packet
pub frames-none : (interfaces : List Interface) (b : List ℕ) (body : Body) → (body ≡ says.Section) ⊎ (((i : Interface) × (body ≡ says.Interface i)) ⊎ (body ≡ says.Other)) →
    frames-in interfaces b body ≡ []
frames-none interfaces b body (inl e) = ap (frames-in interfaces b) e
frames-none interfaces b body (inr (inl h)) = ap (frames-in interfaces b) h.1
frames-none interfaces b body (inr (inr e)) = ap (frames-in interfaces b) e

pub no-packet : (body : Body) (p : PacketBody) → (body ≡ says.Section) ⊎ (((i : Interface) × (body ≡ says.Interface i)) ⊎ (body ≡ says.Other)) → body ≡ says.Packet p → ⊥
no-packet body p (inl e) is = cc (e, is)
no-packet body p (inr (inl h)) is = cc (h.1, is)
no-packet body p (inr (inr e)) is = cc (e, is)

-- ---- where a reader stops

-- what was read of blocks
blocks-read : (s : Option Section) (taken : List ℕ) (frames : List Frame) → AreBlocks None taken frames s → IsRead taken frames
blocks-read s taken frames (no_blocks _ _ _ _ empty none is) = nothing_read empty none
blocks-read s taken frames (more_blocks _ _ _ _ order first rest mine others next is does are whole split) = behind (last-section (Some next) s rest others are) where
  behind : ((rest ≡ []) × (s ≡ Some next)) ⊎ ((now : Section) × (s ≡ Some now)) → IsRead taken frames
  behind (inl e) =
      capture_read (pcapng_capture next (subst (λ (l : Option Section). AreBlocks None taken frames l) e.1 (more_blocks None taken frames s order first rest mine others next is does are whole split)))
  behind (inr h) =
      capture_read (pcapng_capture h.0 (subst (λ (l : Option Section). AreBlocks None taken frames l) h.1 (more_blocks None taken frames s order first rest mine others next is does are whole split)))

module _ {R : Type 0} (given : R → List ℕ) (at_end : R → Bool) (before taken b : List ℕ) (frames : List Frame) (s : Option Section) (new : CaptureReader R)
    (room : 4 ≤ length (taken ++ b)) (begins : begins_section (taken ++ b) ≡ true) (are : AreBlocks None taken frames s)
    (gave : given (source_of new) ≡ before ++ taken ++ b) (position : position_of new ≡ length taken) where
  fault-here : (code : CaptureCode) (at : ℕ) → at ≡ length taken → BlockFault s b code → CaptureFault (taken ++ b) frames code at
  fault-here code at place f = in_pcapng s taken b room begins refl are place f

  -- where no block is there
  pub stops-missing : (code : CaptureCode) (at : ℕ) → at ≡ length taken → NoNextBlock (order_of s) b (at_end (source_of new)) code →
      StopsAt given at_end before frames (record { code = code; at = at }) new
  stops-missing code at place (inl lacks) = record {
    front = taken;
    rest = b;
    gave = gave;
    read = blocks-read s taken frames are;
    place = place;
    position = position;
    fault = λ calm. absurd (false≢true (sym calm ∙ ap is_read lacks.0));
    all = λ failed. inl (block-most s taken b frames room begins are (no-block (order_of s) b lacks.1));
    ended = λ cut. cc (lacks.0, cut);
  }
  stops-missing code at place (inr f) = record {
    front = taken;
    rest = b;
    gave = gave;
    read = blocks-read s taken frames are;
    place = place;
    position = position;
    fault = λ calm. fault-here code at place (f.0 s refl);
    all = λ failed. absurd (false≢true (sym (block-unread s b code (f.0 s refl)) ∙ failed));
    ended = f.1;
  }

  -- where a block has a fault in its body, or is too far
  pub stops-taking : (code : CaptureCode) (at : ℕ) → at ≡ length taken → ((code ≡ Read) × IsFar new) ⊎ ((is_read code ≡ false) × (code ≢ Cut) × BlockFault s b code) →
      StopsAt given at_end before frames (record { code = code; at = at }) new
  stops-taking code at place (inl far) = record {
    front = taken;
    rest = b;
    gave = gave;
    read = blocks-read s taken frames are;
    place = place;
    position = position;
    fault = λ calm. absurd (false≢true (sym calm ∙ ap is_read far.0));
    all = λ failed. inr far.1;
    ended = λ cut. cc (far.0, cut);
  }
  stops-taking code at place (inr f) = record {
    front = taken;
    rest = b;
    gave = gave;
    read = blocks-read s taken frames are;
    place = place;
    position = position;
    fault = λ calm. fault-here code at place f.2;
    all = λ failed. absurd (false≢true (sym f.0 ∙ failed));
    ended = λ cut. absurd (f.1 cut);
  }

-- ---- the first section

-- blocks begin with a section
pub begun : (taken b : List ℕ) (frames : List Frame) (now : Section) → AreBlocks None taken frames (Some now) → (4 ≤ length (taken ++ b)) × (begins_section (taken ++ b) ≡ true)
begun taken b frames now are =
    let starts = blocks-start taken frames now are in
    (omega (arith, starts.long, length-append taken b), section-stays taken (taken ++ b) (omega (arith, starts.long)) (front-of taken b) ∙ starts.begins)

module _ {R : Type 0} (given : R → List ℕ) (at_end : R → Bool) (before taken passed : List ℕ) (frames : List Frame) (old mid : CaptureReader R)
    (none : (taken ≡ []) × (frames ≡ [])) (gave : given (source_of old) ≡ before ++ taken ++ held_by old) (position : position_of mid ≡ length taken)
    (room : 4 ≤ length (held_by old)) (begins : begins_section (held_by old) ≡ true) (skips : Skips given old.parts.feed mid.parts.feed passed) where
  abbrev behind : List ℕ
  behind = passed ++ held_by mid

  gave-behind : given (source_of mid) ≡ before ++ [] ++ behind
  gave-behind = skips.takes (before ++ taken) gave ∙ append_assoc (before ++ taken) passed (held_by mid) ∙ ap (λ (l : List ℕ). (before ++ l) ++ behind) none.0

  room-behind : 4 ≤ length behind
  room-behind = omega (arith, room, Extends-length (held_by old) behind skips.begins)

  begins-behind : begins_section behind ≡ true
  begins-behind = section-stays (held_by old) behind room skips.begins ∙ begins

  nothing : AreBlocks None [] [] None
  nothing = no_blocks None [] [] None refl refl refl

  start : position_of mid ≡ 0
  start = position ∙ ap length none.0

  pub front-missing : (code : CaptureCode) → NoNextBlock None behind (at_end (source_of mid)) code → StopsAt given at_end before frames (record { code = code; at = 0 }) mid
  front-missing code misses =
      subst (λ (fs : List Frame). StopsAt given at_end before fs (record { code = code; at = 0 }) mid) (sym none.1)
      (stops-missing given at_end before [] behind [] None mid room-behind begins-behind nothing gave-behind start code 0 refl misses)

  pub front-stands : (block : Block) → IsFound None passed (held_by mid) block → StandsAt given before mid [] passed [] None block
  front-stands block found = record { gave = gave-behind; position = start; read = nothing; stands = λ now e. cc e; found = found }

  pub front-stops : (new : CaptureReader R) (error : CaptureError) → source_of new ≡ source_of mid → TakesSo given before [] passed [] None new (Err error) →
      StopsAt given at_end before frames error new
  front-stops new error source (place, gave_new, at, why) =
      let same : passed ++ held_by new ≡ behind =
      append_cancel_left (before ++ []) (passed ++ held_by new) behind (sym gave_new ∙ ap given source ∙ gave-behind) in
      subst (λ (fs : List Frame). StopsAt given at_end before fs error new) (sym none.1)
      (stops-taking given at_end before [] (passed ++ held_by new) [] None new (subst (λ (l : List ℕ). 4 ≤ length l) (sym same) room-behind)
      (subst (λ (l : List ℕ). begins_section l ≡ true) (sym same) begins-behind) nothing gave_new at error.code error.at place why)

-- ---- the next block

-- the kind of a block that is held is told by its front
pub held-kind : (within : Option Order) (b held_before : List ℕ) (block : Block) (passed : List ℕ) → IsFound within passed b block → Extends held_before (passed ++ b) →
    (holds : HoldsBlock within held_before) → block.kind ≡ kind_of holds.order held_before
held-kind within b held_before block passed found e holds =
    let all = passed ++ b in
    let first = take block.len all in
    let least = block-least within block.order first found.is_block in
    let on = Extends-take block.len all in
    let begun_first : front_len first ≤ length first = omega (arith, front-most first, least) in
    let same : block.order ≡ holds.order = order-one within all block.order holds.order (order-stays within block.order first all begun_first on found.is_block.order_is)
    (order-stays within holds.order held_before all holds.front e holds.order_is) in
    found.kind ∙ ap (λ (o : Order). kind_of o first) same ∙ sym (kind-stays holds.order first all (omega (arith, least)) on) ∙ kind-stays holds.order held_before all
    (omega (arith, holds.front, front-least held_before)) e

pub block-stops : {R : Type 0} (given : R → List ℕ) (at_end : R → Bool) (before taken passed : List ℕ) (frames : List Frame) (now : Section) (new : CaptureReader R) (error : CaptureError) →
    AreBlocks None taken frames (Some now)
    → TakesSo given before taken passed frames (Some now) new (Err error) → StopsAt given at_end before frames error new
block-stops given at_end before taken passed frames now new error are (place, gave, position, why) =
    let front = begun taken (passed ++ held_by new) frames now are in
    stops-taking given at_end before taken (passed ++ held_by new) frames (Some now) new front.0 front.1 are gave position error.code error.at place why
