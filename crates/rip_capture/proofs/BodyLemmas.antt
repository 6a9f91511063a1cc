-- What blocks say, what they do, and their faults.
use Rattle.std.proofs.Common.{◌≡◌, ◌≢◌, ◌+◌, ◌-◌, ◌≤◌, ◌∙◌, ℕ, true, false, List, [], ◌∷◌, Option, Some, None, Ok, Err, take, ap, sym, refl, inl, inr, subst, arith}
use Rattle.std.specs.Prelude.{slice_range}
use Rattle.rip_log.proofs.CutLemmas.{range-drop, range-front}
use Rattle.rip_capture.specs.Bodies.{LiesAt, ReadsBody, ReadsPacket, entered}
use Rattle.rip_capture.specs.Codes.{is_read}
use Rattle.rip_capture.specs.Interfaces.{came_by}
use Rattle.rip_capture.specs.Pcap.{Frame}
use Rattle.rip_capture.specs.Pcapng.{BlockFault, BodyFault, Does, IsPacket, OrderedFault, PacketFault, Section, is_read_whole, kind_of, packet_from}
use Rattle.rip_capture.specs.Pcapng.BlockFault.{front as short_front, order as no_order, ordered}
use Rattle.rip_capture.specs.Pcapng.BodyFault.{version as bad_version, full as too_many, options as bad_options, packet as bad_packet}
use Rattle.rip_capture.specs.Pcapng.Does.{section as does_section, interface as does_interface, packet as does_packet, other as does_nothing}
use Rattle.rip_capture.specs.Pcapng.OrderedFault.{size as bad_size, old as old_packet, cut as cut_block, end as bad_end, body as bad_body}
use Rattle.rip_capture.specs.Pcapng.PacketFault.{interface as no_interface, size as bad_length, link_type as no_type}
use Rattle.rip_capture.specs.declared.blocks.BlockKind.{BlockKind}
use Rattle.rip_capture.specs.declared.blocks.BlockKind.TheVariants as kinds
use Rattle.rip_capture.specs.declared.interface.Interface.{Interface}
use Rattle.rip_capture.specs.declared.blocks.PacketForm.{PacketForm}
use Rattle.rip_capture.specs.declared.bodies.Body.{Body}
use Rattle.rip_capture.specs.declared.bodies.Body.TheVariants as says
use Rattle.rip_capture.specs.declared.error.CaptureCode.{CaptureCode}
use Rattle.rip_capture.specs.declared.error.CaptureCode.TheVariants as codes
use Rattle.rip_capture.specs.declared.bodies.PacketBody.{PacketBody}
use Rattle.rip_capture.specs.declared.numbers.Order.{Order}

pub packet-fault : (order : Order) (interfaces : List Interface) (form : PacketForm) (b : List ℕ) (code : CaptureCode) → ReadsPacket order interfaces form b (Err code) →
    PacketFault order interfaces form b code
packet-fault order interfaces form b codes.Interface says = no_interface says refl
packet-fault order interfaces form b codes.Length says = bad_length says.0 says.1 says.2 refl
packet-fault order interfaces form b codes.LinkType says = no_type says.0 says.1 says.2 says.3 refl
packet-fault order interfaces form b codes.Magic says = absurd says
packet-fault order interfaces form b codes.Cut says = absurd says
packet-fault order interfaces form b codes.Version says = absurd says
packet-fault order interfaces form b codes.OldPacket says = absurd says
packet-fault order interfaces form b codes.Read says = absurd says

-- ---- faults of bodies

version-only : (now : Section) (order : Order) (b : List ℕ) (kind : BlockKind) (code : CaptureCode) → kind ≡ kinds.Section → BodyFault (Some now) order b kind code → BodyFault None order b kind code
version-only now order b kind code is (bad_version k wrong e) = bad_version k wrong e
version-only now order b kind code is (too_many n k at many e) = absurd (cc (is, k))
version-only now order b kind code is (bad_options n k at few wrong e) = absurd (cc (is, k))
version-only now order b kind code is (bad_packet n form k at f) = absurd (cc (is, k))

pub body-fault-in : (s : Option Section) (now : Section) (order : Order) (b : List ℕ) (kind : BlockKind) (code : CaptureCode) → (s ≡ None → kind ≡ kinds.Section) →
    ((n : Section) → s ≡ Some n → n ≡ now) → ReadsBody order now.interfaces kind b (Err code) → BodyFault s order b kind code
body-fault-in s now order b kind code only is (inl says) = bad_version says.0 says.1 says.2
body-fault-in None now order b kind code only is (inr f) = version-only now order b kind code (only refl) (f now refl)
body-fault-in (Some n) now order b kind code only is (inr f) = subst (λ (m : Section). BodyFault (Some m) order b kind code) (sym (is n refl)) (f now refl)

-- a fault of a body is that of no source, and no cut
pub record Calm (code : CaptureCode) : Type 0 where
  pub unread : is_read code ≡ false
  pub uncut : code ≢ codes.Cut

calm-by : (code other : CaptureCode) → code ≡ other → Calm other → Calm code
calm-by code other e c = subst Calm (sym e) c

packet-calm : (order : Order) (interfaces : List Interface) (form : PacketForm) (b : List ℕ) (code : CaptureCode) → PacketFault order interfaces form b code → Calm code
packet-calm order interfaces form b code (no_interface at e) = calm-by code codes.Interface e (record { unread = refl; uncut = λ c. cc c })
packet-calm order interfaces form b code (bad_length i at wrong e) = calm-by code codes.Length e (record { unread = refl; uncut = λ c. cc c })
packet-calm order interfaces form b code (no_type i at can wrong e) = calm-by code codes.LinkType e (record { unread = refl; uncut = λ c. cc c })

pub body-calm : (s : Option Section) (order : Order) (b : List ℕ) (kind : BlockKind) (code : CaptureCode) → BodyFault s order b kind code → Calm code
body-calm s order b kind code (bad_version k wrong e) = calm-by code codes.Version e (record { unread = refl; uncut = λ c. cc c })
body-calm s order b kind code (too_many now k at many e) = calm-by code codes.Interface e (record { unread = refl; uncut = λ c. cc c })
body-calm s order b kind code (bad_options now k at few wrong e) = calm-by code codes.Length e (record { unread = refl; uncut = λ c. cc c })
body-calm s order b kind code (bad_packet now form k at f) = packet-calm order now.interfaces form b code f

pub reads-calm : (order : Order) (interfaces : List Interface) (b : List ℕ) (kind : BlockKind) (code : CaptureCode) → ReadsBody order interfaces kind b (Err code) → Calm code
reads-calm order interfaces b kind code (inl says) = calm-by code codes.Version says.2 (record { unread = refl; uncut = λ c. cc c })
reads-calm order interfaces b kind code (inr f) =
    let now : Section = record { order = order; interfaces = interfaces } in
    body-calm (Some now) order b kind code (f now refl)

pub body-whole : (s : Option Section) (order : Order) (b : List ℕ) (kind : BlockKind) (code : CaptureCode) → BodyFault s order b kind code → is_read_whole kind ≡ true
body-whole s order b kind code (bad_version k wrong e) = ap is_read_whole k
body-whole s order b kind code (too_many now k at many e) = ap is_read_whole k
body-whole s order b kind code (bad_options now k at few wrong e) = ap is_read_whole k
body-whole s order b kind code (bad_packet now form k at f) = ap is_read_whole k

pub reads-whole : (order : Order) (interfaces : List Interface) (b : List ℕ) (kind : BlockKind) (code : CaptureCode) → ReadsBody order interfaces kind b (Err code) → is_read_whole kind ≡ true
reads-whole order interfaces b kind code (inl says) = ap is_read_whole says.0
reads-whole order interfaces b kind code (inr f) =
    let now : Section = record { order = order; interfaces = interfaces } in
    body-whole (Some now) order b kind code (f now refl)

-- a fault of a block is that of no source
uncode : (code other : CaptureCode) → code ≡ other → is_read other ≡ false → is_read code ≡ false
uncode code other e unread = ap is_read e ∙ unread

pub block-unread : (s : Option Section) (b : List ℕ) (code : CaptureCode) → BlockFault s b code → is_read code ≡ false
block-unread s b code (short_front some less e) = uncode code codes.Cut e refl
block-unread s b code (no_order room begins wrong e) = uncode code codes.Version e refl
block-unread s b code (ordered order room has f) = by f where
  by : OrderedFault s order b code → is_read code ≡ false
  by (bad_size wrong e) = uncode code codes.Length e refl
  by (old_packet can old e) = uncode code codes.OldPacket e refl
  by (cut_block can young less e) = uncode code codes.Cut e refl
  by (bad_end can young inside wrong e) = uncode code codes.Length e refl
  by (bad_body first rest whole is g) = (body-calm s order first (kind_of order first) code g).unread

-- ---- what a block does

-- the packet that a block says that it has, where these interfaces were described
abbrev pub frame-in : List Interface → List ℕ → PacketBody → Frame
frame-in interfaces b p = record {
  link_type = p.link_type;
  bytes = slice_range b p.bytes.from p.bytes.to;
  interface = came_by interfaces p.interface;
  time = p.time;
}

abbrev pub frames-in : List Interface → List ℕ → Body → List Frame
frames-in interfaces b (says.Packet p) = frame-in interfaces b p ∷ []
frames-in interfaces b _ = []

lies-packet : (order : Order) (interfaces : List Interface) (form : PacketForm) (b : List ℕ) (p : PacketBody) → LiesAt order interfaces form b p →
    IsPacket order interfaces form b (frame-in interfaces b p)
lies-packet order interfaces form b p is = record {
  interface = is.interface;
  described = is.described;
  can = is.can;
  link = is.link;
  bytes = ap (λ (n : ℕ). slice_range b n p.bytes.to) is.from ∙ ap (slice_range b (packet_from form)) is.to;
  came = ap (came_by interfaces) is.number;
  time = is.time;
}

does-in : (now : Section) (order : Order) (b : List ℕ) (kind : BlockKind) (body : Body) → kind ≢ kinds.OldPacket → ReadsBody order now.interfaces kind b (Ok body) →
    Does (Some now) order b kind (frames-in now.interfaces b body) (entered now order body)
does-in now order b kind says.Section young reads = does_section reads.0 reads.1 refl refl
does-in now order b kind (says.Interface i) young reads =
    does_interface now i reads.0 refl reads.2 reads.1 refl refl
does-in now order b kind (says.Packet p) young reads =
    does_packet now reads.0 (frame-in now.interfaces b p) reads.1 refl (lies-packet order now.interfaces reads.0 b p reads.2) refl refl
does-in now order b kind says.Other young (inl is) = does_nothing now is refl refl refl
does-in now order b kind says.Other young (inr old) = absurd (young old)

pub does-of : (s : Option Section) (now : Section) (order : Order) (b : List ℕ) (kind : BlockKind) (body : Body) → kind ≢ kinds.OldPacket → (s ≡ None → kind ≡ kinds.Section) →
    ((n : Section) → s ≡ Some n → n ≡ now) → ReadsBody order now.interfaces kind b (Ok body) → Does s order b kind (frames-in now.interfaces b body) (entered now order body)
does-of (Some n) now order b kind body young only is reads =
    subst (λ (m : Section). Does (Some m) order b kind (frames-in now.interfaces b body) (entered now order body)) (sym (is n refl)) (does-in now order b kind body young reads)
does-of None now order b kind says.Section young only is reads = does_section reads.0 reads.1 refl refl
does-of None now order b kind (says.Interface i) young only is reads = absurd (cc (only refl, reads.0))
does-of None now order b kind (says.Packet p) young only is reads = absurd (cc (only refl, reads.1))
does-of None now order b kind says.Other young only is (inl other) = absurd (cc (only refl, other))
does-of None now order b kind says.Other young only is (inr old) = absurd (young old)

-- a block of a packet says a packet
pub packet-said : (order : Order) (interfaces : List Interface) (b : List ℕ) (kind : BlockKind) (form : PacketForm) (body : Body) → kind ≡ kinds.Packet form →
    ReadsBody order interfaces kind b (Ok body) → (p : PacketBody) × (body ≡ says.Packet p)
packet-said order interfaces b kind form says.Section is reads = absurd (cc (is, reads.0))
packet-said order interfaces b kind form (says.Interface i) is reads = absurd (cc (is, reads.0))
packet-said order interfaces b kind form (says.Packet p) is reads = (p, refl)
packet-said order interfaces b kind form says.Other is (inl other) = absurd (cc (is, other))
packet-said order interfaces b kind form says.Other is (inr old) = absurd (cc (is, old))

-- ---- a range of a range

pub range-range : (items : List ℕ) (from to a b : ℕ) → a ≤ b → from + b ≤ to → slice_range items (from + a) (from + b) ≡ slice_range (slice_range items from to) a b
range-range items from to a b ordered_ab inside =
    let behind = range-drop items from to a (omega (arith, ordered_ab, inside)) in
    let front = range-front items (from + a) to (b - a) (omega (arith, ordered_ab, inside)) in
    let end : from + a + (b - a) ≡ from + b = omega (arith, ordered_ab) in
    sym (ap (λ (l : List ℕ). take (b - a) l) behind ∙ front ∙ ap (slice_range items (from + a)) end)
