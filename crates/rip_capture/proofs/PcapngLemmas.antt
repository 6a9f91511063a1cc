-- Blocks, one after the other, are one list of packets, or end at one fault.
use Rattle.std.proofs.Common.{◌≡◌, ◌≢◌, ◌+◌, ◌-◌, ◌*◌, ◌<◌, ◌≤◌, ◌∙◌, if◌then◌else◌, ℕ, Bool, true, List, [], ◌∷◌, ◌++◌, Option, Some, None, length, take, drop, ap, sym, refl, subst, arith, append_assoc, append-nil}
use Rattle.std.proofs.lemmas.Bool.{false≢true}
use Rattle.std.proofs.lemmas.List.{append_cancel_left, drop_at, length-append, take_at}
use Rattle.std.specs.Prelude.{slice_range}
use Rattle.rip_wire.specs.Fields.{number_at}
use Rattle.rip_capture.specs.Feeds.{Extends}
use Rattle.rip_capture.specs.Finds.{LacksBlock}
use Rattle.rip_capture.specs.Finds.LacksBlock.{front as lacks_front, rest as lacks_rest}
use Rattle.rip_capture.specs.Numbers.{number_in}
use Rattle.rip_capture.specs.Pcap.{Frame}
use Rattle.rip_capture.specs.Pcapng.{AreBlocks, BlockFault, BodyFault, Does, HasLength, HasOrder, HasPacketLength, IsBlock, IsPacket, OrderedFault, PacketFault, Section, begins_section, block_len, front_len, interface_in, kind_numbered, kind_of, least_len, order_number, order_of, packet_from, packet_len, options_in, packet_time}
use Rattle.rip_capture.specs.Interfaces.{CameBy}
use Rattle.rip_capture.proofs.OptionLemmas.{Describes-one, no-bad}
use Rattle.rip_capture.specs.declared.link.LinkType.{LinkType}
use Rattle.rip_capture.specs.declared.time.Time.{Time}
use Rattle.rip_capture.specs.Pcapng.AreBlocks.{none as no_blocks, more as more_blocks}
use Rattle.rip_capture.specs.Pcapng.BlockFault.{front as short_front, order as no_order, ordered}
use Rattle.rip_capture.specs.Pcapng.BodyFault.{version as bad_version, full as too_many, options as bad_options, packet as bad_packet}
use Rattle.rip_capture.specs.Pcapng.Does.{section as does_section, interface as does_interface, packet as does_packet, other as does_nothing}
use Rattle.rip_capture.specs.Pcapng.HasOrder.{own, inherited as of_section}
use Rattle.rip_capture.specs.Pcapng.OrderedFault.{size as bad_size, old as old_packet, cut as cut_block, end as bad_end, body as bad_body}
use Rattle.rip_capture.specs.Pcapng.PacketFault.{interface as no_interface, size as bad_length, link_type as bad_type}
use Rattle.rip_capture.proofs.BlockLemmas.{front-least, front-most, front-of-section, front-stays, kind-stays, least-of, len-stays, length-front, length-stays, order-one, order-stays, place-stays, section-stays}
use Rattle.rip_capture.proofs.LinkLemmas.{one_type}
use Rattle.rip_capture.proofs.NumberLemmas.{number-stays}
use Rattle.rip_capture.specs.declared.blocks.BlockKind.{BlockKind}
use Rattle.rip_capture.specs.declared.blocks.BlockKind.TheVariants as kinds
use Rattle.rip_capture.specs.declared.interface.Interface.{Interface}
use Rattle.rip_capture.specs.declared.blocks.PacketForm.{PacketForm}
use Rattle.rip_capture.specs.declared.blocks.PacketForm.TheVariants.{Simple, Enhanced}
use Rattle.rip_capture.specs.declared.error.CaptureCode.{CaptureCode}
use Rattle.rip_capture.specs.declared.error.CaptureCode.TheVariants as codes
use Rattle.rip_capture.specs.declared.numbers.Order.{Order}

-- two lists with fronts of one length
pub parts : (a b c d : List ℕ) → length a ≡ length c → a ++ b ≡ c ++ d → (a ≡ c) × (b ≡ d)
parts a b c d size e = (
  sym (take_at a b (length a) refl) ∙ ap (take (length a)) e ∙ take_at c d (length a) (sym size),
  sym (drop_at a b (length a) refl) ∙ ap (drop (length a)) e ∙ drop_at c d (length a) (sym size),
)

pub front-of : (xs rest : List ℕ) → Extends xs (xs ++ rest)
front-of xs rest = record { more = rest; whole = refl }

-- ---- the first block

pub block-least : (within : Option Order) (order : Order) (b : List ℕ) → IsBlock within order b → 12 ≤ length b
block-least within order b is = omega (arith, is.can.least, is.size, least-of (kind_of order b))

block-room : (within : Option Order) (order : Order) (b : List ℕ) → IsBlock within order b → front_len b ≤ length b
block-room within order b is = omega (arith, block-least within order b is, front-most b)

-- the length of a block is told by its front
block-len : (within : Option Order) (order : Order) (a rest : List ℕ) → IsBlock within order a → block_len order (a ++ rest) ≡ length a
block-len within order a rest is = len-stays order a (a ++ rest) (omega (arith, block-least within order a is)) (front-of a rest) ∙ is.size

block-order : (within : Option Order) (order : Order) (a rest : List ℕ) → IsBlock within order a → HasOrder within (a ++ rest) order
block-order within order a rest is = order-stays within order a (a ++ rest) (block-room within order a is) (front-of a rest) is.order_is

pub first-block : (within : Option Order) (o p : Order) (a b c d : List ℕ) → IsBlock within o a → IsBlock within p c → a ++ b ≡ c ++ d → (o ≡ p) × (a ≡ c) × (b ≡ d)
first-block within o p a b c d is js e =
    let orders : o ≡ p = order-one within (a ++ b) o p (block-order within o a b is) (subst (λ (l : List ℕ). HasOrder within l p) (sym e) (block-order within p c d js)) in
    let size : length a ≡ length c =
    sym (block-len within o a b is) ∙ ap (block_len o) e ∙ ap (λ (x : Order). block_len x (c ++ d)) orders ∙ block-len within p c d js in
    let two = parts a b c d size e in
    (orders, two.0, two.1)

-- ---- what a block does is one thing

packet-one : (order : Order) (interfaces : List Interface) (form : PacketForm) (b : List ℕ) (f g : Frame) → IsPacket order interfaces form b f → IsPacket order interfaces form b g → f ≡ g
packet-one order interfaces form b f g is js =
    let same : is.interface ≡ js.interface = cc (is.described, js.described) in
    let link : f.link_type ≡ g.link_type = one_type f.link_type g.link_type (is.link ∙ ap (λ (i : Interface). i.link_number) same ∙ sym js.link) in
    let bytes : f.bytes ≡ g.bytes = is.bytes ∙ ap (λ (i : Interface). slice_range b (packet_from form) (packet_from form + packet_len order form b i)) same ∙ sym js.bytes in
    let came : f.interface ≡ g.interface = is.came ∙ sym js.came in
    let time : f.time ≡ g.time = is.time ∙ ap (packet_time order form b) same ∙ sym js.time in
    let made : LinkType → List ℕ → CameBy → Option Time → Frame = λ t l i m. record { link_type = t; bytes = l; interface = i; time = m } in
    ap (λ t. made t f.bytes f.interface f.time) link ∙ ap (λ l. made g.link_type l f.interface f.time) bytes ∙ ap (λ i. made g.link_type g.bytes i f.time) came
    ∙ ap (made g.link_type g.bytes g.interface) time

pub does-one : (s : Option Section) (order : Order) (b : List ℕ) (kind : BlockKind) (fs gs : List Frame) (t u : Section) → Does s order b kind fs t → Does s order b kind gs u → (fs ≡ gs) × (t ≡ u)
does-one s order b kind fs gs t u (does_section k v none is) (does_section k' v' none' is') = (none ∙ sym none', is ∙ sym is')
does-one s order b kind fs gs t u (does_section k v none is) (does_interface now i' k' at few told' none' is') = absurd (cc (k, k'))
does-one s order b kind fs gs t u (does_section k v none is) (does_packet now form g k' at js one is') = absurd (cc (k, k'))
does-one s order b kind fs gs t u (does_section k v none is) (does_nothing now k' at none' is') = absurd (cc (k, k'))
does-one s order b kind fs gs t u (does_interface now i k at few told none is) (does_section k' v' none' is') = absurd (cc (k, k'))
does-one s order b kind fs gs t u (does_interface now i k at few told none is) (does_interface now' i' k' at' few' told' none' is') =
    let same : now ≡ now' = cc (at, at') in
    let one : i ≡ i' = Describes-one order (options_in b) (interface_in order b) i i' told told' in
    let with : Interface → Section → Section = λ x n. record { order = n.order; interfaces = n.interfaces ++ x ∷ [] } in
    (none ∙ sym none', is ∙ ap (with i) same ∙ ap (λ x. with x now') one ∙ sym is')
does-one s order b kind fs gs t u (does_interface now i k at few told none is) (does_packet now' form g k' at' js one is') = absurd (cc (k, k'))
does-one s order b kind fs gs t u (does_interface now i k at few told none is) (does_nothing now' k' at' none' is') = absurd (cc (k, k'))
does-one s order b kind fs gs t u (does_packet now form f k at js one is) (does_section k' v' none' is') = absurd (cc (k, k'))
does-one s order b kind fs gs t u (does_packet now form f k at js one is) (does_interface now' i' k' at' few' told' none' is') = absurd (cc (k, k'))
does-one s order b kind fs gs t u (does_packet now form f k at js one is) (does_packet now' form' g k' at' js' one' is') =
    let same : now ≡ now' = cc (at, at') in
    let forms : form ≡ form' = cc (k, k') in
    let here : IsPacket order now'.interfaces form' b f = subst (λ (n : Section). IsPacket order n.interfaces form' b f) same
    (subst (λ (x : PacketForm). IsPacket order now.interfaces x b f) forms js) in
    (one ∙ ap (λ (x : Frame). x ∷ []) (packet-one order now'.interfaces form' b f g here js') ∙ sym one', is ∙ same ∙ sym is')
does-one s order b kind fs gs t u (does_packet now form f k at js one is) (does_nothing now' k' at' none' is') = absurd (cc (k, k'))
does-one s order b kind fs gs t u (does_nothing now k at none is) (does_section k' v' none' is') = absurd (cc (k, k'))
does-one s order b kind fs gs t u (does_nothing now k at none is) (does_interface now' i' k' at' few' told' none' is') = absurd (cc (k, k'))
does-one s order b kind fs gs t u (does_nothing now k at none is) (does_packet now' form g k' at' js one is') = absurd (cc (k, k'))
does-one s order b kind fs gs t u (does_nothing now k at none is) (does_nothing now' k' at' none' is') =
    let same : now ≡ now' = cc (at, at') in
    (none ∙ sym none', is ∙ same ∙ sym is')

does-young : (s : Option Section) (order : Order) (b : List ℕ) (kind : BlockKind) (fs : List Frame) (t : Section) → Does s order b kind fs t → kind ≢ kinds.OldPacket
does-young s order b kind fs t (does_section k v none is) old = cc (k, old)
does-young s order b kind fs t (does_interface now i k at few told none is) old = cc (k, old)
does-young s order b kind fs t (does_packet now form f k at js one is) old = cc (k, old)
does-young s order b kind fs t (does_nothing now k at none is) old = cc (k, old)

body-young : (s : Option Section) (order : Order) (b : List ℕ) (kind : BlockKind) (code : CaptureCode) → BodyFault s order b kind code → kind ≢ kinds.OldPacket
body-young s order b kind code (bad_version k wrong e) old = cc (k, old)
body-young s order b kind code (too_many now k at many e) old = cc (k, old)
body-young s order b kind code (bad_options now k at few wrong e) old = cc (k, old)
body-young s order b kind code (bad_packet now form k at f) old = cc (k, old)

-- ---- where a block is there is no fault

no-packet-fault : (order : Order) (interfaces : List Interface) (form : PacketForm) (b : List ℕ) (f : Frame) (code : CaptureCode) → IsPacket order interfaces form b f →
    PacketFault order interfaces form b code → ⊥
no-packet-fault order interfaces form b f code is (no_interface at e) = cc (is.described, at)
no-packet-fault order interfaces form b f code is (bad_length i at wrong e) =
    let same : is.interface ≡ i = cc (is.described, at) in
    wrong (subst (HasPacketLength order form b) same is.can)
no-packet-fault order interfaces form b f code is (bad_type i at can wrong e) =
    let same : is.interface ≡ i = cc (is.described, at) in
    wrong f.link_type (is.link ∙ ap (λ (x : Interface). x.link_number) same)

no-body-fault : (s : Option Section) (order : Order) (b : List ℕ) (kind : BlockKind) (fs : List Frame) (t : Section) (code : CaptureCode) → Does s order b kind fs t → BodyFault s order b kind code → ⊥
no-body-fault s order b kind fs t code (does_section k v none is) (bad_version k' wrong e) = wrong v
no-body-fault s order b kind fs t code (does_section k v none is) (too_many now k' at many e) = cc (k, k')
no-body-fault s order b kind fs t code (does_section k v none is) (bad_options now k' at few wrong e) = cc (k, k')
no-body-fault s order b kind fs t code (does_section k v none is) (bad_packet now form k' at f) = cc (k, k')
no-body-fault s order b kind fs t code (does_interface now i k at few told none is) (bad_version k' wrong e) = cc (k, k')
no-body-fault s order b kind fs t code (does_interface now i k at few told none is) (too_many now' k' at' many e) =
    let same : now ≡ now' = cc (at, at') in
    omega (arith, few, many, ap (λ (n : Section). length n.interfaces) same)
no-body-fault s order b kind fs t code (does_interface now i k at few told none is) (bad_options now' k' at' few' wrong e) = no-bad order (options_in b) (interface_in order b) i told wrong
no-body-fault s order b kind fs t code (does_interface now i k at few told none is) (bad_packet now' form k' at' f) = cc (k, k')
no-body-fault s order b kind fs t code (does_packet now form g k at js one is) (bad_version k' wrong e) = cc (k, k')
no-body-fault s order b kind fs t code (does_packet now form g k at js one is) (too_many now' k' at' many e) = cc (k, k')
no-body-fault s order b kind fs t code (does_packet now form g k at js one is) (bad_options now' k' at' few wrong e) = cc (k, k')
no-body-fault s order b kind fs t code (does_packet now form g k at js one is) (bad_packet now' form' k' at' f) =
    let same : now' ≡ now = cc (at, at') in
    let forms : form' ≡ form = cc (k, k') in
    no-packet-fault order now.interfaces form b g code js
    (subst (λ (n : Section). PacketFault order n.interfaces form b code) same (subst (λ (x : PacketForm). PacketFault order now'.interfaces x b code) forms f))
no-body-fault s order b kind fs t code (does_nothing now k at none is) (bad_version k' wrong e) = cc (k, k')
no-body-fault s order b kind fs t code (does_nothing now k at none is) (too_many now' k' at' many e) = cc (k, k')
no-body-fault s order b kind fs t code (does_nothing now k at none is) (bad_options now' k' at' few wrong e) = cc (k, k')
no-body-fault s order b kind fs t code (does_nothing now k at none is) (bad_packet now' form k' at' f) = cc (k, k')

module _ (s : Option Section) (order : Order) (a rest : List ℕ) (fs : List Frame) (t : Section) (code : CaptureCode) (is : IsBlock (order_of s) order a)
    (does : Does s order a (kind_of order a) fs t) where
  least : 12 ≤ length a
  least = block-least (order_of s) order a is

  on : Extends a (a ++ rest)
  on = front-of a rest

  no-ordered-fault : OrderedFault s order (a ++ rest) code → ⊥
  no-ordered-fault (bad_size wrong e) = wrong (length-stays order a (a ++ rest) (omega (arith, least)) on is.can)
  no-ordered-fault (old_packet can old e) = does-young s order a (kind_of order a) fs t does (sym (kind-stays order a (a ++ rest) (omega (arith, least)) on) ∙ old)
  no-ordered-fault (cut_block can young less e) = omega (arith, less, block-len (order_of s) order a rest is, length-append a rest)
  no-ordered-fault (bad_end can young room wrong e) =
      let len = block-len (order_of s) order a rest is in
      wrong (subst (λ (n : ℕ). number_in order (n - 4) (a ++ rest) ≡ n) (sym len) (number-stays order (length a - 4) a (a ++ rest) (omega (arith, least)) on ∙ is.end))
  no-ordered-fault (bad_body first more whole js f) =
      let same = first-block (order_of s) order order a rest first more is js whole in
      no-body-fault s order a (kind_of order a) fs t code does (subst (λ (l : List ℕ). BodyFault s order l (kind_of order l) code) (sym same.1) f)

  pub no-block-fault : BlockFault s (a ++ rest) code → ⊥
  no-block-fault (short_front some less e) = omega (arith, less, front-most (a ++ rest), length-append a rest, least)
  no-block-fault (no_order room begins wrong e) = by (block-order (order_of s) order a rest is) where
    by : HasOrder (order_of s) (a ++ rest) order → ⊥
    by (own begins' number) = wrong order number
    by (of_section other within) = false≢true (sym other ∙ begins)
  no-block-fault (ordered p room has f) =
      let same : p ≡ order = order-one (order_of s) (a ++ rest) p order has (block-order (order_of s) order a rest is) in
      no-ordered-fault (subst (λ (x : Order). OrderedFault s x (a ++ rest) code) same f)

-- ---- a fault is one

packet-fault-one : (order : Order) (interfaces : List Interface) (form : PacketForm) (b : List ℕ) (c d : CaptureCode) → PacketFault order interfaces form b c → PacketFault order interfaces form b d →
    c ≡ d
packet-fault-one order interfaces form b c d (no_interface at e) (no_interface at' e') = e ∙ sym e'
packet-fault-one order interfaces form b c d (no_interface at e) (bad_length i at' wrong' e') = absurd (cc (at, at'))
packet-fault-one order interfaces form b c d (no_interface at e) (bad_type i at' can' wrong' e') = absurd (cc (at, at'))
packet-fault-one order interfaces form b c d (bad_length i at wrong e) (no_interface at' e') = absurd (cc (at, at'))
packet-fault-one order interfaces form b c d (bad_length i at wrong e) (bad_length j at' wrong' e') = e ∙ sym e'
packet-fault-one order interfaces form b c d (bad_length i at wrong e) (bad_type j at' can' wrong' e') =
    let same : j ≡ i = cc (at, at') in
    absurd (wrong (subst (HasPacketLength order form b) same can'))
packet-fault-one order interfaces form b c d (bad_type i at can wrong e) (no_interface at' e') = absurd (cc (at, at'))
packet-fault-one order interfaces form b c d (bad_type i at can wrong e) (bad_length j at' wrong' e') =
    let same : i ≡ j = cc (at, at') in
    absurd (wrong' (subst (HasPacketLength order form b) same can))
packet-fault-one order interfaces form b c d (bad_type i at can wrong e) (bad_type j at' can' wrong' e') = e ∙ sym e'

body-fault-one : (s : Option Section) (order : Order) (b : List ℕ) (kind : BlockKind) (c d : CaptureCode) → BodyFault s order b kind c → BodyFault s order b kind d → c ≡ d
body-fault-one s order b kind c d (bad_version k wrong e) (bad_version k' wrong' e') = e ∙ sym e'
body-fault-one s order b kind c d (bad_version k wrong e) (too_many now k' at many e') = absurd (cc (k, k'))
body-fault-one s order b kind c d (bad_version k wrong e) (bad_options now k' at few bad e') = absurd (cc (k, k'))
body-fault-one s order b kind c d (bad_version k wrong e) (bad_packet now form k' at f) = absurd (cc (k, k'))
body-fault-one s order b kind c d (too_many now k at many e) (bad_version k' wrong e') = absurd (cc (k, k'))
body-fault-one s order b kind c d (too_many now k at many e) (too_many now' k' at' many' e') = e ∙ sym e'
body-fault-one s order b kind c d (too_many now k at many e) (bad_options now' k' at' few wrong e') =
    let same : now ≡ now' = cc (at, at') in
    absurd (omega (arith, few, many, ap (λ (n : Section). length n.interfaces) same))
body-fault-one s order b kind c d (bad_options now k at few wrong e) (bad_version k' bad e') = absurd (cc (k, k'))
body-fault-one s order b kind c d (bad_options now k at few wrong e) (too_many now' k' at' many e') =
    let same : now ≡ now' = cc (at, at') in
    absurd (omega (arith, few, many, ap (λ (n : Section). length n.interfaces) same))
body-fault-one s order b kind c d (bad_options now k at few wrong e) (bad_options now' k' at' few' wrong' e') = e ∙ sym e'
body-fault-one s order b kind c d (bad_options now k at few wrong e) (bad_packet now' form k' at' f) = absurd (cc (k, k'))
body-fault-one s order b kind c d (too_many now k at many e) (bad_packet now' form k' at' f) = absurd (cc (k, k'))
body-fault-one s order b kind c d (bad_packet now form k at f) (bad_version k' wrong e) = absurd (cc (k, k'))
body-fault-one s order b kind c d (bad_packet now form k at f) (too_many now' k' at' many e) = absurd (cc (k, k'))
body-fault-one s order b kind c d (bad_packet now form k at f) (bad_options now' k' at' few wrong e) = absurd (cc (k, k'))
body-fault-one s order b kind c d (bad_packet now form k at f) (bad_packet now' form' k' at' g) =
    let same : now ≡ now' = cc (at, at') in
    let forms : form ≡ form' = cc (k, k') in
    packet-fault-one order now'.interfaces form' b c d
    (subst (λ (n : Section). PacketFault order n.interfaces form' b c) same (subst (λ (x : PacketForm). PacketFault order now.interfaces x b c) forms f)) g

-- a block whose body has a fault, as those before it see it
pub record Bodied (s : Option Section) (order : Order) (b : List ℕ) : Type 0 where
  pub can : HasLength order b
  pub young : kind_of order b ≢ kinds.OldPacket
  pub room : block_len order b ≤ length b
  pub end : number_in order (block_len order b - 4) b ≡ block_len order b

bodied : (s : Option Section) (order : Order) (b first rest : List ℕ) (code : CaptureCode) → b ≡ first ++ rest → IsBlock (order_of s) order first → BodyFault s order first (kind_of order first) code →
    Bodied s order b
bodied s order b first rest code whole is f =
    let least = block-least (order_of s) order first is in
    let len = block-len (order_of s) order first rest is in
    subst (Bodied s order) (sym whole) (record {
      can = length-stays order first (first ++ rest) (omega (arith, least)) (front-of first rest) is.can;
      young = λ old. body-young s order first (kind_of order first) code f (sym (kind-stays order first (first ++ rest) (omega (arith, least)) (front-of first rest)) ∙ old);
      room = omega (arith, len, length-append first rest);
      end = subst (λ (n : ℕ). number_in order (n - 4) (first ++ rest) ≡ n) (sym len) (number-stays order (length first - 4) first (first ++ rest) (omega (arith, least)) (front-of first rest)
          ∙ is.end);
    })

ordered-fault-one : (s : Option Section) (order : Order) (b : List ℕ) (c d : CaptureCode) → OrderedFault s order b c → OrderedFault s order b d → c ≡ d
ordered-fault-one s order b c d (bad_size wrong e) (bad_size wrong' e') = e ∙ sym e'
ordered-fault-one s order b c d (bad_size wrong e) (old_packet can' old' e') = absurd (wrong can')
ordered-fault-one s order b c d (bad_size wrong e) (cut_block can' young' less' e') = absurd (wrong can')
ordered-fault-one s order b c d (bad_size wrong e) (bad_end can' young' room' wrong' e') = absurd (wrong can')
ordered-fault-one s order b c d (bad_size wrong e) (bad_body first' rest' whole' is' f') = absurd (wrong (bodied s order b first' rest' d whole' is' f').can)
ordered-fault-one s order b c d (old_packet can old e) (bad_size wrong' e') = absurd (wrong' can)
ordered-fault-one s order b c d (old_packet can old e) (old_packet can' old' e') = e ∙ sym e'
ordered-fault-one s order b c d (old_packet can old e) (cut_block can' young' less' e') = absurd (young' old)
ordered-fault-one s order b c d (old_packet can old e) (bad_end can' young' room' wrong' e') = absurd (young' old)
ordered-fault-one s order b c d (old_packet can old e) (bad_body first' rest' whole' is' f') = absurd ((bodied s order b first' rest' d whole' is' f').young old)
ordered-fault-one s order b c d (cut_block can young less e) (bad_size wrong' e') = absurd (wrong' can)
ordered-fault-one s order b c d (cut_block can young less e) (old_packet can' old' e') = absurd (young old')
ordered-fault-one s order b c d (cut_block can young less e) (cut_block can' young' less' e') = e ∙ sym e'
ordered-fault-one s order b c d (cut_block can young less e) (bad_end can' young' room' wrong' e') = absurd (omega (arith, less, room'))
ordered-fault-one s order b c d (cut_block can young less e) (bad_body first' rest' whole' is' f') = absurd (omega (arith, less, (bodied s order b first' rest' d whole' is' f').room))
ordered-fault-one s order b c d (bad_end can young room wrong e) (bad_size wrong' e') = absurd (wrong' can)
ordered-fault-one s order b c d (bad_end can young room wrong e) (old_packet can' old' e') = absurd (young old')
ordered-fault-one s order b c d (bad_end can young room wrong e) (cut_block can' young' less' e') = absurd (omega (arith, less', room))
ordered-fault-one s order b c d (bad_end can young room wrong e) (bad_end can' young' room' wrong' e') = e ∙ sym e'
ordered-fault-one s order b c d (bad_end can young room wrong e) (bad_body first' rest' whole' is' f') = absurd (wrong (bodied s order b first' rest' d whole' is' f').end)
ordered-fault-one s order b c d (bad_body first rest whole is f) (bad_size wrong' e') = absurd (wrong' (bodied s order b first rest c whole is f).can)
ordered-fault-one s order b c d (bad_body first rest whole is f) (old_packet can' old' e') = absurd ((bodied s order b first rest c whole is f).young old')
ordered-fault-one s order b c d (bad_body first rest whole is f) (cut_block can' young' less' e') = absurd (omega (arith, less', (bodied s order b first rest c whole is f).room))
ordered-fault-one s order b c d (bad_body first rest whole is f) (bad_end can' young' room' wrong' e') = absurd (wrong' (bodied s order b first rest c whole is f).end)
ordered-fault-one s order b c d (bad_body first rest whole is f) (bad_body first' rest' whole' is' f') =
    let same = first-block (order_of s) order order first rest first' rest' is is' (sym whole ∙ whole') in
    body-fault-one s order first' (kind_of order first') c d (subst (λ (l : List ℕ). BodyFault s order l (kind_of order l) c) same.1 f) f'

no-such-order : (s : Option Section) (b : List ℕ) (order : Order) → begins_section b ≡ true → ((o : Order) → number_at 4 8 b ≢ order_number o) → HasOrder (order_of s) b order → ⊥
no-such-order s b order begins wrong (own begins' number) = wrong order number
no-such-order s b order begins wrong (of_section other within) = false≢true (sym other ∙ begins)

pub block-fault-one : (s : Option Section) (b : List ℕ) (c d : CaptureCode) → BlockFault s b c → BlockFault s b d → c ≡ d
block-fault-one s b c d (short_front some less e) (short_front some' less' e') = e ∙ sym e'
block-fault-one s b c d (short_front some less e) (no_order room' begins' wrong' e') = absurd (omega (arith, less, room'))
block-fault-one s b c d (short_front some less e) (ordered p room' has' f') = absurd (omega (arith, less, room'))
block-fault-one s b c d (no_order room begins wrong e) (short_front some' less' e') = absurd (omega (arith, less', room))
block-fault-one s b c d (no_order room begins wrong e) (no_order room' begins' wrong' e') = e ∙ sym e'
block-fault-one s b c d (no_order room begins wrong e) (ordered p room' has' f') = absurd (no-such-order s b p begins wrong has')
block-fault-one s b c d (ordered o room has f) (short_front some' less' e') = absurd (omega (arith, less', room))
block-fault-one s b c d (ordered o room has f) (no_order room' begins' wrong' e') = absurd (no-such-order s b o begins' wrong' has)
block-fault-one s b c d (ordered o room has f) (ordered p room' has' f') =
    ordered-fault-one s p b c d (subst (λ (x : Order). OrderedFault s x b c) (order-one (order_of s) b o p has has') f) f'

pub block-fault-some : (s : Option Section) (b : List ℕ) (code : CaptureCode) → BlockFault s b code → 0 < length b
block-fault-some s b code (short_front some less e) = some
block-fault-some s b code (no_order room begins wrong e) = omega (arith, room, front-least b)
block-fault-some s b code (ordered p room has f) = omega (arith, room, front-least b)

-- ---- a fault stays, whatever follows, but for a cut

module _ (b more : List ℕ) (code : CaptureCode) (uncut : code ≢ codes.Cut) where
  longer : Extends b (b ++ more)
  longer = front-of b more

  ordered-fault-on : (s : Option Section) (order : Order) → 8 ≤ length b → OrderedFault s order b code → OrderedFault s order (b ++ more) code
  ordered-fault-on s order begun (bad_size wrong e) = bad_size (λ can. wrong (length-front order b (b ++ more) begun longer can)) e
  ordered-fault-on s order begun (old_packet can old e) =
      old_packet (length-stays order b (b ++ more) begun longer can) (kind-stays order b (b ++ more) (omega (arith, begun)) longer ∙ old) e
  ordered-fault-on s order begun (cut_block can young less e) = absurd (uncut e)
  ordered-fault-on s order begun (bad_end can young room wrong e) =
      let len = len-stays order b (b ++ more) begun longer in
      let least : 12 ≤ block_len order b = omega (arith, can.least, least-of (kind_of order b)) in
      let same : number_in order (block_len order (b ++ more) - 4) (b ++ more) ≡ number_in order (block_len order b - 4) b =
      ap (λ (n : ℕ). number_in order (n - 4) (b ++ more)) len ∙ number-stays order (block_len order b - 4) b (b ++ more) (omega (arith, room, least)) longer in
      bad_end (length-stays order b (b ++ more) begun longer can) (λ old. young (sym (kind-stays order b (b ++ more) (omega (arith, begun)) longer) ∙ old))
      (omega (arith, len, room, length-append b more)) (λ is. wrong (sym same ∙ is ∙ len)) e
  ordered-fault-on s order begun (bad_body first rest whole is f) =
      bad_body first (rest ++ more) (ap (λ (l : List ℕ). l ++ more) whole ∙ append_assoc first rest more) is f

  pub block-fault-on : (s : Option Section) → BlockFault s b code → BlockFault s (b ++ more) code
  block-fault-on s (short_front some less e) = absurd (uncut e)
  block-fault-on s (no_order room begins wrong e) =
      let twelve : 12 ≤ length b = omega (arith, room, front-of-section b begins) in
      no_order (omega (arith, front-stays b (b ++ more) (omega (arith, twelve)) longer, room, length-append b more)) (section-stays b (b ++ more) (omega (arith, twelve)) longer ∙ begins)
      (λ o is. wrong o (sym (place-stays 8 b (b ++ more) (omega (arith, twelve)) longer) ∙ is)) e
  block-fault-on s (ordered o room has f) =
      let begun : 8 ≤ length b = omega (arith, room, front-least b) in
      ordered o (omega (arith, front-stays b (b ++ more) (omega (arith, begun)) longer, room, length-append b more)) (order-stays (order_of s) o b (b ++ more) room longer has)
      (ordered-fault-on s o begun f)

-- ---- blocks, and how they end: with the file, or at a fault

abbrev pub StopsAtBlock : Option Section → List ℕ → Option CaptureCode → Type 0
StopsAtBlock s rest None = rest ≡ []
StopsAtBlock s rest (Some code) = BlockFault s rest code

stops-one : (s : Option Section) (rest : List ℕ) (o p : Option CaptureCode) → StopsAtBlock s rest o → StopsAtBlock s rest p → o ≡ p
stops-one s rest None None h k = refl
stops-one s rest None (Some d) h k = absurd (omega (arith, ap length h, block-fault-some s rest d k))
stops-one s rest (Some c) None h k = absurd (omega (arith, ap length k, block-fault-some s rest c h))
stops-one s rest (Some c) (Some d) h k = ap Some (block-fault-one s rest c d h k)

no-stop : (s : Option Section) (order : Order) (a rest : List ℕ) (fs : List Frame) (t : Section) (o : Option CaptureCode) → IsBlock (order_of s) order a → Does s order a (kind_of order a) fs t →
    StopsAtBlock s (a ++ rest) o → ⊥
no-stop s order a rest fs t None is does h = omega (arith, block-least (order_of s) order a is, ap length h, length-append a rest)
no-stop s order a rest fs t (Some code) is does h = no-block-fault s order a rest fs t code is does h

-- the first block, and what it does, where two are told
pub record OneBlock (fs gs : List Frame) (t u : Section) (a c b d : List ℕ) : Type 0 where
  pub frames : fs ≡ gs
  pub next : t ≡ u
  pub bytes : a ≡ c
  pub rest : b ≡ d

one-block : (s : Option Section) (o p : Order) (a b c d : List ℕ) (fs gs : List Frame) (t u : Section) → IsBlock (order_of s) o a → Does s o a (kind_of o a) fs t → IsBlock (order_of s) p c →
    Does s p c (kind_of p c) gs u → a ++ b ≡ c ++ d → OneBlock fs gs t u a c b d
one-block s o p a b c d fs gs t u is does js goes e =
    let same = first-block (order_of s) o p a b c d is js e in
    let here : Does s p c (kind_of p c) fs t = subst (λ (l : List ℕ). Does s p l (kind_of p l) fs t) same.1 (subst (λ (x : Order). Does s x a (kind_of x a) fs t) same.0 does) in
    let one = does-one s p c (kind_of p c) fs gs t u here goes in
    record { frames = one.0; next = one.1; bytes = same.1; rest = same.2 }

pub record OneRun (fs gs : List Frame) (o p : Option CaptureCode) (xs ys : List ℕ) : Type 0 where
  pub frames : fs ≡ gs
  pub ends : o ≡ p
  pub size : length xs ≡ length ys

pub blocks-one : (s l m : Option Section) (fs gs : List Frame) (xs ys rest last : List ℕ) (o p : Option CaptureCode) → AreBlocks s xs fs l → StopsAtBlock l rest o → AreBlocks s ys gs m →
    StopsAtBlock m last p → xs ++ rest ≡ ys ++ last → OneRun fs gs o p xs ys
blocks-one s l m fs gs xs ys rest last o p (no_blocks _ _ _ _ empty none is) h (no_blocks _ _ _ _ empty' none' is') k e =
    let same : rest ≡ last = ap (λ (z : List ℕ). z ++ rest) (sym empty) ∙ e ∙ ap (λ (z : List ℕ). z ++ last) empty' in
    record {
      frames = none ∙ sym none';
      ends = stops-one s last o p (subst (λ (z : List ℕ). StopsAtBlock s z o) same (subst (λ (z : Option Section). StopsAtBlock z rest o) is h))
          (subst (λ (z : Option Section). StopsAtBlock z last p) is' k);
      size = ap length empty ∙ sym (ap length empty');
    }
blocks-one s l m fs gs xs ys rest last o p (no_blocks _ _ _ _ empty none is) h (more_blocks _ _ _ _ q first others mine theirs next js does are whole split) k e =
    let same : rest ≡ first ++ (others ++ last) = ap (λ (z : List ℕ). z ++ rest) (sym empty) ∙ e ∙ ap (λ (z : List ℕ). z ++ last) whole ∙ append_assoc first others last in
    absurd (no-stop s q first (others ++ last) mine next o js does (subst (λ (z : List ℕ). StopsAtBlock s z o) same (subst (λ (z : Option Section). StopsAtBlock z rest o) is h)))
blocks-one s l m fs gs xs ys rest last o p (more_blocks _ _ _ _ q first others mine theirs next js does are whole split) h (no_blocks _ _ _ _ empty none is) k e =
    let same : last ≡ first ++ (others ++ rest) = ap (λ (z : List ℕ). z ++ last) (sym empty) ∙ sym e ∙ ap (λ (z : List ℕ). z ++ rest) whole ∙ append_assoc first others rest in
    absurd (no-stop s q first (others ++ rest) mine next p js does (subst (λ (z : List ℕ). StopsAtBlock s z p) same (subst (λ (z : Option Section). StopsAtBlock z last p) is k)))
blocks-one s l m fs gs xs ys rest last o p (more_blocks _ _ _ _ q first others mine theirs next js does are whole split) h
    (more_blocks _ _ _ _ q' first' others' mine' theirs' next' js' does' are' whole' split') k e =
    let both : first ++ (others ++ rest) ≡ first' ++ (others' ++ last) =
    sym (ap (λ (z : List ℕ). z ++ rest) whole ∙ append_assoc first others rest) ∙ e ∙ ap (λ (z : List ℕ). z ++ last) whole' ∙ append_assoc first' others' last in
    let one = one-block s q q' first (others ++ rest) first' (others' ++ last) mine mine' next next' js does js' does' both in
    let on = blocks-one (Some next') l m theirs theirs' others others' rest last o p (subst (λ (n : Section). AreBlocks (Some n) others theirs l) one.next are) h are' k one.rest in
    record {
      frames = split ∙ ap (λ (z : List Frame). z ++ theirs) one.frames ∙ ap (λ (z : List Frame). mine' ++ z) on.frames ∙ sym split';
      ends = on.ends;
      size = ap length whole ∙ length-append first others ∙ omega (arith, ap length one.bytes, on.size) ∙ sym (length-append first' others') ∙ sym (ap length whole');
    }

-- ---- where no whole block is left, there are no more packets

-- no whole block begins these bytes
abbrev pub NoBlock : Option Order → List ℕ → Type 0
NoBlock within b = (order : Order) (first rest : List ℕ) → b ≡ first ++ rest → ¬ IsBlock within order first

pub no-block : (within : Option Order) (b : List ℕ) → LacksBlock within b → NoBlock within b
no-block within b (lacks_front less) order first rest e is =
    omega (
      arith,
      less,
      ap front_len e,
      front-stays first (first ++ rest) (omega (arith, block-least within order first is)) (front-of first rest),
      block-room within order first is,
      ap length e,
      length-append first rest,
    )
no-block within b (lacks_rest p room has less) order first rest e is =
    let same : order ≡ p = order-one within b order p (subst (λ (l : List ℕ). HasOrder within l order) (sym e) (block-order within order first rest is)) has in
    let len : block_len p b ≡ length first = ap (λ (x : Order). block_len x b) (sym same) ∙ ap (block_len order) e ∙ block-len within order first rest is in
    omega (arith, less, len, ap length e, length-append first rest)

pub blocks-most : (s l m : Option Section) (fs gs : List Frame) (xs ys rest last : List ℕ) → AreBlocks s xs fs l → NoBlock (order_of l) rest → AreBlocks s ys gs m → xs ++ rest ≡ ys ++ last →
    length gs ≤ length fs
blocks-most s l m fs gs xs ys rest last are h (no_blocks _ _ _ _ empty none is) e = omega (arith, ap length none)
blocks-most s l m fs gs xs ys rest last (no_blocks _ _ _ _ empty none is) h (more_blocks _ _ _ _ q first others mine theirs next js does are whole split) e =
    let same : rest ≡ first ++ (others ++ last) = ap (λ (z : List ℕ). z ++ rest) (sym empty) ∙ e ∙ ap (λ (z : List ℕ). z ++ last) whole ∙ append_assoc first others last in
    absurd (h q first (others ++ last) same (subst (λ (z : Option Section). IsBlock (order_of z) q first) (sym is) js))
blocks-most s l m fs gs xs ys rest last (more_blocks _ _ _ _ q first others mine theirs next js does are whole split) h
    (more_blocks _ _ _ _ q' first' others' mine' theirs' next' js' does' are' whole' split') e =
    let both : first ++ (others ++ rest) ≡ first' ++ (others' ++ last) =
    sym (ap (λ (z : List ℕ). z ++ rest) whole ∙ append_assoc first others rest) ∙ e ∙ ap (λ (z : List ℕ). z ++ last) whole' ∙ append_assoc first' others' last in
    let one = one-block s q q' first (others ++ rest) first' (others' ++ last) mine mine' next next' js does js' does' both in
    let on = blocks-most (Some next') l m theirs theirs' others others' rest last (subst (λ (n : Section). AreBlocks (Some n) others theirs l) one.next are) h are' one.rest in
    omega (arith, on, ap length split, ap length split', length-append mine theirs, length-append mine' theirs', ap length one.frames)

-- ---- a block more

pub blocks-snoc : (s l : Option Section) (b more : List ℕ) (fs mine : List Frame) (order : Order) (next : Section) → AreBlocks s b fs l → IsBlock (order_of l) order more →
    Does l order more (kind_of order more) mine next → AreBlocks s (b ++ more) (fs ++ mine) (Some next)
blocks-snoc s l b more fs mine order next (no_blocks _ _ _ _ empty none is) js does =
    more_blocks s (b ++ more) (fs ++ mine) (Some next) order more [] mine [] next
    (subst (λ (z : Option Section). IsBlock (order_of z) order more) is js) (subst (λ (z : Option Section). Does z order more (kind_of order more) mine next) is does)
    (no_blocks (Some next) [] [] (Some next) refl refl refl) (ap (λ (z : List ℕ). z ++ more) empty ∙ sym (append-nil more)) (ap (λ (z : List Frame). z ++ mine) none ∙ sym (append-nil mine))
blocks-snoc s l b more fs mine order next (more_blocks _ _ _ _ q first rest hers theirs mid js goes are whole split) is does =
    more_blocks s (b ++ more) (fs ++ mine) (Some next) q first (rest ++ more) hers (theirs ++ mine) mid js goes
    (blocks-snoc (Some mid) l rest more theirs mine order next are is does)
    (ap (λ (z : List ℕ). z ++ more) whole ∙ append_assoc first rest more) (ap (λ (z : List Frame). z ++ mine) split ∙ append_assoc hers theirs mine)

-- ---- the front of a file of blocks

pub section-kind : (order : Order) (b : List ℕ) → begins_section b ≡ true → kind_of order b ≡ kinds.Section
section-kind order b begins = ap (λ (t : Bool). if t then kinds.Section else kind_numbered (number_in order 0 b)) begins

pub first-begins : (order : Order) (b : List ℕ) → IsBlock None order b → begins_section b ≡ true
first-begins order b is = by is.order_is where
  by : HasOrder None b order → begins_section b ≡ true
  by (own begins number) = begins
  by (of_section other within) = cc within

first-long : (order : Order) (b : List ℕ) → IsBlock None order b → 28 ≤ length b
first-long order b is =
    let kind = section-kind order b (first-begins order b is) in
    omega (arith, is.can.least, is.size, ap least_len kind)

pub record Starts (b : List ℕ) : Type 0 where
  pub begins : begins_section b ≡ true
  pub long : 28 ≤ length b

pub blocks-start : (b : List ℕ) (fs : List Frame) (now : Section) → AreBlocks None b fs (Some now) → Starts b
blocks-start b fs now (no_blocks _ _ _ _ empty none is) = cc is
blocks-start b fs now (more_blocks _ _ _ _ q first rest hers theirs mid js goes are whole split) =
    let long = first-long q first js in
    record {
      begins = ap begins_section whole ∙ section-stays first (first ++ rest) (omega (arith, long)) (front-of first rest) ∙ first-begins q first js;
      long = omega (arith, long, ap length whole, length-append first rest);
    }

-- ---- a packet has a block of sixteen bytes at least

packet-least : (form : PacketForm) → 16 ≤ least_len (kinds.Packet form)
packet-least Simple = omega arith
packet-least Enhanced = omega arith

does-long : (s : Option Section) (order : Order) (b : List ℕ) (fs : List Frame) (t : Section) → IsBlock (order_of s) order b → Does s order b (kind_of order b) fs t → 16 * length fs ≤ length b
does-long s order b fs t is (does_section k v none e) = omega (arith, ap length none)
does-long s order b fs t is (does_interface now i k at few told none e) = omega (arith, ap length none)
does-long s order b fs t is (does_packet now form f k at js one e) = omega (arith, ap length one, is.can.least, is.size, ap least_len k, packet-least form)
does-long s order b fs t is (does_nothing now k at none e) = omega (arith, ap length none)

pub blocks-long : (s l : Option Section) (b : List ℕ) (fs : List Frame) → AreBlocks s b fs l → 16 * length fs ≤ length b
blocks-long s l b fs (no_blocks _ _ _ _ empty none is) = omega (arith, ap length none)
blocks-long s l b fs (more_blocks _ _ _ _ q first rest hers theirs mid js goes are whole split) =
    omega (arith, ap length split, length-append hers theirs, ap length whole, length-append first rest, does-long s q first hers mid js goes, blocks-long (Some mid) l rest theirs are)

-- ---- a block with a packet is the next

append-none : (xs ys : List ℕ) → xs ++ ys ≡ [] → ys ≡ []
append-none [] ys e = e
append-none (x ∷ xs) ys e = cc e

frame-some : (f : Frame) (xs ys : List Frame) → xs ≡ f ∷ [] → [] ≡ xs ++ ys → ⊥
frame-some f xs ys is e = cc (e ∙ ap (λ (l : List Frame). l ++ ys) is)

pub block-next : (s l m : Option Section) (fs gs : List Frame) (xs ys part rest more : List ℕ) (frame : Frame) (order : Order) (next : Section) → AreBlocks s xs fs l →
    IsBlock (order_of l) order more → Does l order more (kind_of order more) (frame ∷ []) next → AreBlocks s ys gs m → ys ≡ xs ++ part → gs ≡ fs → more ≡ part ++ rest → part ≡ []
block-next s l m fs gs xs ys part rest more frame order next (no_blocks _ _ _ _ empty none is) js does (no_blocks _ _ _ _ empty' none' is') e same parted = append-none xs part (sym e ∙ empty')
block-next s l m fs gs xs ys part rest more frame order next (no_blocks _ _ _ _ empty none is) js does (more_blocks _ _ _ _ q first others mine theirs mid ks goes are whole split) e same parted =
    let alone : part ≡ first ++ others = ap (λ (z : List ℕ). z ++ part) (sym empty) ∙ sym e ∙ whole in
    let both : more ++ [] ≡ first ++ (others ++ rest) = append-nil more ∙ parted ∙ ap (λ (z : List ℕ). z ++ rest) alone ∙ append_assoc first others rest in
    let here : IsBlock (order_of s) order more = subst (λ (z : Option Section). IsBlock (order_of z) order more) is js in
    let one = one-block s order q more [] first (others ++ rest) (frame ∷ []) mine next mid here
    (subst (λ (z : Option Section). Does z order more (kind_of order more) (frame ∷ []) next) is does) ks goes both in
    absurd (frame-some frame mine theirs (sym one.frames) (sym none ∙ sym same ∙ split))
block-next s l m fs gs xs ys part rest more frame order next (more_blocks _ _ _ _ q first others mine theirs mid ks goes are whole split) js does (no_blocks _ _ _ _ empty none is) e same parted =
    append-none xs part (sym e ∙ empty)
block-next s l m fs gs xs ys part rest more frame order next (more_blocks _ _ _ _ q first others mine theirs mid ks goes are whole split) js does
    (more_blocks _ _ _ _ q' first' others' mine' theirs' mid' ks' goes' are' whole' split') e same parted =
    let both : first ++ (others ++ part) ≡ first' ++ others' = sym (append_assoc first others part) ∙ ap (λ (z : List ℕ). z ++ part) (sym whole) ∙ sym e ∙ whole' in
    let one = one-block s q q' first (others ++ part) first' others' mine mine' mid mid' ks goes ks' goes' both in
    let frames : mine ++ theirs' ≡ mine ++ theirs = ap (λ (z : List Frame). z ++ theirs') one.frames ∙ sym split' ∙ same ∙ split in
    block-next (Some mid) l m theirs theirs' others others' part rest more frame order next are js does (subst (λ (n : Section). AreBlocks (Some n) others' theirs' m) (sym one.next) are')
    (sym one.rest) (append_cancel_left mine theirs' theirs frames) parted
