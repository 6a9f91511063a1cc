use Rattle.std.proofs.Common.{◌≡◌, ◌≤◌, ◌∙◌, List, ℕ, Some, ap, arith, inl, inr, length, refl, subst, sym}
use Rattle.std.proofs.lemmas.Bool.{cases_Bool, le-leb, leb-true}
use Rattle.rip_capture.specs.Finds.{HoldsPacketBlock, HoldsWhole}
use Rattle.rip_capture.specs.Pcapng.{HasLength, HasOrder, begins_section, block_len, front_len, inherited, is_read_whole, kind_of, least_len, own}
use Rattle.rip_capture.specs.declared.blocks.BlockKind.TheVariants.{Packet, Section}
use Rattle.rip_capture.specs.declared.blocks.PacketForm.{PacketForm}
use Rattle.rip_capture.specs.declared.blocks.PacketForm.TheVariants.{Enhanced, Simple}
use Rattle.rip_capture.specs.declared.numbers.Order.{Order}
use Rattle.rip_capture.proofs.blocks.holds_packet.Goals as goal

packet-held : (order : Order) (b : List ℕ) (form : PacketForm) → kind_of order b ≡ Packet form → HasLength order b → 12 ≤ length b → block_len order b ≤ length b → HoldsPacketBlock (Some order) b
packet-held order b form kind can front whole =
    elim (cases_Bool (begins_section b)) [
      | inl on ↦ let section : kind_of order b ≡ Section = rw on refl in absurd (cc (sym section ∙ kind))
      | inr off ↦
          let size : front_len b ≡ 8 = rw off refl in
          record {
            block = record { order = order; front = omega (arith, size, front); order_is = inherited off refl; holds = record { can = can; read = ap is_read_whole kind; whole = whole } };
            form = form;
            packet = kind;
          }
    ]

-- a block of a packet has the byte order of its section
order-of : (order here : Order) (b : List ℕ) (form : PacketForm) → HasOrder (Some order) b here → kind_of here b ≡ Packet form → here ≡ order
order-of order here b form (own on is) kind = let section : kind_of here b ≡ Section = rw on refl in absurd (cc (sym section ∙ kind))
order-of order here b form (inherited off is) kind = cc is

-- and so it is such a block by that order
held-here : (order : Order) (b : List ℕ) → HoldsPacketBlock (Some order) b → (form : PacketForm) × (kind_of order b ≡ Packet form) × HoldsWhole order b
held-here order b h =
    let same = order-of order h.block.order b h.form h.block.order_is h.packet in
    (h.form, subst (λ (o : Order). kind_of o b ≡ Packet h.form) same h.packet, subst (λ (o : Order). HoldsWhole o b) same h.block.holds)

sixteen : (form : PacketForm) → 16 ≤ least_len (Packet form)
sixteen Enhanced = omega arith
sixteen Simple = omega arith

-- a block of a packet has sixteen bytes
long-enough : (order : Order) (b : List ℕ) → HoldsPacketBlock (Some order) b → 16 ≤ length b
long-enough order b h =
    let (form, kind, holds) = held-here order b h in
    omega (arith, sixteen form, ap least_len kind, holds.can.least, holds.whole)

pub returns-then-held-lt-SECTION_FRONT : goal.returns-then-held-lt-SECTION_FRONT
returns-then-held-lt-SECTION_FRONT c = (
  λ e. cc e,
  λ h. absurd (omega (arith, long-enough c.args.order c.args.held.now h, c.if-held-lt-SECTION_FRONT.true)),
)

pub returns-in-Ok-Packet-default : goal.returns-in-Ok-Packet-default
returns-in-Ok-Packet-default c =
    let says = c.in-Ok-Packet-default.ensures in
    let order = c.args.order in
    let b = c.args.held.now in (
      λ e. packet-held order b c.in-Ok-Packet-default.field-0-0-0 (sym says.2 ∙ c.in-Ok-Packet-default.field-0-0-is) says.0 c.if-held-lt-SECTION_FRONT.false
          (omega (arith, says.3, leb-true c.in-Ok-Packet-default.len (length b) e)),
      λ h.
          let here = held-here order b h in
          le-leb c.in-Ok-Packet-default.len (length b) (omega (arith, says.3, here.2.whole)),
    )
