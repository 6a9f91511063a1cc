use Rattle.std.proofs.Common.{List, ap, arith, inr, length, refl, subst, sym}
use Rattle.rip_capture.proofs.BodyLemmas.{packet-fault}
use Rattle.rip_capture.specs.Pcapng.{PacketFault}
use Rattle.rip_capture.specs.Pcapng.BodyFault.{full, options, packet}
use Rattle.rip_capture.specs.declared.interface.Interface.{Interface}
use Rattle.rip_capture.proofs.bodies.read_body.Goals as goal

pub returns-then-interfaces-ge-MOST_INTERFACES : goal.returns-then-interfaces-ge-MOST_INTERFACES
returns-then-interfaces-ge-MOST_INTERFACES c = inr (λ now same.
    full now c.in-Interface.is refl (omega (arith, ap length same, c.if-interfaces-ge-MOST_INTERFACES.true)) refl)

pub returns-in-Err-read_packet : goal.returns-in-Err-read_packet
returns-in-Err-read_packet c = inr (λ now same.
    packet now c.in-Packet.form c.in-Packet.is refl
    (subst (λ (is : List Interface). PacketFault c.args.block.order is c.in-Packet.form c.args.bytes.now c.in-Err-read_packet.code) (sym same)
    (packet-fault c.args.block.order c.args.interfaces.now c.in-Packet.form c.args.bytes.now c.in-Err-read_packet.code c.in-Err-read_packet.ensures)))

pub returns-in-Err : goal.returns-in-Err
returns-in-Err c = inr (λ now same.
    options now c.in-Interface.is refl (omega (arith, ap length same, c.if-interfaces-ge-MOST_INTERFACES.false)) c.in-Err.ensures.err.1 c.in-Err.ensures.err.0)
