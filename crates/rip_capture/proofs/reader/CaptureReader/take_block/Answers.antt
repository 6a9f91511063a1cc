use Rattle.std.proofs.Common.{rules, ◌≡◌, ◌+◌, ◌∙◌, ℕ, List, [], ◌∷◌, ◌++◌, Ok, Err, Some, ap, arith, inr, refl, subst, sym, take}
use Rattle.std.proofs.lemmas.Bool.{false≢true}
use Rattle.rip_capture.proofs.BodyLemmas.{packet-said, reads-calm}
use Rattle.rip_capture.proofs.StepLemmas.{fault-took, frames-none, no-packet, packet-framed, took}
use Rattle.std.specs.Prelude.{slice_range}
use Rattle.rip_capture.specs.Bodies.{ReadsBody, section_of}
use Rattle.rip_capture.specs.Interfaces.{came_by}
use Rattle.rip_capture.specs.Pcapng.{Section}
use Rattle.rip_capture.specs.NextCall.{held_by, section_by}
use Rattle.rip_capture.specs.Pcap.{Frame}
use Rattle.rip_capture.specs.declared.interface.Interface.{Interface}
use Rattle.rip_capture.specs.declared.bodies.Body.TheVariants as says
use Rattle.rip_capture.specs.declared.reader.Step.TheVariants.{Packet, Passed}
use Rattle.rip_capture.proofs.reader.CaptureReader.take_block.Goals as goal

pub returns-in-Err-clause-took : goal.returns-in-Err-clause-took
returns-in-Err-clause-took g c = λ before taken passed frames s st.
    let S = g.R.Source in
    let old = c.args.self.now in
    let block = c.args.block in
    let reads : ReadsBody block.order (section_by old).interfaces block.kind (take block.held (held_by old)) (Err c.in-Err.code) =
    subst (λ (l : List ℕ). ReadsBody block.order (section_by old).interfaces block.kind (take block.held l) (Err c.in-Err.code)) c.held.ensures
    (subst (λ (is : List Interface). ReadsBody block.order is block.kind (take block.held c.held.result.now) (Err c.in-Err.code)) c.as_slice-interfaces.ensures.value c.in-Err.ensures) in
    let calm = reads-calm block.order (section_by old).interfaces (take block.held (held_by old)) block.kind c.in-Err.code reads in
    (st.position, st.gave, st.position, inr (calm.unread, calm.uncut, fault-took S.given before taken passed frames s old block st c.in-Err.code reads))

pub returns-in-Err-clause-far : goal.returns-in-Err-clause-far
returns-in-Err-clause-far g c = λ failed.
    let block = c.args.block in
    absurd (false≢true (sym (reads-calm block.order c.as_slice-interfaces.result.now (take block.held c.held.result.now) block.kind c.in-Err.code c.in-Err.ensures).unread ∙ failed))

pub returns-in-Packet-clause-took : goal.returns-in-Packet-clause-took
returns-in-Packet-clause-took g c = λ before taken passed frames s st.
    let S = g.R.Source in
    let old = c.args.self.now in
    let block = c.args.block in
    let p = c.in-Packet.packet in
    let interfaces = (section_by old).interfaces in
    let reads : ReadsBody block.order interfaces block.kind (take block.held (held_by old)) (Ok (says.Packet p)) =
    subst (λ (l : List ℕ). ReadsBody block.order interfaces block.kind (take block.held l) (Ok (says.Packet p))) c.held.ensures
    (subst (λ (is : List Interface). ReadsBody block.order is block.kind (take block.held c.held.result.now) (Ok (says.Packet p))) c.as_slice-interfaces.ensures.value
    (rw c.in-Packet.is at c.in-Ok.ensures)) in
    let made : List ℕ → List Interface → List Frame = λ l is. record { link_type = p.link_type; bytes = l; interface = came_by is p.interface; time = p.time } ∷ [] in
    let entered : section_of c.enter.new.self ≡ section_by old = rw c.in-Packet.is at c.enter.ensures in
    let framed = packet-framed S.given before taken passed frames s old block st c.take-taken.new.self.feed.buffer.items c.take-taken.result p interfaces c.take-taken.ensures.lies
    c.take-taken.ensures.size reads in
    took S.given before taken passed frames s old block st
    (record { parts = c.take-taken.new.self; format = old.format; section = c.enter.new.self; position = c.in-Some.position; refusal = old.refusal }) (says.Packet p)
    (Packet (record {
      link_type = p.link_type;
      bytes = record { from = c.take-taken.result.from + p.bytes.from; to = c.take-taken.result.from + p.bytes.to };
      interface = Some p.interface;
      time = p.time;
      at = old.position;
    }))
    c.take-taken.ensures.takes (omega (arith, c.in-Some.ensures)) entered
    (ap (λ l. made l (section_of c.enter.new.self).interfaces) framed ∙ ap (λ (n : Section). made (slice_range (take block.len (passed ++ held_by old)) p.bytes.from p.bytes.to) n.interfaces) entered)
    st.position reads

pub returns-in-Section : goal.returns-in-Section
returns-in-Section g c =
    let S = g.R.Source in
    let old = c.args.self.now in
    let block = c.args.block in
    let body = c.in-Ok.body in
    let reads : ReadsBody block.order (section_by old).interfaces block.kind (take block.held (held_by old)) (Ok body) =
    subst (λ (l : List ℕ). ReadsBody block.order (section_by old).interfaces block.kind (take block.held l) (Ok body)) c.held.ensures
    (subst (λ (is : List Interface). ReadsBody block.order is block.kind (take block.held c.held.result.now) (Ok body)) c.as_slice-interfaces.ensures.value c.in-Ok.ensures) in
    record {
      took = λ before taken passed frames s st.
          took S.given before taken passed frames s old block st
          (record { parts = c.take-taken.new.self; format = old.format; section = c.enter.new.self; position = c.in-Some.position; refusal = old.refusal }) body Passed
          c.take-taken.ensures.takes (omega (arith, c.in-Some.ensures)) c.enter.ensures (sym (frames-none (section_by old).interfaces (take block.len (passed ++ held_by old)) body c.in-Section.is)) tt reads;
      packet = λ form is e. let said = packet-said block.order (section_by old).interfaces
          (take block.held (held_by old)) block.kind form body is reads in no-packet body said.0 c.in-Section.is said.1;
      section = λ is. refl;
      on = (omega (arith, c.in-Some.ensures, c.requires.some), search rules);
      far = λ bad. absurd (false≢true bad);
      source = c.take-taken.ensures.source;
      format = refl;
      refusal = refl;
      good = tt;
    }
