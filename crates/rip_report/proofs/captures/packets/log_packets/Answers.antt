use Rattle.std.proofs.Common.{◌≡◌, ◌≤◌, ◌∙◌, ◌+◌, ◌++◌, ◌∷◌, [], List, ℕ, Bool, Err, Option, None, ap, append-nil, arith, inl, inr, length, map, refl, sym, subst}
use Rattle.std.proofs.lemmas.Bool.{false≢true}
use Rattle.std.proofs.lemmas.List.{length-map}
use Rattle.rip_log.proofs.WholeLemmas.{went_nowhere, went_on}
use Rattle.rip_capture.specs.NextCall.{Stands, TakesPacket, frame_of, place_of, position_of, section_by, source_of}
use Rattle.rip_capture.specs.Pcap.{Frame}
use Rattle.rip_capture.specs.declared.error.CaptureCode.TheVariants.{Read}
use Rattle.rip_report.specs.CapturePackets.{EndsSo, KeepsFirst, LogsSo, ended_at}
use Rattle.rip_report.specs.LineTimes.{span_of}
use Rattle.rip_report.specs.declared.captures.ending.Ending.TheVariants.{Refused}
use Rattle.rip_report.specs.declared.captures.ending.RefusalCode.{RefusalCode}
use Rattle.rip_report.specs.declared.captures.ending.RefusalCode.TheVariants.{Capture, Time, TooManyLines}
use Rattle.rip_report.specs.declared.captures.manner.Manner.{Manner}
use Rattle.rip_report.specs.declared.captures.tally.Tally.{Tally}
use Rattle.rip_capture.specs.declared.reader.CaptureReader.{CaptureReader}
use Rattle.rip_report.proofs.LineTimeLemmas.{shown-with, span-snoc}
use Rattle.rip_capture.specs.Origins.{origin_in}
use Rattle.rip_report.specs.CaptureText.{counted, line_count, omitted_of, packet_lines}
use Rattle.rip_report.specs.Selections.{Carrier, IsCarrier, IsLogged, Selection, first_behind, selection_of}
use Rattle.rip_report.specs.Outs.{Adds, IsOnItsWay, Progress}
use Rattle.rip_report.proofs.CaptureLemmas.{adds-packet, all-last, carriers-snoc, counts-snoc, first-snoc, ends-at, ends-by, far, stops-far, frames-snoc, has-room, line_count-snoc, never-unread, read-is_unread, unread-is_read}
use Rattle.rip_report.proofs.OutLemmas.{adds_none, adds_same, adds_then, way_after}
use Rattle.rip_report.proofs.captures.packets.log_packets.Goals as goal

-- what a packet that was not logged leaves
not-logged : {R : Type 0} (given : R → List ℕ) (at_end : R → Bool) (how : Manner) (selection : Selection) (link before : List ℕ) (lines : ℕ) (cs : List Carrier) (p : Carrier) (code : RefusalCode) (at : ℕ) (old new : Tally)
    (out after : Progress) (reader : CaptureReader R) → LogsSo how link p old new out after (Err code) → IsCarrier p → IsLogged selection (first_behind None cs) p.frame p.carried p.logged
    → TakesPacket given before (map (λ c. c.frame) cs) p.frame at reader → old.lines ≡ lines + line_count cs → (after ≡ out) × EndsSo given at_end how selection before lines cs reader after (Refused code at)
not-logged given at_end how selection link before lines cs p TooManyLines at old new out after reader (nothing, lacks) is logged takes count =
    (nothing.text, (omega (arith, count, lacks.many), inl (p, is, logged, takes, lacks.line, lacks.time)))
not-logged given at_end how selection link before lines cs p Time at old new out after reader (nothing, lacks) is logged takes count = (nothing.text, (p, is, logged, takes, lacks))
not-logged given at_end how selection link before lines cs p (Capture code) at old new out after reader logs is logged takes count = absurd logs

-- what was sent is the same text
adds-so : {a b d : Progress} (text : List ℕ) → Adds a b text → Adds b d [] → Adds a d text
adds-so text f g = adds_same (append-nil text) (adds_then f g)

pub packets-init : goal.packets-init
packets-init g c =
    let S = g.R.Source in
    record {
      carriers = [];
      are = record { carry = tt; logged = tt; timed = tt };
      span = refl;
      keeps = c.requires.first;
      taken = [];
      stands = c.requires.front;
      counts = c.new.ensures c.args.manner;
      lines = omega arith;
      few = c.requires.lines;
      adds = adds_none c.args.out.now;
      went = went_nowhere S.given S.coming S.at_end (source_of c.args.reader.now);
      running = c.requires.running;
      marks = refl;
      sound = λ sound. sound;
      way = λ sound way. subst (IsOnItsWay g.K.Sink.taken g.K.Sink.broken c.args.out.now.start) (sym (append-nil c.args.out.now.text)) way;
    }

pub log_packet-requires-clause-room : goal.log_packet-requires-clause-room
log_packet-requires-clause-room g c = has-room c.args.manner c.packets.tally.counts c.packets.invariant.carriers c.packets.invariant.counts c.packets-test.true

pub log_packet-requires-clause-short : goal.log_packet-requires-clause-short
log_packet-requires-clause-short g c =
    let S = g.R.Source in
    let inv = c.packets.invariant in
    let now = c.next.follows.lender-at-none in
    let h = rw (c.in-Ok-Some.is, c.in-Ok-Some.field-0-is) at c.next.follows.holds-at-none in
    let runs = h.runs inv.running in
    let packet = c.in-Ok-Some.packet in
    let before = S.given (source_of c.args.reader.now) in
    let goes : TakesPacket S.given before (map (λ c. c.frame) inv.carriers) (frame_of packet) (place_of packet) now = runs.goes before inv.taken (map (λ c. c.frame) inv.carriers) inv.stands in
    all-last (λ (f : Frame). length f.bytes ≤ 262144) (map (λ c. c.frame) inv.carriers) (frame_of packet) (c.short_packets.ensures (goes.front ++ goes.bytes) _ goes.longer)

pub packets-preserved : goal.packets-preserved
packets-preserved g c =
    let S = g.R.Source in
    let inv = c.packets.invariant in
    let now = c.next.follows.lender-at-none in
    let h = rw (c.in-Ok-Some.is, c.in-Ok-Some.field-0-is) at c.next.follows.holds-at-none in
    let runs = h.runs inv.running in
    let packet = c.in-Ok-Some.packet in
    let before = S.given (source_of c.args.reader.now) in
    let did = c.log_packet.ensures (first_behind None inv.carriers) inv.keeps in
    let p = did.carrier in
    let goes : TakesPacket S.given before (map (λ c. c.frame) inv.carriers) p.frame (place_of packet) now =
    subst (λ (f : Frame). TakesPacket S.given before (map (λ c. c.frame) inv.carriers) f (place_of packet) now) (sym did.frame_is) (runs.goes before inv.taken (map (λ c. c.frame) inv.carriers) inv.stands) in
    let logs = rw c.in-Ok.is at did.logs in
    let cs = inv.carriers in
    let are = carriers-snoc c.args.manner (selection_of c.args.part.now.selection) cs p inv.are did.carries did.logged logs.timed in
    let adds = adds-packet c.args.manner c.args.part.now.link.now cs p (adds-so (packet_lines c.args.manner c.args.part.now.link.now inv.carriers) inv.adds c.send_before_wait.ensures.adds) logs.adds in
    record {
      carriers = cs ++ p ∷ [];
      are = are;
      span = rw (logs.span, span-snoc None cs p) (shown-with c.packets.tally.span (span_of cs) logs.micros p.time inv.span logs.shown);
      keeps = subst (λ (o : Option Frame). KeepsFirst o (origin_in c.log_packet.new.first)) (sym (first-snoc None cs p)) did.keeps;
      taken = goes.front ++ goes.bytes;
      stands = subst (λ (fs : List Frame). Stands S.given before now (goes.front ++ goes.bytes) fs) (sym (frames-snoc cs p)) goes.stands;
      counts = logs.counts ∙ ap (λ n. counted n p.logged (omitted_of c.args.manner.authentication p.frame.bytes p.logged)) inv.counts ∙ sym (counts-snoc c.args.manner cs p);
      lines = omega (arith, logs.lines, inv.lines, line_count-snoc cs p);
      few = logs.few;
      adds = adds;
      went = went_on S.given S.coming S.at_end (source_of c.args.reader.now) (source_of c.packets.reader) (source_of now) inv.went runs.moves.went;
      running = h.refused;
      marks = runs.moves.marks refl ∙ inv.marks;
      sound = λ sound. sym c.has_failed-in-Ok-Some.ensures.failed ∙ c.if-has_failed-2.false;
      way = λ sound way. way_after g.K.Sink.taken g.K.Sink.broken adds (c.has_failed-in-Ok-Some.ensures.way c.if-has_failed-2.false);
    }

pub packets-smaller : goal.packets-smaller
packets-smaller g c =
    let inv = c.packets.invariant in
    let did = c.log_packet.ensures (first_behind None inv.carriers) inv.keeps in
    let logs = rw c.in-Ok.is at did.logs in
    let more : c.log_packet.new.tally.counts.packets ≡ c.packets.tally.counts.packets + 1 = ap (λ n. n.packets) logs.counts in
    omega (arith, more, c.packets-test.true)

pub returns-in-Err-log_packet : goal.returns-in-Err-log_packet
returns-in-Err-log_packet g c =
    let S = g.R.Source in
    let inv = c.packets.invariant in
    let now = c.next.follows.lender-at-none in
    let h = rw (c.in-Ok-Some.is, c.in-Ok-Some.field-0-is) at c.next.follows.holds-at-none in
    let runs = h.runs inv.running in
    let packet = c.in-Ok-Some.packet in
    let before = S.given (source_of c.args.reader.now) in
    let did = c.log_packet.ensures (first_behind None inv.carriers) inv.keeps in
    let p = did.carrier in
    let goes : TakesPacket S.given before (map (λ c. c.frame) inv.carriers) p.frame (place_of packet) now =
    subst (λ (f : Frame). TakesPacket S.given before (map (λ c. c.frame) inv.carriers) f (place_of packet) now) (sym did.frame_is) (runs.goes before inv.taken (map (λ c. c.frame) inv.carriers) inv.stands) in
    let logs : LogsSo c.args.manner c.args.part.now.link.now p c.packets.tally c.log_packet.new.tally c.send_before_wait.new.out c.log_packet.new.out (Err c.in-Err-log_packet.code) =
    subst (LogsSo c.args.manner c.args.part.now.link.now p c.packets.tally c.log_packet.new.tally c.send_before_wait.new.out c.log_packet.new.out) c.in-Err-log_packet.is did.logs in
    let (same, ends) = not-logged S.given S.at_end c.args.manner (selection_of c.args.part.now.selection) c.args.part.now.link.now before c.args.lines inv.carriers p c.in-Err-log_packet.code (place_of packet)
    c.packets.tally c.log_packet.new.tally c.send_before_wait.new.out c.log_packet.new.out now logs did.carries did.logged goes inv.lines in
    record {
      carriers = inv.carriers;
      are = inv.are;
      few = omega (arith, inv.lines, inv.few);
      adds = rw same (adds-so (packet_lines c.args.manner c.args.part.now.link.now inv.carriers) inv.adds c.send_before_wait.ensures.adds);
      ends = ends;
      went = went_on S.given S.coming S.at_end (source_of c.args.reader.now) (source_of c.packets.reader) (source_of now) inv.went runs.moves.went;
      unread = λ e. cc e;
      marks = λ e. runs.moves.marks refl ∙ inv.marks;
      stops = λ sound way failed. absurd (false≢true (sym (sym c.has_failed.ensures.failed ∙ c.if-has_failed.false) ∙ ap (λ (t : Progress). t.failed) (sym same) ∙ failed));
    }

pub returns-then-has_failed-2 : goal.returns-then-has_failed-2
returns-then-has_failed-2 g c =
    let S = g.R.Source in
    let inv = c.packets.invariant in
    let now = c.next.follows.lender-at-none in
    let h = rw (c.in-Ok-Some.is, c.in-Ok-Some.field-0-is) at c.next.follows.holds-at-none in
    let runs = h.runs inv.running in
    let packet = c.in-Ok-Some.packet in
    let before = S.given (source_of c.args.reader.now) in
    let did = c.log_packet.ensures (first_behind None inv.carriers) inv.keeps in
    let p = did.carrier in
    let goes : TakesPacket S.given before (map (λ c. c.frame) inv.carriers) p.frame (place_of packet) now =
    subst (λ (f : Frame). TakesPacket S.given before (map (λ c. c.frame) inv.carriers) f (place_of packet) now) (sym did.frame_is) (runs.goes before inv.taken (map (λ c. c.frame) inv.carriers) inv.stands) in
    let logs = rw c.in-Ok.is at did.logs in
    let cs = inv.carriers in
    let are = carriers-snoc c.args.manner (selection_of c.args.part.now.selection) cs p inv.are did.carries did.logged logs.timed in
    record {
      carriers = cs ++ p ∷ [];
      are = are;
      few = omega (arith, logs.lines, inv.lines, line_count-snoc cs p, logs.few);
      adds = adds-packet c.args.manner c.args.part.now.link.now cs p (adds-so (packet_lines c.args.manner c.args.part.now.link.now inv.carriers) inv.adds c.send_before_wait.ensures.adds) logs.adds;
      ends = (
        sym c.has_failed-in-Ok-Some.ensures.failed ∙ c.if-has_failed-2.true,
        (goes.front ++ goes.bytes, subst (λ (fs : List Frame). Stands S.given before now (goes.front ++ goes.bytes) fs) (sym (frames-snoc cs p)) goes.stands),
      );
      went = went_on S.given S.coming S.at_end (source_of c.args.reader.now) (source_of c.packets.reader) (source_of now) inv.went runs.moves.went;
      unread = λ e. cc e;
      marks = λ e. runs.moves.marks refl ∙ inv.marks;
      stops = λ sound way failed. (refl, record { front = cs; last = p ∷ []; split = refl; few = omega arith; way = inv.way sound way });
    }

pub returns-in-Ok-None : goal.returns-in-Ok-None
returns-in-Ok-None g c =
    let S = g.R.Source in
    let inv = c.packets.invariant in
    let now = c.next.follows.lender-at-none in
    let h = rw (c.in-Ok-None.is, c.in-Ok-None.field-0-is) at c.next.follows.holds-at-none in
    let runs = h.runs inv.running in
    let before = S.given (source_of c.args.reader.now) in
    let tally = c.packets.tally in
    let here = runs.goes before inv.taken (map (λ c. c.frame) inv.carriers) inv.stands in
    let known = c.ended_at.ensures ∙ ap (ended_at tally) c.position.ensures in
    rw known (record {
      carriers = inv.carriers;
      are = inv.are;
      few = omega (arith, inv.lines, inv.few);
      adds = (adds-so (packet_lines c.args.manner c.args.part.now.link.now inv.carriers) inv.adds c.send_before_wait.ensures.adds);
      ends = ends-at S.given S.at_end c.args.manner (selection_of c.args.part.now.selection) before c.args.lines inv.carriers now c.send_before_wait.new.out tally here inv.counts inv.lines inv.few inv.span;
      went = went_on S.given S.coming S.at_end (source_of c.args.reader.now) (source_of c.packets.reader) (source_of now) inv.went runs.moves.went;
      unread = λ e. absurd (never-unread tally (position_of now) e);
      marks = λ e. runs.moves.marks refl ∙ inv.marks;
      stops = λ sound way failed. absurd (false≢true (sym (sym c.has_failed.ensures.failed ∙ c.if-has_failed.false) ∙ failed));
    })

pub returns-in-Err : goal.returns-in-Err
returns-in-Err g c =
    let S = g.R.Source in
    let inv = c.packets.invariant in
    let now = c.next.follows.lender-at-none in
    let h = rw c.in-Err.is at c.next.follows.holds-at-none in
    let runs = h.runs inv.running in
    let before = S.given (source_of c.args.reader.now) in
    let goes = runs.goes before inv.taken (map (λ c. c.frame) inv.carriers) inv.stands in
    let ends = ends-by S.given S.at_end c.args.manner (selection_of c.args.part.now.selection) before c.args.lines inv.carriers now c.send_before_wait.new.out c.in-Err.error.code c.in-Err.error.at goes in
    rw c.ended_by.ensures (record {
      carriers = inv.carriers;
      are = inv.are;
      few = omega (arith, inv.lines, inv.few);
      adds = (adds-so (packet_lines c.args.manner c.args.part.now.link.now inv.carriers) inv.adds c.send_before_wait.ensures.adds);
      ends = ends;
      went = went_on S.given S.coming S.at_end (source_of c.args.reader.now) (source_of c.packets.reader) (source_of now) inv.went runs.moves.went;
      unread = λ e. runs.moves.failed (unread-is_read c.in-Err.error.code c.in-Err.error.at e);
      marks = λ e. runs.moves.marks (read-is_unread c.in-Err.error.code c.in-Err.error.at e) ∙ inv.marks;
      stops = λ sound way failed. absurd (false≢true (sym (sym c.has_failed.ensures.failed ∙ c.if-has_failed.false) ∙ failed));
    })

pub returns : goal.returns
returns g c =
    let S = g.R.Source in
    let inv = c.packets.invariant in
    let frames = map (λ (c : Carrier). c.frame) inv.carriers in
    let many : c.packets.tally.counts.packets ≡ length inv.carriers = ap (λ n. n.packets) inv.counts in
    let read = c.read_captures.ensures c.packets.reader.format (section_by c.packets.reader) inv.taken frames inv.stands.read in
    let is_far = far c.packets.reader inv.taken frames c.long_captures.ensures inv.stands.position read
    (omega (arith, many, length-map inv.carriers (λ (c : Carrier). c.frame), c.packets-test.false)) in
    record {
      carriers = inv.carriers;
      are = inv.are;
      few = omega (arith, inv.lines, inv.few);
      adds = inv.adds;
      ends = (
        record { code = Read; at = position_of c.packets.reader },
        stops-far S.given S.at_end (S.given (source_of c.args.reader.now)) inv.taken frames c.packets.reader inv.stands read is_far,
        refl,
      );
      went = inv.went;
      unread = λ e. inr is_far;
      marks = λ e. absurd (e refl);
      stops = λ sound way failed. absurd (false≢true (sym (inv.sound sound) ∙ failed));
    }
