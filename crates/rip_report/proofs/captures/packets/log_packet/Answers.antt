use Rattle.std.proofs.Common.{◌≡◌, ◌∙◌, Bool, List, Err, None, ap, arith, refl, subst, sym, ℕ}
use Rattle.rip_capture.specs.NextCall.{frame_of}
use Rattle.rip_report.specs.CapturePackets.{LogsSo}
use Rattle.rip_report.specs.CaptureText.{counted, has_line, is_timed, one}
use Rattle.rip_report.specs.LineTimes.{FindsTime, IsTimed, noted_span}
use Rattle.rip_report.specs.Outs.{Progress}
use Rattle.rip_report.specs.Selections.{Carrier}
use Rattle.rip_report.specs.declared.captures.ending.RefusalCode.{RefusalCode}
use Rattle.rip_report.specs.declared.captures.ending.RefusalCode.TheVariants.{Capture, Time, TooManyLines}
use Rattle.rip_report.specs.declared.captures.manner.Manner.{Manner}
use Rattle.rip_report.specs.declared.captures.tally.Tally.{Tally}
use Rattle.rip_report.proofs.OutLemmas.{adds_then}
use Rattle.rip_report.proofs.LineTimeLemmas.{found-time, timed-so}
use Rattle.rip_report.proofs.captures.packets.log_packet.Goals as goal
use Rattle.rip_report.proofs.captures.packets.log_packet.Goals.{then-has_line+else-tally-ge-MOST_LINES, else-has_line}

-- where no time was found nothing was added
lacks : (how : Manner) (link : List ℕ) (c : Carrier) (asked : Bool) (code : RefusalCode) (tally : Tally) (out : Progress) → asked ≡ is_timed how c.logged → FindsTime asked c.frame (Err code) → LogsSo how link c tally tally out out (Err code)
lacks how link c asked Time tally out e found = (record { tally = refl; text = refl }, record { asked = sym e ∙ found.0; none = found.1 })
lacks how link c asked TooManyLines tally out e found = absurd found
lacks how link c asked (Capture code) tally out e found = absurd found

pub returns-in-Err : goal.returns-in-Err
returns-in-Err g c = λ seen keeps.
    let both = c.logged-logged.ensures.logged seen keeps in
    let carrier : Carrier = record { frame = frame_of c.args.packet.now; carried = c.read_frame-carried.result; logged = c.logged-logged.result; time = None } in
    record {
      carrier = carrier;
      frame_is = refl;
      carries = c.read_frame-carried.ensures.carries;
      logged = both.0;
      keeps = both.1;
      logs = lacks c.args.manner c.args.part.now.link.now carrier c.is_timed.result c.in-Err.code c.args.tally.now c.args.out.now c.is_timed.ensures c.in-Err.ensures;
    }

pub returns-then-tally-ge-MOST_LINES : goal.returns-then-tally-ge-MOST_LINES
returns-then-tally-ge-MOST_LINES g c = λ seen keeps.
    let both = c.logged-logged.ensures.logged seen keeps in
    record {
      carrier = record { frame = frame_of c.args.packet.now; carried = c.read_frame-carried.result; logged = c.logged-logged.result; time = None };
      frame_is = refl;
      carries = c.read_frame-carried.ensures.carries;
      logged = both.0;
      keeps = both.1;
      logs = (
        record { tally = refl; text = refl },
        record {
          line = sym c.has_line.ensures ∙ c.if-has_line.true;
          many = omega (arith, c.requires.lines, c.if-tally-ge-MOST_LINES.true);
          time = λ asked. found-time c.is_timed.result (frame_of c.args.packet.now) c.in-Ok.time (c.is_timed.ensures ∙ asked) c.in-Ok.ensures;
        },
      );
    }

pub push_line-omitted-requires : goal.push_line-omitted-requires
push_line-omitted-requires g c = record { lies = c.logged-logged.ensures.lies _ c.read_frame-carried.ensures.lies }

pub returns : goal.returns
returns g c = λ seen keeps.
    let both = c.logged-logged.ensures.logged seen keeps in
    let logged = c.logged-logged.result in
    let omitted = c.push_line-omitted.result in
    let (time, shown, adds) = c.push_time.ensures in
    let timed = timed-so c.is_timed.result (frame_of c.args.packet.now) c.in-Ok.time time c.in-Ok.ensures shown in
    let old = c.args.tally.now in
    record {
      carrier = record { frame = frame_of c.args.packet.now; carried = c.read_frame-carried.result; logged = logged; time = time };
      frame_is = refl;
      carries = c.read_frame-carried.ensures.carries;
      logged = both.0;
      keeps = both.1;
      logs = elim c.if-has_line.branch [
        | then-has_line+else-tally-ge-MOST_LINES w ↦
            let line : one (has_line logged) ≡ 1 = ap one (sym c.has_line.ensures ∙ w.if-has_line.true) in
            let lines = ap (λ (t : Tally). t.lines) w.tally-is in
            record {
              counts = c.add.ensures ∙ ap (λ (t : Tally). counted t.counts logged omitted) w.tally-is ∙ ap (counted old.counts logged) c.push_line-omitted.ensures.omitted;
              lines = omega (arith, lines, line);
              few = omega (arith, lines, w.if-tally-ge-MOST_LINES.false);
              timed = subst (λ (b : Bool). IsTimed b (frame_of c.args.packet.now) time) c.is_timed.ensures timed;
              micros = c.in-Ok.time;
              shown = shown;
              span = c.noted_span-tally.ensures ∙ ap (λ (t : Tally). noted_span t.span c.in-Ok.time) w.tally-is;
              adds = adds_then adds c.push_line-omitted.ensures.adds;
            }
        | else-has_line w ↦
            let line : one (has_line logged) ≡ 0 = ap one (sym c.has_line.ensures ∙ w.if-has_line.false) in
            let lines = ap (λ (t : Tally). t.lines) w.tally-is in
            record {
              counts = c.add.ensures ∙ ap (λ (t : Tally). counted t.counts logged omitted) w.tally-is ∙ ap (counted old.counts logged) c.push_line-omitted.ensures.omitted;
              lines = omega (arith, lines, line);
              few = omega (arith, lines, c.requires.lines);
              timed = subst (λ (b : Bool). IsTimed b (frame_of c.args.packet.now) time) c.is_timed.ensures timed;
              micros = c.in-Ok.time;
              shown = shown;
              span = c.noted_span-tally.ensures ∙ ap (λ (t : Tally). noted_span t.span c.in-Ok.time) w.tally-is;
              adds = adds_then adds c.push_line-omitted.ensures.adds;
            }
      ];
    }
