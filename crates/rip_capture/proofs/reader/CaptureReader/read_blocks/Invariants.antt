use Rattle.std.proofs.Common.{◌≡◌, ◌-◌, ◌^◌, ℕ, List, Some}
use Rattle.rip_log.specs.Wholes.{Went}
use Rattle.rip_capture.specs.NextCall.{IsOver, IsReady, Stands, position_of, refusal_of, source_of}
use Rattle.rip_capture.specs.Pcap.{Frame}
use Rattle.rip_capture.specs.declared.reader.Format.TheVariants.{Pcapng}
use Rattle.rip_capture.proofs.reader.CaptureReader.read_blocks.Given as goal

abbrev pub invariant-next_blocks : goal.invariant-next_blocks
invariant-next_blocks g l =
    let S = g.R.Source in
    record {
      stands : (before taken : List ℕ) (frames : List Frame) → Stands S.given before l.fn.self taken frames → (now : List ℕ) × Stands S.given before l.self now frames;
      went : Went S.given S.coming S.at_end (source_of l.fn.self) (source_of l.self);
      marks : S.broken (source_of l.self) ≡ S.broken (source_of l.fn.self);
      format : l.self.format ≡ Some Pcapng;
      refusal : refusal_of l.self ≡ refusal_of l.fn.self;
      over : IsOver S.at_end l.fn.self → l.self ≡ l.fn.self;
      ready : IsReady l.fn.self → l.self ≡ l.fn.self;
    }

abbrev pub decreases-next_blocks : goal.decreases-next_blocks
decreases-next_blocks g l = 2 ^ 64 - position_of l.self
