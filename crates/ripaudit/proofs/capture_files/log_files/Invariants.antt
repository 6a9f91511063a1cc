use Rattle.std.proofs.Common.{◌≡◌, List, ℕ, Bor, length, map}
use Rattle.rip_log.specs.Taken.{Took}
use Rattle.rip_report.specs.CaptureLogs.{File, IsLogOf, manner_of}
use Rattle.ripaudit.specs.CaptureFiles.{AreFirstFiles}
use Rattle.ripaudit.proofs.capture_files.log_files.Given as goal

abbrev pub invariant-loop-i : goal.invariant-loop-i
invariant-loop-i g l = record {
  opened : length l.sources.items ≡ l.i;
  same : manner_of l.log ≡ l.fn.manner;
  so_far : (files : List File) → AreFirstFiles l.i (map (λ (w : Bor (List ℕ)). w.now) l.words) l.sources.items files → (text : List ℕ)
      × Took (g.K.Sink.taken l.fn.out) (g.K.Sink.taken l.out) text × IsLogOf l.log files text;
}
