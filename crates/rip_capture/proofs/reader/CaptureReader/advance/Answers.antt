use Rattle.std.proofs.Common.{◌≡◌, ◌∙◌, None, Some, refl, sym}
use Rattle.rip_capture.proofs.ReaderLemmas.{Runs-refused}
use Rattle.rip_capture.specs.declared.reader.CaptureReader.{CaptureReader}
use Rattle.rip_capture.proofs.reader.CaptureReader.advance.Goals as goal

pub returns-in-Err-clause-leaves : goal.returns-in-Err-clause-leaves
returns-in-Err-clause-leaves g c =
    let S = g.R.Source in
    let mid = c.find_packet.new.self in
    let error = c.in-Err.error in
    let new : CaptureReader g.row.R.Denot = record { parts = mid.parts; format = mid.format; section = mid.section; position = mid.position; refusal = Some error } in
    record {
      runs = λ was. Runs-refused S.given S.coming S.broken S.at_end c.args.self.now mid new error refl c.in-Err.ensures.runs;
      refused = refl;
      again = λ e is. let wrong : None ≡ Some e = sym c.in_default.is ∙ is in absurd (cc wrong);
    }
