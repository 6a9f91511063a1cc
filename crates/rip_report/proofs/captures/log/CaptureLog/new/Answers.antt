use Rattle.std.proofs.Common.{[], inl, map, ap, refl, sym}
use Rattle.rip_log.specs.Logs.{Log, Numbered}
use Rattle.rip_report.proofs.LogLineLemmas.{Reads}
use Rattle.rip_report.specs.CaptureLogs.SoFar.{none}
use Rattle.rip_report.proofs.captures.log.CaptureLog.new.Goals as goal

pub returns-clause-empty : goal.returns-clause-empty
returns-clause-empty c = record { count = refl; so_far = none }

pub returns-clause-says : goal.returns-clause-says
returns-clause-says c = record {
  ends = inl refl;
  says = λ plain are records log.
      let known = (c.log_texts.ensures.text [] records).1 log in
      let reads : Reads 0 [] records = cc known in
      (refl, ap (map (λ (r : Numbered). r.capture)) (sym (ap (λ (l : Log). l.records) reads)));
}
