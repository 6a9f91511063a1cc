use Rattle.std.proofs.Common.{ap}
use Rattle.rip_report.specs.HeardText.{plain_bad_line}
use Rattle.rip_report.proofs.OutLemmas.{adds_same}
use Rattle.rip_report.proofs.heard.nobody.push_bad_by.Goals as goal

pub returns : goal.returns
returns g c = λ events k heard is. adds_same (ap (plain_bad_line c.args.code) (c.bad.ensures events k heard is)) c.push_plain_bad_line.ensures
