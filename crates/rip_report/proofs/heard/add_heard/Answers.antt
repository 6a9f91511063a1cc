use Rattle.std.proofs.Common.{subst}
use Rattle.rip_report.specs.HeardText.{HeardLines}
use Rattle.rip_report.proofs.OutLemmas.{added_also}
use Rattle.rip_report.proofs.heard.add_heard.Goals as goal

pub returns : goal.returns
returns g c = λ events heard.
    let count = c.count_heard-heard.ensures events heard in
    added_also (λ text is. record {
      lines = subst (λ h. HeardLines c.args.plan.now events h text) count is;
      status = cc (c.status_of.ensures, c.interfaces.ensures, count, c.counts.ensures events heard);
    }) (c.add_lines.ensures events heard)
